use Rattle.std.proofs.Common.{◌≡◌, ◌-◌, ◌*◌, ◌<◌, ◌&&◌, ℕ, IsTrue, nat_lt}
use Rattle.f11_bits.specs.Bitmap.{is_free, IsBitmapBlock}
use Rattle.f11_dev.specs.Looked.{Looked}
use Rattle.f11_vfy.specs.Surveying.Bits.{has, limit_of}
use Rattle.f11_vfy.proofs.survey.space.free_blocks.Given as goal

-- the free blocks of the bitmap blocks so far are there, and each of those was read once
abbrev pub invariant-loop-index : goal.invariant-loop-index
invariant-loop-index g l =
    let old = g.D.Device.disk l.fn.device in
    let now = g.D.Device.disk l.device in
    record {
      limit : limit_of l.free ≡ l.size;
      each : IsTrue old.honest → (lbn : ℕ)
          → has l.free lbn ≡ (nat_lt lbn (4096 * l.index) && is_free old.image (record { places = l.places; size = l.size }) lbn);
      last : IsTrue old.honest → 0 < l.index
          → IsBitmapBlock old.image (record { places = l.places; size = l.size }) (l.index - 1) l.block;
      looked : Looked old now l.index 0;
    }
