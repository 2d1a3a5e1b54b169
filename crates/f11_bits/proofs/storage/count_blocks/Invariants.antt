use Rattle.std.proofs.Common.{◌≡◌, ◌-◌, ◌*◌, ◌<◌, ◌≤◌, min, IsTrue}
use Rattle.f11_dev.specs.Looked.{Looked}
use Rattle.f11_bits.specs.Bitmap.{IsBitmapBlock, count_below, is_free}
use Rattle.f11_bits.proofs.storage.count_blocks.Given as goal

-- the free blocks so far are counted, and each bitmap block was read once, the last one into `block`
abbrev pub invariant-loop-index : goal.invariant-loop-index
invariant-loop-index g l =
    let old = g.D.Device.disk l.fn.device in
    let now = g.D.Device.disk l.device in
    record {
      counts : IsTrue old.honest
          → l.count ≡ count_below (is_free old.image (record { places = l.places; size = l.size })) (min (4096 * l.index) l.size);
      few : l.count ≤ 4096 * l.index;
      last : 0 < l.index → IsTrue old.honest → IsBitmapBlock old.image (record { places = l.places; size = l.size }) (l.index - 1) l.block;
      looked : Looked old now l.index 0;
    }
