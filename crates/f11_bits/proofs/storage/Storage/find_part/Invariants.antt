use Rattle.std.proofs.Common.{◌≡◌, ℕ, ◌-◌, ◌*◌, ◌/◌, ◌<◌, ◌≤◌, IsTrue, false}
use Rattle.f11_dev.specs.Looked.{Looked}
use Rattle.f11_bits.specs.Bitmap.{is_free}
use Rattle.f11_bits.specs.Storage.{bitmap_of}
use Rattle.f11_bits.specs.Transfers.{blocks_from}
use Rattle.f11_bits.proofs.storage.Storage.find_part.Given as goal

-- no block so far is free, and each bitmap block was read once
abbrev pub invariant-loop-index : goal.invariant-loop-index
invariant-loop-index g l =
    let old = g.D.Device.disk l.fn.device in
    let now = g.D.Device.disk l.device in
    record {
      none : IsTrue old.honest → (k : ℕ) → l.from ≤ k → k < 4096 * l.index → is_free old.image (bitmap_of l.fn.self) k ≡ false;
      within : l.index - l.from / 4096 ≤ blocks_from (bitmap_of l.fn.self) l.from;
      looked : Looked old now (l.index - l.from / 4096) 0;
    }
