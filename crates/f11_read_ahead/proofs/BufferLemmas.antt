-- What a buffer keeps after a write of the device.
use Rattle.std.proofs.Common.{◌≡◌, ℕ, ◌<◌, Bool, IsTrue, List, length, sym, subst, inl, inr, Result, Ok, Err, is_ok}
use Rattle.f11_dev.specs.Disk.{Disk, Writes}
use Rattle.f11_read_ahead.specs.Buffer.{AfterWrite, Keeps}
use Rattle.f11_read_ahead.specs.declared.buffer.Buffer.{Buffer}

pub keeps-written : {E : Type 0} (result : Result Unit E) (passed : Bool) (lbn : ℕ) (from : List ℕ) (old new : Disk) (before after : Buffer)
    → passed ≡ is_ok result → lbn < length old.image → Writes result lbn from old new → AfterWrite passed lbn from before after
    → (IsTrue old.honest → Keeps old.image before) → IsTrue new.honest → Keeps new.image after
keeps-written (Ok x) passed lbn from old new before after is within writes wrote keeps =
    subst (λ (d : Disk). IsTrue d.honest → Keeps d.image after) (sym writes.ok)
    (λ honest. wrote.passes is old.image within (keeps honest))
keeps-written (Err e) passed lbn from old new before after is within writes wrote keeps = elim writes.err [
  | inl kept ↦ subst (λ (d : Disk). IsTrue d.honest → Keeps d.image after) (sym kept)
      (λ honest. (wrote.fails is old.image (keeps honest)).0)
  | inr landed ↦ subst (λ (d : Disk). IsTrue d.honest → Keeps d.image after) (sym landed)
      (λ honest. (wrote.fails is old.image (keeps honest)).1)
]
