use Rattle.std.proofs.Common.{◌≡◌, ℕ, List, length, ap, ◌∙◌, inl, inr, Result, Ok, Err}
use Rattle.std.proofs.lemmas.List.{length-set}
use Rattle.f11_dev.specs.Disk.{Disk, Writes}
use Rattle.f11_floppies.proofs.tests.change.Goals as goal

-- a write leaves as many blocks, whether it passed or failed
as-many : {E : Type 0} (result : Result Unit E) (lbn : ℕ) (from : List ℕ) (old new : Disk) → Writes result lbn from old new
    → length new.image ≡ length old.image
as-many (Ok x) lbn from old new writes = ap (λ (d : Disk). length d.image) writes.ok ∙ length-set old.image lbn from
as-many (Err e) lbn from old new writes = elim writes.err [
  | inl same ↦ ap (λ (d : Disk). length d.image) same
  | inr lands ↦ ap (λ (d : Disk). length d.image) lands ∙ length-set old.image lbn from
]

pub returns : goal.returns
returns g c = as-many c.write.result _ _ _ _ c.write.ensures.writes
