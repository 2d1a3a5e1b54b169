-- What is asked without a device fault or Damaged (profile).
use Rattle.std.specs.Prelude.{◌≡◌, ◌⊎◌, false, true, List, [], ◌∷◌, Result}
use Rattle.f11_store.specs.declared.refusals.Refusal.{Refusal}
use Rattle.f11_fcp.specs.files.Answers.{is_fatal}
use Rattle.f11_making.specs.Asking.{Asking, Denies, FilesService, Grants, Who}
use Rattle.f11_making.specs.FilesPlan.{AnswerOf, Asks, Question}
use Rattle.f11_making.specs.Telling.{is_whole}

-- each was asked, one after another, and was granted, or refused, though not as a device fault or Damaged
abbrev pub TriedCleanly : {V : Type 0} → FilesService V → Who → List Asking → V → V → Type 0
TriedCleanly S who [] old new = new ≡ old
TriedCleanly {V} S who (x ∷ xs) old new =
    (between : V) × ((Grants S who x old between) ⊎ ((e : Refusal) × (is_fatal e ≡ false) × Denies S who x e old between))
    × (TriedCleanly S who xs between new)

-- Such things were asked, none refused as a device fault or Damaged.
pub record Cleanly {V : Type 0} (S : FilesService V) (who : Who) (v w : V) : Type 0 where
  pub asked : List Asking
  pub tried : TriedCleanly S who asked v w

-- so of the questions of a plan: none was answered as a device fault or Damaged
abbrev pub AskedCleanly : {V : Type 0} → FilesService V → Who → List Question → V → V → Type 0
AskedCleanly S who [] old new = new ≡ old
AskedCleanly {V} S who (q ∷ qs) old new =
    (between : V) × (answer : Result (AnswerOf q) Refusal) × (is_whole answer ≡ true) × (Asks S who q answer old between)
    × (AskedCleanly S who qs between new)
