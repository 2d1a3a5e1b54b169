-- What making a file does.
use Rattle.std.specs.Prelude.{◌≡◌, ℕ, ◌+◌, Bool, false, IsTrue, List}
use Rattle.f11_dev.specs.Disk.{Disk}
use Rattle.f11_home.specs.Home.{HomeFields}
use Rattle.f11_store.specs.Causes.{create_causes}
use Rattle.f11_store.specs.Changes.{after_create}
use Rattle.f11_store.specs.Cost.{slots_cost}
use Rattle.f11_store.specs.Headroom.{slots_first}
use Rattle.f11_store.specs.Lags.{make_work, new_file_work}
use Rattle.f11_store.specs.Step.{gets_slots, next_id}
use Rattle.f11_store.specs.declared.callers.Uic.{Uic}
use Rattle.f11_store.specs.declared.files.FileId.{FileId}
use Rattle.f11_store.specs.declared.refusals.Refusal.{Refusal}
use Rattle.f11_image_store.specs.Allocation.{KeepsBlocks}
use Rattle.f11_files.specs.Answers.{Does, FailsOrWants, FailsToWrite, KeepsUnused}
use Rattle.f11_files.specs.GrowingIndex.Headroom.{ReadiesHeaders}
use Rattle.f11_files.specs.Operations.{slot_causes}
use Rattle.f11_image_store.specs.StoreOf.{store_of}

-- A file was made in the least free slot, in three transfers, and this is its identification.
pub record EntersFile (home : HomeFields) (owner : Uic) (protection : ℕ) (ident attr : List ℕ) (f : FileId) (old new : Disk) : Type 0 where
  pub does : let s = store_of old.image home in
      Does (slot_causes s) (new_file_work s owner protection ident attr) 3 (λ t. t ≡ after_create s owner protection ident attr)
      (KeepsUnused KeepsBlocks) home old new
  pub id : IsTrue old.honest → f ≡ next_id (store_of old.image home)

-- It was not.
abbrev pub FailsToEnter : HomeFields → Uic → ℕ → List ℕ → List ℕ → Refusal → Disk → Disk → Type 0
FailsToEnter home owner protection ident attr refusal old new =
    let s = store_of old.image home in
    FailsToWrite false (slot_causes s) 3 (new_file_work s owner protection ident attr) home refusal old new

-- A file was made, once there was a header for it.
pub record Creates (home : HomeFields) (owner : Uic) (protection : ℕ) (ident attr : List ℕ) (f : FileId) (old new : Disk) : Type 0 where
  pub ready : Disk
  pub readies : ReadiesHeaders home 1 0 old ready
  pub enters : EntersFile home owner protection ident attr f ready new

-- It was not.
abbrev pub FailsToCreate : Bool → HomeFields → Uic → ℕ → List ℕ → List ℕ → Refusal → Disk → Disk → Type 0
FailsToCreate failed home owner protection ident attr refusal old new =
    let s = store_of old.image home in
    FailsOrWants (gets_slots (slots_first s 1)) failed (create_causes s) (slots_cost s 1 + 3) (make_work s owner protection ident attr) home
    refusal old new
