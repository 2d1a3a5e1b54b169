-- What the calls on a file's attributes do.
use Rattle.std.specs.Prelude.{◌≡◌, Bool}
use Rattle.f11_dev.specs.Disk.{Disk}
use Rattle.f11_home.specs.Home.{HomeFields}
use Rattle.f11_store.specs.Changes.{with_change, with_delete_mark, with_replacement}
use Rattle.f11_store.specs.File.{File}
use Rattle.f11_store.specs.Lags.{one_part, file_changes, with_contiguous_mark}
use Rattle.f11_store.specs.declared.files.FileId.{FileId}
use Rattle.f11_store.specs.declared.refusals.Refusal.{Refusal}
use Rattle.f11_image_store.specs.Allocation.{KeepsBlocks}
use Rattle.f11_files.specs.Answers.{Does, FailsToWrite}
use Rattle.f11_files.specs.Operations.{file_causes}
use Rattle.f11_image_store.specs.StoreOf.{store_of}
use Rattle.f11_files.specs.declared.change.fields.Alteration.{Alteration}
use Rattle.f11_files.specs.declared.change.fields.Alteration.TheVariants as alteration

-- what each alteration of its first header makes of a file
abbrev pub altered_by : Alteration → File → File
altered_by (alteration.Replace change) = with_replacement change
altered_by alteration.Mark = with_delete_mark
altered_by alteration.MarkContiguous = with_contiguous_mark

-- A file was changed so, and all else is as it was, in two transfers.
abbrev pub Alters : (File → File) → HomeFields → FileId → Disk → Disk → Type 0
Alters change home f old new =
    let s = store_of old.image home in
    Does (file_causes s f) (one_part f.number (file_changes f.number change)) 2
    (λ t. t ≡ with_change s f.number change) KeepsBlocks home old new

-- It was not.
abbrev pub FailsToAlter : Bool → (File → File) → HomeFields → FileId → Refusal → Disk → Disk → Type 0
FailsToAlter failed change home f refusal old new =
    FailsToWrite failed (file_causes (store_of old.image home) f) 2 (one_part f.number (file_changes f.number change)) home refusal old new
