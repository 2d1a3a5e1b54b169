-- What deleting a file does.
use Rattle.std.specs.Prelude.{◌≡◌, ◌-◌, Bool}
use Rattle.f11_dev.specs.Disk.{Disk}
use Rattle.f11_home.specs.Home.{HomeFields}
use Rattle.f11_index.specs.Headers.{headers_of}
use Rattle.f11_index.specs.Table.{table_of}
use Rattle.f11_store.specs.Changes.{without_file_at}
use Rattle.f11_store.specs.Cost.{cut_cost}
use Rattle.f11_store.specs.Lags.{go_work}
use Rattle.f11_store.specs.Store.{file_named}
use Rattle.f11_store.specs.declared.files.FileId.{FileId}
use Rattle.f11_store.specs.declared.refusals.Refusal.{Refusal}
use Rattle.f11_image_store.specs.Allocation.{LosesHeaders}
use Rattle.f11_files.specs.Answers.{Does, FailsToWrite}
use Rattle.f11_files.specs.Operations.{file_causes}
use Rattle.f11_image_store.specs.StoreOf.{store_of}

-- A file was deleted: it is gone, its slots aren't in use, and its blocks are free.
abbrev pub Deletes : HomeFields → FileId → Disk → Disk → Type 0
Deletes home f old new =
    let s = store_of old.image home in
    Does (file_causes s f) (go_work f.number) (cut_cost (file_named s f) - 1) (λ t. t ≡ without_file_at s f.number)
    (LosesHeaders (headers_of (table_of old.image home) f.number)) home old new

-- It was not, or not all of it.
abbrev pub FailsToDelete : Bool → HomeFields → FileId → Refusal → Disk → Disk → Type 0
FailsToDelete failed home f refusal old new =
    let s = store_of old.image home in
    FailsToWrite failed (file_causes s f) (cut_cost (file_named s f) - 1) (go_work f.number) home refusal old new
