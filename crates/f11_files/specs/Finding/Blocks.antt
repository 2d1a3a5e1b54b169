-- What the calls on a file's blocks do.
use Rattle.std.specs.Prelude.{◌≡◌, ℕ, ◌+◌, ◌-◌, ◌<◌, Bool, IsTrue, List, length, Some, None}
use Rattle.std.specs.List.{slice_get}
use Rattle.f11_dev.specs.Disk.{Disk}
use Rattle.f11_home.specs.Home.{HomeFields}
use Rattle.f11_index.specs.Table.{table_of, IsFile}
use Rattle.f11_chain.specs.FileHeaders.{block_by_vbn}
use Rattle.f11_store.specs.Causes.{first_of}
use Rattle.f11_store.specs.Changes.{with_block, with_change}
use Rattle.f11_store.specs.Cost.{header_count}
use Rattle.f11_store.specs.Lags.{Work, one_part, file_changes}
use Rattle.f11_store.specs.Store.{file_named}
use Rattle.f11_store.specs.declared.files.FileId.{FileId}
use Rattle.f11_store.specs.declared.refusals.Refusal.{Refusal}
use Rattle.f11_writes.specs.Kept.{file_in}
use Rattle.f11_image_store.specs.Allocation.{KeepsBlocks}
use Rattle.f11_files.specs.Answers.{ReadsAtMost, Does, FailsToWrite}
use Rattle.f11_files.specs.Operations.{length_causes}
use Rattle.f11_image_store.specs.StoreOf.{store_of}

-- Block `vbn` of a file was found.
pub record FindsBlock (home : HomeFields) (f : FileId) (vbn lbn : ℕ) (old new : Disk) : Type 0 where
  pub no_cause : IsTrue old.honest → first_of (length_causes (store_of old.image home) f vbn) ≡ None
  pub named : IsTrue old.honest → file_named (store_of old.image home) f ≡ file_in home f.number old.image
  pub file : IsTrue old.honest → IsFile (table_of old.image home) f.number
  pub block_is : IsTrue old.honest → block_by_vbn (table_of old.image home) f.number vbn ≡ Some lbn
  pub within : lbn < length old.image
  pub reads : ReadsAtMost (header_count (file_named (store_of old.image home) f)) old new 0

-- It was read: the block is the file's.
pub record ReadsBlock (home : HomeFields) (f : FileId) (vbn : ℕ) (block : List ℕ) (old new : Disk) : Type 0 where
  pub no_cause : IsTrue old.honest → first_of (length_causes (store_of old.image home) f vbn) ≡ None
  pub block_is : IsTrue old.honest → slice_get (file_named (store_of old.image home) f).blocks (vbn - 1) ≡ Some block
  pub reads : ReadsAtMost (header_count (file_named (store_of old.image home) f) + 1) old new 0

-- the work of writing a block
abbrev pub block_work : FileId → ℕ → List ℕ → Work
block_work f vbn block = one_part f.number (file_changes f.number (with_block vbn block))

-- It was written: the file has this block there, and all else is as it was.
abbrev pub StoresBlock : HomeFields → FileId → ℕ → List ℕ → Disk → Disk → Type 0
StoresBlock home f vbn block old new =
    let s = store_of old.image home in
    Does (length_causes s f vbn) (block_work f vbn block) (header_count (file_named s f) + 1)
    (λ t. t ≡ with_change s f.number (with_block vbn block)) KeepsBlocks home old new

-- It was not.
abbrev pub FailsToStore : Bool → HomeFields → FileId → ℕ → List ℕ → Refusal → Disk → Disk → Type 0
FailsToStore failed home f vbn block refusal old new =
    let s = store_of old.image home in
    FailsToWrite failed (length_causes s f vbn) (header_count (file_named s f) + 1) (block_work f vbn block) home refusal old new
