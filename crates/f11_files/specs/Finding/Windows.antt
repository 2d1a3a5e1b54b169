-- What the calls on windows over a file's blocks do (profile).
use Rattle.std.specs.Prelude.{◌≡◌, ◌⊎◌, ℕ, Bool, true, false, IsTrue, List, length, None}
use Rattle.f11_chain.specs.Windows.{HoldsAt, HoldsBlock, IsWindowAt, IsWindowOf, LiesOn}
use Rattle.f11_chain.specs.declared.windows.Window.{Window}
use Rattle.f11_dev.specs.Disk.{Disk, with_block_at, with_transfer}
use Rattle.f11_dev.specs.Image.{Image}
use Rattle.f11_dev.specs.Looked.{Looked}
use Rattle.f11_home.specs.Home.{HomeFields}
use Rattle.f11_index.specs.Table.{table_of}
use Rattle.f11_store.specs.Causes.{first_of, is_missing}
use Rattle.f11_store.specs.Cost.{header_count}
use Rattle.f11_store.specs.Store.{file_named}
use Rattle.f11_store.specs.declared.files.FileId.{FileId}
use Rattle.f11_store.specs.declared.refusals.Refusal.{Refusal}
use Rattle.f11_store.specs.declared.refusals.Refusal.TheVariants.{DeviceFault, VolumeFailed}
use Rattle.f11_image_store.specs.StoreOf.{store_of}
use Rattle.f11_files.specs.Answers.{MakesAtMost, ReadsAtMost, WritesBlocksOf, faults_of}
use Rattle.f11_files.specs.Finding.Blocks.{FailsToStore, ReadsBlock, StoresBlock}
use Rattle.f11_files.specs.Open.{IsIdFrom}
use Rattle.f11_files.specs.Operations.{length_causes}

-- A file has a window: there is one of this identification, and the window's blocks are its, by VBN.
pub record HasWindow (home : HomeFields) (f : FileId) (w : Window) (image : Image) : Type 0 where
  pub there : is_missing (store_of image home) f ≡ false
  pub window : IsWindowOf (table_of image home) f.number w

-- A window is one of a file that requests reach, where the disk is honest.
pub record IsWindowOn (home : HomeFields) (f : FileId) (w : Window) (disk : Disk) : Type 0 where
  pub id : IsIdFrom 4 f
  pub has : IsTrue disk.honest → HasWindow home f w disk.image

-- It is one of some such file.
pub record IsOfFile (home : HomeFields) (w : Window) (disk : Disk) : Type 0 where
  pub file : FileId
  pub is : IsWindowOn home file w disk

-- The window of block `vbn` of a file was found; the block stands in it, and its blocks are on the device.
pub record FindsFileWindow (home : HomeFields) (f : FileId) (vbn : ℕ) (w : Window) (old new : Disk) : Type 0 where
  pub no_cause : IsTrue old.honest → first_of (length_causes (store_of old.image home) f vbn) ≡ None
  pub window_is : IsTrue old.honest → IsWindowAt (table_of old.image home) f.number vbn w
  pub has : IsTrue old.honest → HasWindow home f w old.image
  pub holds : HoldsBlock w vbn
  pub on : LiesOn w (length old.image)
  pub reads : ReadsAtMost (header_count (file_named (store_of old.image home) f)) old new 0

-- Block `vbn` was read by a window, in one transfer: it is that of each file which has the window.
pub record ReadsBy (home : HomeFields) (w : Window) (vbn : ℕ) (block : List ℕ) (old new : Disk) : Type 0 where
  pub once : new ≡ with_transfer true old
  pub of_file : (f : FileId) → IsWindowOn home f w old → ReadsBlock home f vbn block old new

-- A call by a window is refused where the volume had failed, or the transfer did, and for no other reason.
pub record IsOfFailure (failed : Bool) (refusal : Refusal) : Type 0 where
  pub only : (refusal ≡ VolumeFailed) ⊎ (refusal ≡ DeviceFault)
  pub volume : refusal ≡ VolumeFailed → failed ≡ true

-- It wasn't read.
pub record FailsToReadBy (failed : Bool) (refusal : Refusal) (old new : Disk) : Type 0 where
  pub why : IsOfFailure failed refusal
  pub looked : Looked old new 1 (faults_of refusal)

-- Block `vbn` was written by a window, in one transfer: each file which has the window has this block there, and all else is as it was.
pub record StoresBy (home : HomeFields) (w : Window) (vbn : ℕ) (block : List ℕ) (old new : Disk) : Type 0 where
  pub lbn : ℕ
  pub held : HoldsAt w vbn lbn
  pub once : new ≡ with_transfer true (with_block_at lbn block old)
  pub of_file : (f : FileId) → IsWindowOn home f w old → StoresBlock home f vbn block old new
  pub confined : (f : FileId) → IsWindowOn home f w old → WritesBlocksOf f home old new

-- It wasn't written, and one transfer was made at most.
pub record FailsToStoreBy (failed : Bool) (home : HomeFields) (w : Window) (vbn : ℕ) (block : List ℕ) (refusal : Refusal)
    (old new : Disk) : Type 0 where
  pub why : IsOfFailure failed refusal
  pub few : MakesAtMost 1 old new
  pub of_file : (f : FileId) → IsWindowOn home f w old → FailsToStore failed home f vbn block refusal old new
  pub confined : (f : FileId) → IsWindowOn home f w old → WritesBlocksOf f home old new
