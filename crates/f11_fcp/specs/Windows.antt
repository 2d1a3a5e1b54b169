-- The windows that accesses keep, and by which one a block is reached (profile).
use Rattle.std.specs.Prelude.{◌≡◌, ℕ, ◌+◌, ◌-◌, ◌<◌, ◌≤◌, false, IsTrue, List, length, slice_range, Some}
use Rattle.f11_chain.specs.FileHeaders.{file_blocks}
use Rattle.f11_chain.specs.Windows.{blocks_held, HoldsBlock, IsWindowAt, LiesOn}
use Rattle.f11_chain.specs.declared.windows.Window.{Window}
use Rattle.f11_dev.specs.Disk.{Disk}
use Rattle.f11_dev.specs.declared.device.Device.{Ghosts}
use Rattle.f11_home.specs.Home.{HomeFields}
use Rattle.f11_files.specs.index.Table.{table_of}
use Rattle.f11_store.specs.Causes.{is_missing}
use Rattle.f11_store.specs.Cost.{header_count}
use Rattle.f11_store.specs.Store.{file_named}
use Rattle.f11_files.specs.Answers.{ReadsAtMost}
use Rattle.f11_files.specs.Finding.Windows.{HasWindow}
use Rattle.f11_files.specs.Open.{disk_in, has_failed, home_in, is_honest, store_in}
use Rattle.f11_files.specs.Rows.{KeepsRows, no_number}
use Rattle.f11_files.specs.declared.files.Files.{Files}
use Rattle.f11_files.specs.image_store.StoreOf.{store_of}
use Rattle.f11_fcp.specs.Accesses.{Entry, AccessTable, with_window}

-- A window's blocks are a slice of a file's, from the VBN of its first one on.
pub record IsSliceOf (blocks : List ℕ) (w : Window) : Type 0 where
  pub from : w.first - 1 ≤ length blocks
  pub slice_is : slice_range blocks (w.first - 1) (w.first - 1 + length (blocks_held w)) ≡ blocks_held w

-- An access keeps a window: its runs lie on the device, and where the disk is honest their blocks are the file's, by VBN.
pub record KeepsWindow {D : Type 0} {met : Ghosts D} (e : Entry) (files : Files D met) : Type 0 where
  pub on : LiesOn e.window (length (disk_in files).image)
  pub of_file : is_honest files → IsSliceOf (file_blocks (table_of (disk_in files).image (home_in files)) e.file.number) e.window

-- each access keeps one
abbrev pub HasWindows : {D : Type 0} {met : Ghosts D} → AccessTable → Files D met → Type 0
HasWindows t files = (task lun : ℕ) (e : Entry) → task < 8 → lun < 4 → t task lun ≡ Some e → KeepsWindow e files

-- No call has failed, and an access is to a file that is there, and keeps a window.
pub record IsHeld {D : Type 0} {met : Ghosts D} (e : Entry) (files : Files D met) : Type 0 where
  pub alive : has_failed files ≡ false
  pub there : is_honest files → is_missing (store_in files) e.file ≡ false
  pub keeps : KeepsWindow e files

-- A window is the one by which an access reaches block `vbn` of its file: the one that it keeps, where the block stands in it, and else,
-- where the disk is honest, that of the block.
pub record IsNextWindow (home : HomeFields) (e : Entry) (vbn : ℕ) (w : Window) (old : Disk) : Type 0 where
  pub stays : HoldsBlock e.window vbn → w ≡ e.window
  pub filled : ¬ HoldsBlock e.window vbn → IsTrue old.honest → IsWindowAt (table_of old.image home) e.file.number vbn w

-- It was found.
pub record FindsNext (home : HomeFields) (e : Entry) (vbn : ℕ) (w : Window) (old new : Disk) : Type 0 where
  pub next : IsNextWindow home e vbn w old
  pub holds : HoldsBlock w vbn
  pub on : LiesOn w (length old.image)
  pub has : IsTrue old.honest → HasWindow home e.file w old.image
  pub reads : ReadsAtMost (header_count (file_named (store_of old.image home) e.file)) old new 0

-- The access may keep it after a call.
pub record KeepsNext {D : Type 0} {met : Ghosts D} (e : Entry) (vbn : ℕ) (w : Window) (old new : Files D met) : Type 0 where
  pub next : IsNextWindow (home_in old) e vbn w (disk_in old)
  pub keeps : KeepsWindow (with_window w e) new

-- Each file has the blocks that it had, by VBN, and perhaps more behind them.
abbrev pub LeavesRows : {D : Type 0} {met : Ghosts D} → Files D met → Files D met → Type 0
LeavesRows old new = is_honest old → KeepsRows no_number (home_in old) (disk_in old).image (disk_in new).image
