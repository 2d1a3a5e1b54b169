-- What requests make of the windows that accesses keep, and what a block that stands in one costs (profile).
use Rattle.std.specs.Prelude.{◌≡◌, ℕ, ◌+◌, ◌≤◌, Option, Some, None, Result, OnOk, false}
use Rattle.f11_chain.specs.Windows.{empty_window, HoldsBlock}
use Rattle.f11_chain.specs.declared.windows.Window.{Window}
use Rattle.f11_dev.specs.declared.device.Device.{Ghosts}
use Rattle.f11_store.specs.declared.refusals.Refusal.{Refusal}
use Rattle.f11_store.specs.declared.requests.Reply.{Reply}
use Rattle.f11_store.specs.declared.requests.Request.{Request}
use Rattle.f11_store.specs.declared.requests.Request.TheVariants as request
use Rattle.f11_fcp.specs.Accesses.{Entry, AccessTable, with_empty_windows, with_table_entry, with_window}
use Rattle.f11_fcp.specs.Handles.{State}
use Rattle.f11_fcp.specs.Serving.{state_in}
use Rattle.f11_fcp.specs.Windows.{IsNextWindow}
use Rattle.f11_fcp.specs.declared.volume.Volume.{Volume}

-- the block that a request reads or writes: that of a lun, by VBN
abbrev pub block_of : Request → Option (ℕ × ℕ)
block_of (request.ReadBlock lun vbn) = Some (lun, vbn)
block_of (request.WriteBlock lun vbn) = Some (lun, vbn)
block_of _ = None

-- Block `vbn` stands in the window of what a lun holds.
pub record StandsInWindow (t : AccessTable) (task lun vbn : ℕ) : Type 0 where
  pub entry : Entry
  pub held : t task lun ≡ Some entry
  pub holds : HoldsBlock entry.window vbn

-- a block that stands in the window of its lun takes one transfer at most
abbrev pub TakesOneTransfer : ℕ → Request → State → State → Type 0
TakesOneTransfer task r old new =
    (lun vbn : ℕ) → block_of r ≡ Some (lun, vbn) → StandsInWindow old.table task lun vbn → new.disk.transfers ≤ old.disk.transfers + 1

-- Block `vbn` of what a lun holds was reached by a window: the lun's access keeps it, and all other accesses what they kept.
pub record ReachesByWindow (task lun vbn : ℕ) (old new : State) : Type 0 where
  pub entry : Entry
  pub held : old.table task lun ≡ Some entry
  pub window : Window
  pub next : IsNextWindow old.home entry vbn window old.disk
  pub table_is : new.table ≡ with_table_entry old.table task lun (Some (with_window window entry))

-- The file that a lun holds was cut: the windows of all accesses to it hold no run.
pub record EmptiesWindows (task lun : ℕ) (old new : State) : Type 0 where
  pub entry : Entry
  pub held : old.table task lun ≡ Some entry
  pub table_is : new.table ≡ with_empty_windows entry.file old.table

-- An access was held before, to this file and with this window.
pub record WasHeld (t : AccessTable) (task lun : ℕ) (e : Entry) : Type 0 where
  pub was : Entry
  pub held : t task lun ≡ Some was
  pub file_is : e.file ≡ was.file
  pub window_is : e.window ≡ was.window

-- so was each
abbrev pub KeepsWindows : AccessTable → AccessTable → Type 0
KeepsWindows old new = (task lun : ℕ) (e : Entry) → new task lun ≡ Some e → WasHeld old task lun e

-- What windows are after a request that was served: that of a new access holds no run, nor do those of the file's accesses where it was
-- cut; a block that was read or written was reached by one; and all others are what they were.
abbrev pub WindowsAfter : ℕ → Request → State → State → Type 0
WindowsAfter task (request.Access f mode lun) old new =
    new.table ≡ with_table_entry old.table task lun (Some (record { file = f; mode = mode; marked = false; window = empty_window }))
WindowsAfter task (request.ReadBlock lun vbn) old new = ReachesByWindow task lun vbn old new
WindowsAfter task (request.WriteBlock lun vbn) old new = ReachesByWindow task lun vbn old new
WindowsAfter task (request.Truncate lun to) old new = EmptiesWindows task lun old new
WindowsAfter task _ old new = KeepsWindows old.table new.table

-- A request was served, and so are windows then; a block that stands in one took one transfer at most, whatever was answered.
pub record ServesWithWindows {D : Type 0} {met : Ghosts D} (task : ℕ) (r : Request) (result : Result Reply Refusal)
    (old new : Volume D met) : Type 0 where
  pub once : TakesOneTransfer task r (state_in old) (state_in new)
  pub after : OnOk result (WindowsAfter task r (state_in old) (state_in new))
