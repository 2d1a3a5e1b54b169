-- What tasks hold: accesses, and of each whether its file is marked for delete, and the window that is kept of it (profile).
use Rattle.std.specs.Prelude.{◌≡◌, ℕ, ◌<◌, ◌==◌, ◌&&◌, Bool, true, Option, Some, None, option_map, if◌then◌else◌}
use Rattle.f11_chain.specs.Windows.{empty_window}
use Rattle.f11_chain.specs.declared.windows.Window.{Window}
use Rattle.f11_store.specs.declared.files.FileId.{FileId}
use Rattle.f11_store.specs.declared.files.Mode.{Mode}
use Rattle.f11_store.specs.Accesses.{mark_of, with_accesses}
use Rattle.std.specs.List.{list_any, range_with_len}
use Rattle.f11_store.specs.Store.{Store, Access, is_same, is_to}

-- an access, whether its file is marked for delete, and its window
pub record Entry : Type 0 where
  pub file : FileId
  pub mode : Mode
  pub marked : Bool
  pub window : Window

-- what each task holds by each lun
abbrev pub AccessTable : Type 0
AccessTable = ℕ → ℕ → Option Entry

-- nothing
abbrev pub no_entries : AccessTable
no_entries task lun = None

-- what the task holds by the lun becomes this
abbrev pub with_table_entry : AccessTable → ℕ → ℕ → Option Entry → AccessTable
with_table_entry t task lun e = λ k l. if (k == task) && (l == lun) then e else t k l

-- an entry, of a file that is marked then if it is this one
abbrev pub marked_if : FileId → Entry → Entry
marked_if id e = if is_same e.file id then record e { marked = true } else e

-- each entry of the file is of a marked one
abbrev pub with_marks : FileId → AccessTable → AccessTable
with_marks id t = λ task lun. option_map (marked_if id) (t task lun)

-- one with this window
abbrev pub with_window : Window → Entry → Entry
with_window w e = record e { window = w }

-- an entry, whose window holds no run then if its file is this one
abbrev pub emptied_if : FileId → Entry → Entry
emptied_if id e = if is_same e.file id then with_window empty_window e else e

-- each access to the file has a window that holds no run
abbrev pub with_empty_windows : FileId → AccessTable → AccessTable
with_empty_windows id t = λ task lun. option_map (emptied_if id) (t task lun)

-- the access of an entry
abbrev pub access_of : Entry → Access
access_of e = record { file = e.file; mode = e.mode }

-- the accesses in a table
abbrev pub accesses : AccessTable → ℕ → ℕ → Option Access
accesses t task lun = option_map access_of (t task lun)

-- a store in which tasks hold this
abbrev pub held_in : AccessTable → Store → Store
held_in t s = with_accesses (accesses t) s

-- of what is held: whether its file is marked, where there is one
abbrev pub mark_there : Store → Option Entry → Option Bool
mark_there s None = None
mark_there s (Some e) = mark_of s e.file

-- and what is kept of it
abbrev pub mark_kept : Option Entry → Option Bool
mark_kept o = option_map (λ e. e.marked) o

-- Each access is to a file that is there, and of which what is kept of its mark is so.
abbrev pub HasAccessed : AccessTable → Store → Type 0
HasAccessed t s = (task lun : ℕ) → task < 8 → lun < 4 → mark_there s (t task lun) ≡ mark_kept (t task lun)

-- some task holds an access to the file in a mode that passes the test
unfoldable pub is_held_in : (Mode → Bool) → AccessTable → FileId → Bool
is_held_in test t id =
    list_any (λ task. list_any (λ lun. is_to test id (accesses t task lun)) (range_with_len 0 4)) (range_with_len 0 8)

-- any mode
abbrev pub any_mode : Mode → Bool
any_mode mode = true
