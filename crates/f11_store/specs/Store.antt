-- The plain store: the files of a volume, its counts, and the accesses that tasks hold. It knows no disk.
-- A section in parentheses is one of the Files-11 On-Disk Structure Level 1 specification; 'profile' is a rule of this project.
use Rattle.std.specs.Prelude.{ℕ, ◌-◌, ◌==◌, ◌&&◌, Bool, true, false, not, List, length, Option, Some}
use Rattle.std.specs.Prelude.{None, unwrap_or, if◌then◌else◌, slice_index, filter}
use Rattle.std.specs.List.{list_any, range_with_len}
use Rattle.std.specs.Option.{option_and_then}
use Rattle.f11_store.specs.declared.files.FileId.{FileId}
use Rattle.f11_store.specs.declared.files.Mode.{Mode}
use Rattle.f11_store.specs.declared.files.Mode.TheVariants as mode
use Rattle.f11_store.specs.File.{File, no_file}

-- an access that a task holds by a lun
pub record Access : Type 0 where
  pub file : FileId
  pub mode : Mode

-- the plain store
pub record Store : Type 0 where
  -- the file whose own slot this is
  pub file : ℕ → Option File
  -- the number of free blocks
  pub free : ℕ
  -- the number of slots: they are counted from 1
  pub slots : ℕ
  -- a slot is in use
  pub in_use : ℕ → Bool
  -- the sequence number that a slot was last given
  pub last : ℕ → ℕ
  -- what a task (0 to 7) holds by a lun (0 to 3)
  pub access : ℕ → ℕ → Option Access
  -- what never changes: the blocks of the storage bitmap and of the index bitmap, and the most slots there
  -- may be, which is the least of H.FMAX (home block), 4096 for each index bitmap block, and 65535 (profile)
  pub bitmap_blocks : ℕ
  pub index_bitmap_blocks : ℕ
  pub limit : ℕ

-- the file, if its sequence number is this one
abbrev pub of_sequence : ℕ → File → Option File
of_sequence sequence f = if f.sequence == sequence then Some f else None

-- the file with that number and sequence number
abbrev pub file_of : Store → FileId → Option File
file_of s id = option_and_then (of_sequence id.sequence) (s.file id.number)

-- the file with that number and sequence number, or an empty one
abbrev pub file_named : Store → FileId → File
file_named s id = unwrap_or (file_of s id) no_file

-- no access, as an identification
abbrev pub no_id : FileId
no_id = record { number = 0; sequence = 0; volume = 0 }

-- the identification in what is held
abbrev pub id_in : Option Access → FileId
id_in (Some a) = a.file
id_in None = no_id

-- the identification of the file that the task accesses by the lun
abbrev pub id_held : Store → ℕ → ℕ → FileId
id_held s task lun = id_in (s.access task lun)

-- the file that the task accesses by the lun, or an empty one
abbrev pub file_held : Store → ℕ → ℕ → File
file_held s task lun = file_named s (id_held s task lun)

-- the index file, or an empty one
abbrev pub index_file : Store → File
index_file s = unwrap_or (s.file 1) no_file

-- the free ones of so many slots, from 6 up (profile)
abbrev pub free_among : ℕ → (ℕ → Bool) → List ℕ
free_among slots in_use = filter (λ n. not (in_use n)) (range_with_len 6 (slots - 5))

-- the free slots
unfoldable pub free_slots : Store → List ℕ
free_slots s = free_among s.slots s.in_use

-- the number of free headers
abbrev pub free_headers : Store → ℕ
free_headers s = length (free_slots s)

-- the least free slot
abbrev pub least_free : Store → ℕ
least_free s = slice_index (free_slots s) 0

-- the two name one file
abbrev pub is_same : FileId → FileId → Bool
is_same a b = (a.number == b.number) && (a.sequence == b.sequence)

-- what is held is an access to the file in a mode that passes the test
abbrev pub is_to : (Mode → Bool) → FileId → Option Access → Bool
is_to test id None = false
is_to test id (Some a) = is_same a.file id && test a.mode

-- some task accesses the file by some lun in a mode that passes the test
unfoldable pub is_held : (Mode → Bool) → Store → FileId → Bool
is_held test s id =
    list_any (λ task. list_any (λ lun. is_to test id (s.access task lun)) (range_with_len 0 4)) (range_with_len 0 8)

-- some task accesses the file
abbrev pub is_accessed : Store → FileId → Bool
is_accessed s id = is_held (λ _. true) s id

-- an access stands against one to write: it locks or writes
abbrev pub bars_writing : Mode → Bool
bars_writing mode.Read = false
bars_writing mode.Locked = true
bars_writing mode.Write = true

-- an access stands against one in the mode asked: Locked beside Write, Write beside Write or Locked (profile)
abbrev pub bars : Mode → Mode → Bool
bars mode.Read other = false
bars mode.Locked mode.Read = false
bars mode.Locked mode.Locked = false
bars mode.Locked mode.Write = true
bars mode.Write other = bars_writing other
