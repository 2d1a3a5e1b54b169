-- A header's retrieval pointers, and windows: a few of them in a row (Files-11 On-Disk Structure Level 1, "Map Area"; profile: seven).
use Rattle.std.specs.Prelude.{◌≡◌, ℕ, ◌+◌, ◌-◌, ◌<◌, ◌≤◌, IsTrue, List, ◌++◌, length, replicate, take, drop, slice_range, All, Some, Result}
use Rattle.std.specs.List.{slice_get}
use Rattle.f11_dev.specs.Disk.{Disk, Reads, Writes}
use Rattle.f11_index.specs.IndexFile.{Index}
use Rattle.f11_index.specs.Table.{Table, IsHeaderOf}
use Rattle.f11_index.specs.map.HeaderBlock.{blocks_named, runs_named, segment_number}
use Rattle.f11_index.specs.map.MapArea.{blocks_in, LiesIn}
use Rattle.f11_chain.specs.Calls.{table, LooksAlongFile}
use Rattle.f11_chain.specs.FileHeaders.{file_blocks, blocks_before, block_by_vbn}
use Rattle.f11_chain.specs.declared.windows.Window.{Window}

-- a window that holds no run
abbrev pub empty_window : Window
empty_window = record { first = 1; used = 0; runs = replicate 7 (0, 0) }

-- the runs that a window holds, and their blocks laid end to end
abbrev pub runs_held : Window → List (ℕ × ℕ)
runs_held w = take w.used w.runs

abbrev pub blocks_held : Window → List ℕ
blocks_held w = blocks_in (runs_held w)

-- These stand in a row in a list, behind so many of it.
pub record StandsIn (whole : List ℕ) (at : ℕ) (part : List ℕ) : Type 0 where
  pub before : List ℕ
  pub behind : List ℕ
  pub whole_is : whole ≡ before ++ (part ++ behind)
  pub at_is : length before ≡ at

-- A window's blocks are a file's, by VBN from its first one on.
abbrev pub IsWindowOf : Table → ℕ → Window → Type 0
IsWindowOf t f w = StandsIn (file_blocks t f) (w.first - 1) (blocks_held w)

-- Block `vbn` stands in a window.
pub record HoldsBlock (w : Window) (vbn : ℕ) : Type 0 where
  pub from : w.first ≤ vbn
  pub before : vbn < w.first + length (blocks_held w)

-- The runs of a window lie on a device of so many blocks; they are seven at most, and its first block has a VBN.
pub record LiesOn (w : Window) (blocks : ℕ) : Type 0 where
  pub few : w.used ≤ 7
  pub first : 0 < w.first
  pub within : All (λ (run : ℕ × ℕ). run.0 + run.1 ≤ blocks) (runs_held w)

-- A window holds the pointer of a header that names its block number `left`, from 0, which is block `vbn` of the file, and those
-- that follow it in the header, seven at most.
pub record HoldsRuns (block : List ℕ) (left vbn : ℕ) (w : Window) : Type 0 where
  pub pointer : ℕ
  pub within : ℕ
  pub lies : LiesIn (runs_named block) left pointer within
  pub runs : runs_held w ≡ take 7 (drop pointer (runs_named block))
  pub first : w.first + within ≡ vbn

-- It was filled with them, and they lie on the device.
pub record Fills (block : List ℕ) (left vbn blocks : ℕ) (w : Window) : Type 0 where
  pub holds : HoldsRuns block left vbn w
  pub on : LiesOn w blocks

-- One of those pointers doesn't.
pub record IsPast (block : List ℕ) (left blocks : ℕ) : Type 0 where
  pub pointer : ℕ
  pub within : ℕ
  pub lies : LiesIn (runs_named block) left pointer within
  pub behind : ℕ
  pub few : behind < 7
  pub run : ℕ × ℕ
  pub run_is : slice_get (runs_named block) (pointer + behind) ≡ Some run
  pub some : 0 < run.1
  pub past : blocks < run.0 + run.1

-- A window is that of block `vbn` of file f: it holds the pointer that names the block, and those that follow it in its header,
-- seven at most.
pub record IsWindowAt (t : Table) (f vbn : ℕ) (w : Window) : Type 0 where
  pub header : ℕ
  pub of_file : IsHeaderOf t f header
  pub left : ℕ
  pub vbn_is : vbn ≡ blocks_before t f header + left + 1
  pub holds : HoldsRuns (t.header header) left vbn w

-- The window of block `vbn` of file n was found: the header that names the block was read, and those before it.
pub record FindsWindow (index : Index) (n vbn : ℕ) (w : Window) (old new : Disk) : Type 0 where
  pub window_is : IsTrue old.honest → IsWindowAt (table index old) n vbn w
  pub holds : HoldsBlock w vbn
  pub on : LiesOn w (length old.image)
  pub looked : LooksAlongFile index n 0 old new 0
  pub no_further : (honest : IsTrue old.honest) → looked.headers ≤ segment_number ((table index old).header (window_is honest).header) + 1

-- block `vbn` stands in a window, in this place
pub record HoldsAt (w : Window) (vbn lbn : ℕ) : Type 0 where
  pub holds : HoldsBlock w vbn
  pub lbn_is : slice_get (blocks_held w) (vbn - w.first) ≡ Some lbn

-- One transfer was made: the block that stands in a window as block `vbn` was read.
pub record ReadsIn {E : Type 0} (w : Window) (vbn : ℕ) (result : Result Unit E) (into : List ℕ) (old new : Disk) : Type 0 where
  pub lbn : ℕ
  pub held : HoldsAt w vbn lbn
  pub within : lbn < length old.image
  pub reads : Reads result lbn into old new

-- One transfer was made: the block that stands in a window as block `vbn` was written.
pub record WritesIn {E : Type 0} (w : Window) (vbn : ℕ) (result : Result Unit E) (from : List ℕ) (old new : Disk) : Type 0 where
  pub lbn : ℕ
  pub held : HoldsAt w vbn lbn
  pub within : lbn < length old.image
  pub writes : Writes result lbn from old new

-- Laws. A header's blocks stand in the file's in a row, all of them.
abbrev pub HeaderStands : Type 0
HeaderStands =
    (t : Table) (f n : ℕ) → IsHeaderOf t f n → segment_number (t.header n) < 256 →
    StandsIn (file_blocks t f) (blocks_before t f n) (blocks_named (t.header n))

-- so does each row of its pointers
abbrev pub WindowStands : Type 0
WindowStands =
    (t : Table) (f vbn : ℕ) (w : Window) (is : IsWindowAt t f vbn w) → segment_number (t.header is.header) < 256 → IsWindowOf t f w

-- what stands in a row is a slice
abbrev pub RowIsSlice : Type 0
RowIsSlice = (whole part : List ℕ) (at : ℕ) → StandsIn whole at part → slice_range whole at (at + length part) ≡ part

-- and the other way round
abbrev pub SliceIsRow : Type 0
SliceIsRow = (whole part : List ℕ) (at : ℕ) → at ≤ length whole → slice_range whole at (at + length part) ≡ part → StandsIn whole at part

-- it stays one where others come behind
abbrev pub RowStays : Type 0
RowStays = (whole part more : List ℕ) (at : ℕ) → StandsIn whole at part → StandsIn (whole ++ more) at part

-- and its elements are the list's
abbrev pub RowHas : Type 0
RowHas = (whole part : List ℕ) (at i : ℕ) → StandsIn whole at part → i < length part → slice_get whole (at + i) ≡ slice_get part i

-- where a window's blocks are the file's, each that it holds is the file's by VBN
abbrev pub WindowHas : Type 0
WindowHas = (t : Table) (f vbn lbn : ℕ) (w : Window) → IsWindowOf t f w → 0 < w.first → HoldsAt w vbn lbn → block_by_vbn t f vbn ≡ Some lbn

-- they are still where the file has more blocks
abbrev pub WindowStays : Type 0
WindowStays =
    (old new : Table) (f : ℕ) (w : Window) (more : List ℕ) → file_blocks new f ≡ file_blocks old f ++ more → IsWindowOf old f w →
    IsWindowOf new f w

-- an empty window is any file's
abbrev pub EmptyWindowIs : Type 0
EmptyWindowIs = (t : Table) (f : ℕ) → IsWindowOf t f empty_window
