-- The blocks of the index file are slots (Files-11 On-Disk Structure Level 1, "Index File"): whether a file may get blocks, and what is
-- kept of the index file then.
use Rattle.std.specs.Prelude.{◌≡◌, ◌⊎◌, ℕ, ◌+◌, ◌≤◌, ◌==◌, Bool, IsTrue, if◌then◌else◌}
use Rattle.std.specs.List.{range_with_len}
use Rattle.f11_dev.specs.Disk.{Disk}
use Rattle.f11_index.specs.Calls.{with_blocks_behind}
use Rattle.f11_index.specs.IndexFile.{Index}
use Rattle.f11_index.specs.Kept.{room}
use Rattle.f11_files.specs.Structure.{index_in, store_on, StandsWithin}
use Rattle.f11_files.specs.declared.structure.Structure.{Structure}

-- the index file gets blocks, and each file that requests reach
abbrev pub GetsBlocks : ℕ → Type 0
GetsBlocks k = (k ≡ 1) ⊎ (4 ≤ k)

-- what is kept where so many blocks come, from an LBN on, that are slots or not: as far as there can be slots
abbrev pub index_behind : Bool → Index → ℕ → ℕ → Index
index_behind slots index lbn count = if slots then with_blocks_behind index lbn count else index

-- So many blocks may come to file k: where they are slots, there is room to keep them, and no more slots than there may be.
pub record MayCome (s : Structure) (k count : ℕ) (disk : Disk) : Type 0 where
  pub reserved : IsTrue (k == 1) → count ≤ room s.index
  pub limit : IsTrue disk.honest → IsTrue (k == 1) → (store_on s disk).slots + count ≤ (store_on s disk).limit

-- Each header is where it was, or is one of these blocks, and the same slots are in use.
pub record StaysBehind (s after : Structure) (lbn count : ℕ) : Type 0 where
  pub bits : (index_in after).bitmap ≡ (index_in s).bitmap
  pub within : (headers : ℕ → Bool) → StandsWithin s headers (range_with_len lbn count) after headers
