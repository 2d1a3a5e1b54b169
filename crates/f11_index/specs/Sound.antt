-- When an index file is as it should be (Files-11 On-Disk Structure Level 1, "Index File"; profile: which of it is tested).
use Rattle.std.specs.Prelude.{◌≡◌, ◌≢◌, ℕ, ◌+◌, ◌<◌, List, length, Some, All}
use Rattle.std.specs.List.{slice_get}
use Rattle.f11_dev.specs.Image.{Image}
use Rattle.f11_home.specs.Home.{HomeFields}
use Rattle.f11_index.specs.IndexFile.{index_file_blocks}
use Rattle.f11_index.specs.Table.{table_of, last_sequence, IsWholeFile}

-- The first blocks of the index file are where they should be: the boot block in LBN 0, the home block, the index bitmap from
-- H.IBLB on, and the first 16 headers behind it.
pub record IsPlaced (home : HomeFields) (blocks : List ℕ) : Type 0 where
  pub boot : slice_get blocks 0 ≡ Some 0
  pub home_block : slice_get blocks 1 ≡ Some home.lbn
  pub bitmap_and_headers : (i : ℕ) → i < home.index_blocks + 16 → slice_get blocks (2 + i) ≡ Some (home.index_lbn + i)

-- The index file is as it should be: it is the file 1,1, whose headers link rightly; it lies on the device; and its first
-- blocks are where they should be.
pub record IsIndexFile (image : Image) (home : HomeFields) : Type 0 where
  pub whole : IsWholeFile (table_of image home) 1
  pub sequence : last_sequence (table_of image home) 1 ≡ 1
  pub within : All (λ lbn. lbn < length image) (index_file_blocks image home)
  pub placed : IsPlaced home (index_file_blocks image home)

-- block `lbn` is none of these
abbrev pub IsNoneOf : ℕ → List ℕ → Type 0
IsNoneOf lbn blocks = (i : ℕ) → slice_get blocks i ≢ Some lbn

-- no block stands twice among these
abbrev pub AreApart : List ℕ → Type 0
AreApart blocks = (i j lbn : ℕ) → slice_get blocks i ≡ Some lbn → slice_get blocks j ≡ Some lbn → i ≡ j
