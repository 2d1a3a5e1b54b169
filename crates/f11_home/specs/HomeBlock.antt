-- The home block (Files-11 On-Disk Structure Level 1, "Home Block").
use Rattle.std.specs.Prelude.{◌≡◌, ◌⊎◌, ℕ, ◌+◌, ◌<◌, ◌≤◌, List, slice_range, codes}
use Rattle.f11_bytes.specs.Words.{word, long, with_word, word_sum}

-- H.IBSZ: how many blocks the index file's bitmap has
abbrev pub index_blocks : List ℕ → ℕ
index_blocks b = word b 0

-- H.IBLB: the LBN of the first of them, in two words, the high one first
abbrev pub index_lbn : List ℕ → ℕ
index_lbn b = long b 2

-- H.FMAX: how many files the volume may have
abbrev pub max_files : List ℕ → ℕ
max_files b = word b 6

-- H.VNAM: the volume's label
abbrev pub label : List ℕ → List ℕ
label b = slice_range b 14 26

-- Its fields are those of a valid home block of a device of so many blocks (profile: which are tested).
pub record HasHomeFields (b : List ℕ) (blocks : ℕ) : Type 0 where
  -- H.IBSZ is 1 to 16
  pub some_bitmap : 0 < index_blocks b
  pub small_bitmap : index_blocks b ≤ 16
  -- H.IBLB isn't 0, and the bitmap and the 16 headers after it are on the device
  pub index_placed : 0 < index_lbn b
  pub index_within : index_lbn b + index_blocks b + 16 ≤ blocks
  -- H.SBCL, the storage bitmap's cluster factor, is 1
  pub cluster : word b 8 ≡ 1
  -- H.VLEV, the structure level, is octal 401 or 402
  pub level : (word b 12 ≡ 257) ⊎ (word b 12 ≡ 258)
  -- H.INDF is the name of the format
  pub format : slice_range b 496 508 ≡ codes "DECFILE11A  "

-- Both check words are right.
pub record HasHomeSums (b : List ℕ) : Type 0 where
  -- H.CHK1 is the sum of the 29 words before it
  pub first : word b 58 ≡ word_sum b 29
  -- H.CHK2 is the sum of the 255 words before it
  pub second : word b 510 ≡ word_sum b 255

-- a block is a valid home block of a device of so many blocks
pub record IsHomeBlock (b : List ℕ) (blocks : ℕ) : Type 0 where
  pub fields : HasHomeFields b blocks
  pub sums : HasHomeSums b

-- the block with its first check word made right
abbrev pub with_first_sum : List ℕ → List ℕ
with_first_sum b = with_word b 58 (word_sum b 29)

-- the block with both made right, the first one before the second
abbrev pub with_sums : List ℕ → List ℕ
with_sums b = with_word (with_first_sum b) 510 (word_sum (with_first_sum b) 255)
