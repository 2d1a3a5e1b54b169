-- Laws of the index file: what a write of one block leaves of it (Files-11 On-Disk Structure Level 1, "Index File").
use Rattle.std.specs.Prelude.{◌≡◌, ◌≢◌, ℕ, ◌<◌, ◌≤◌, Bool, IsTrue, List, length, Some, slice_set}
use Rattle.std.specs.List.{slice_get}
use Rattle.f11_dev.specs.Disk.{Disk, with_transfer, with_block_at}
use Rattle.f11_dev.specs.Image.{Image, image_block}
use Rattle.f11_home.specs.Home.{HomeFields}
use Rattle.f11_index.specs.ChangeLaws.{StaysHeader}
use Rattle.f11_index.specs.Calls.{SetsBit, WritesBit, with_bitmap_block}
use Rattle.f11_map.specs.HeaderBlock.{link_of, blocks_named}
use Rattle.f11_index.specs.IndexFile.{Index, index_of, index_file_blocks, slots, is_in_use, header_lbn}
use Rattle.f11_index.specs.Kept.{IsIndexFor}
use Rattle.f11_index.specs.Sound.{IsIndexFile, IsNoneOf, AreApart}
use Rattle.f11_index.specs.Table.{table_of, IsHeaderOf}

-- The index file is as it was, and says what it said.
pub record KeepsIndexFile (home : HomeFields) (old new : Image) : Type 0 where
  pub file : index_file_blocks new home ≡ index_file_blocks old home
  pub index : index_of new home ≡ index_of old home
  pub table : table_of new home ≡ table_of old home
  pub sound : IsIndexFile new home

-- these blocks are as they were
abbrev pub BlocksStay : List ℕ → Image → Image → Type 0
BlocksStay lbns old new = (i lbn : ℕ) → slice_get lbns i ≡ Some lbn → image_block new lbn ≡ image_block old lbn

-- an image of the same size that has the index file's blocks as they were keeps it
abbrev pub OtherImagesKeep : Type 0
OtherImagesKeep =
    (old new : Image) (home : HomeFields) → IsIndexFile old home → length new ≡ length old →
    BlocksStay (index_file_blocks old home) old new →
    KeepsIndexFile home old new

-- so a write of a block that is none of the index file's leaves it
abbrev pub OtherWriteKeeps : Type 0
OtherWriteKeeps =
    (image : Image) (home : HomeFields) (lbn : ℕ) (block : List ℕ) →
    IsIndexFile image home → IsNoneOf lbn (index_file_blocks image home) → KeepsIndexFile home image (slice_set image lbn block)

-- and what is kept of a disk's index file is for that disk still
abbrev pub OtherWriteStaysFor : Type 0
OtherWriteStaysFor =
    (index : Index) (home : HomeFields) (disk : Disk) (passed : Bool) (lbn : ℕ) (block : List ℕ) →
    (IsTrue disk.honest → IsIndexFile disk.image home × IsNoneOf lbn (index_file_blocks disk.image home)) →
    IsIndexFor index home disk → IsIndexFor index home (with_transfer passed (with_block_at lbn block disk))

-- The index file is as it was, and says that slots are in use as `index` does.
pub record KeepsButBit (home : HomeFields) (index : Index) (old new : Image) : Type 0 where
  pub file : index_file_blocks new home ≡ index_file_blocks old home
  pub index_is : index_of new home ≡ index
  pub table : table_of new home ≡ record (table_of old home) { in_use = is_in_use index }

-- a write of the bitmap block with one bit changed leaves all else that the index file says, where none of its blocks is twice
-- in it
abbrev pub BitWriteKeeps : Type 0
BitWriteKeeps =
    (image : Image) (home : HomeFields) (value : Bool) (n : ℕ) (after : Index) →
    IsIndexFile image home → AreApart (index_file_blocks image home) → 0 < n → n ≤ slots (index_of image home) →
    SetsBit value n (index_of image home) after →
    KeepsButBit home after image (with_bitmap_block image after n)

-- the other slots are in use or aren't as before
abbrev pub OtherSlotsStay : Type 0
OtherSlotsStay =
    (before after : Index) (value : Bool) (n m : ℕ) → SetsBit value n before after → m ≢ n → is_in_use after m ≡ is_in_use before m

-- so what is kept after it is for the disk
abbrev pub BitWriteStaysFor : Type 0
BitWriteStaysFor =
    (before after : Index) (home : HomeFields) (old new : Disk) (value : Bool) (n : ℕ) →
    (IsTrue old.honest → IsIndexFile old.image home × AreApart (index_file_blocks old.image home)) →
    0 < n → n ≤ slots before → IsIndexFor before home old → WritesBit value n before after old new → IsIndexFor after home new

-- a header leads to the same blocks and to the same next header
pub record LeadsAlike (old new : List ℕ) : Type 0 where
  pub blocks : blocks_named new ≡ blocks_named old
  pub link : link_of new ≡ link_of old

-- The index file is as it was, and has this as header n.
pub record KeepsButHeader (home : HomeFields) (n : ℕ) (block : List ℕ) (old new : Image) : Type 0 where
  pub file : index_file_blocks new home ≡ index_file_blocks old home
  pub index : index_of new home ≡ index_of old home
  pub header : (table_of new home).header n ≡ block
  pub others : (m : ℕ) → 0 < m → m ≤ slots (index_of old home) → m ≢ n → (table_of new home).header m ≡ (table_of old home).header m

-- A header may be rewritten where it is none of the index file's own, or where it leads to the same.
abbrev pub HeaderWriteKeeps : Type 0
HeaderWriteKeeps =
    (image : Image) (home : HomeFields) (n : ℕ) (block : List ℕ) →
    IsIndexFile image home → AreApart (index_file_blocks image home) → 0 < n → n ≤ slots (index_of image home) →
    (IsHeaderOf (table_of image home) 1 n → LeadsAlike ((table_of image home).header n) block) →
    KeepsButHeader home n block image (slice_set image (header_lbn (index_of image home) n) block)

-- so what is kept of a disk's index file is for that disk still
abbrev pub HeaderWriteStaysFor : Type 0
HeaderWriteStaysFor =
    (index : Index) (home : HomeFields) (disk : Disk) (passed : Bool) (n : ℕ) (block : List ℕ) →
    (IsTrue disk.honest → IsIndexFile disk.image home × AreApart (index_file_blocks disk.image home)) →
    (IsTrue disk.honest → IsHeaderOf (table_of disk.image home) 1 n → LeadsAlike ((table_of disk.image home).header n) block) →
    0 < n → n ≤ slots index → IsIndexFor index home disk →
    IsIndexFor index home (with_transfer passed (with_block_at (header_lbn index n) block disk))

-- the index file is as it should be where it is that before, has the blocks that it had, and each of its headers is as good
abbrev pub IndexFileStays : Type 0
IndexFileStays =
    (old new : Image) (home : HomeFields) →
    IsIndexFile old home → length new ≡ length old → index_file_blocks new home ≡ index_file_blocks old home →
    ((n : ℕ) → IsHeaderOf (table_of old home) 1 n → StaysHeader (table_of old home) (table_of new home) n) → IsIndexFile new home
