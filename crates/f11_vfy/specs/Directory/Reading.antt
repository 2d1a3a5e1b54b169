-- What is read of a directory (Files-11 On-Disk Structure Level 1, "Directories").
use Rattle.std.specs.Prelude.{
  ◌≡◌,
  ℕ,
  ◌+◌,
  ◌-◌,
  ◌*◌,
  ◌/◌,
  ◌<◌,
  ◌≤◌,
  min,
  IsTrue,
  List,
  [],
  length,
  drop,
  slice_index,
  slice_index_or,
}
use Rattle.f11_chain.specs.FileHeaders.{blocks_by}
use Rattle.f11_dev.specs.Disk.{Disk}
use Rattle.f11_dev.specs.Image.{Image}
use Rattle.f11_dev.specs.Looked.{Looked}
use Rattle.f11_map.specs.HeaderBlock.{blocks_named}
use Rattle.f11_index.specs.IndexFile.{Index}
use Rattle.f11_index.specs.Table.{Table, table_in, IsLive}
use Rattle.f11_store.specs.Directory.{entry_count}
use Rattle.f11_store.specs.File.{File}
use Rattle.f11_vfy.specs.Surveying.Bits.{limit_of}
use Rattle.f11_vfy.specs.Chain.{KeepsTable, KnowsNexts, numbered}
use Rattle.f11_volume.specs.Contents.{following, blocks_reached, block_or_zeros, file_of}
use Rattle.f11_vfy.specs.Directory.Blank.{HoldNoRecord}
use Rattle.f11_vfy.specs.Directory.Gathered.{TakesOn, TakesRecords}
use Rattle.f11_vfy.specs.declared.directories.contents.Directory.{Directory}
use Rattle.f11_vfy.specs.declared.directories.gathered.Gathered.{Gathered}
use Rattle.f11_vfy.specs.declared.survey.slot.Slot.{Slot}

-- how many records before an end there are in the first so many blocks
abbrev pub until : ℕ → ℕ → ℕ
until end blocks = min end (32 * blocks)

-- how many of so many blocks, from block `at` on, hold a record before an end
abbrev pub wanted : ℕ → ℕ → ℕ → ℕ
wanted end at count = min count ((end + 31) / 32 - at)

-- the blocks at these LBNs are a directory's from its block `at` on
abbrev pub HasBlocks : Image → List ℕ → ℕ → List (List ℕ) → Type 0
HasBlocks image lbns at blocks = (k : ℕ) → k < length lbns → slice_index_or blocks (at + k) [] ≡ block_or_zeros image (slice_index lbns k)

-- the disk is honest, and this is its image
abbrev pub HasImage : Disk → Image → Type 0
HasImage disk image = IsTrue disk.honest × (disk.image ≡ image)

-- the blocks at these LBNs of an honest disk are a directory's from its block `at` on
abbrev pub HoldsDirectoryBlocks : Disk → List ℕ → ℕ → Image → List (List ℕ) → Type 0
HoldsDirectoryBlocks disk lbns at image blocks = HasImage disk image × HasBlocks image lbns at blocks

-- the block at this LBN of an honest disk is a directory's block `at`
abbrev pub HoldsDirectoryBlock : Disk → ℕ → ℕ → Image → List (List ℕ) → Type 0
HoldsDirectoryBlock disk lbn at image blocks = HasImage disk image × (slice_index_or blocks at [] ≡ block_or_zeros image lbn)

-- The blocks at these LBNs, which are a directory's from block `at` on, were taken, and read where they may hold a record before its end.
pub record TakesBlocks (slots : List Slot) (dir : Directory) (at : ℕ) (lbns : List ℕ) (before after : Gathered) (old new : Disk) : Type 0
  where
    pub takes : TakesOn slots dir.d (HoldsDirectoryBlocks old lbns at) (until dir.end at) (until dir.end (at + length lbns)) before after
    pub looked : Looked old new (wanted dir.end at (length lbns)) 0

-- Header n of a directory was read, and blocks that it names; so many transfers failed.
pub record LooksAtHeader (index : Index) (end at n : ℕ) (old new : Disk) (faults : ℕ) : Type 0 where
  pub count : ℕ
  pub looked : Looked old new (1 + wanted end at count) faults
  pub few : IsTrue old.honest → IsLive (table_in old.image index) n → count ≤ length (blocks_named ((table_in old.image index).header n))

-- the blocks that header n names are a directory's from its block `at` on
pub record HoldsHeaderBlocks (index : Index) (n at : ℕ) (disk : Disk) (image : Image) (blocks : List (List ℕ)) : Type 0 where
  pub live : IsLive (table_in disk.image index) n
  pub holds : HoldsDirectoryBlocks disk (blocks_named ((table_in disk.image index).header n)) at image blocks

-- Header n of a directory was read, and its blocks, so many, were taken.
pub record TakesHeader (index : Index) (slots : List Slot) (dir : Directory) (at n count : ℕ) (before after : Gathered)
    (old new : Disk) : Type 0 where
  pub takes : TakesOn slots dir.d (HoldsHeaderBlocks index n at old) (until dir.end at) (until dir.end (at + count)) before after
  pub count_is : IsTrue old.honest → IsLive (table_in old.image index) n →
      count ≡ length (blocks_named ((table_in old.image index).header n))
  pub few : count ≤ 32512
  pub looked : Looked old new (1 + wanted dir.end at count) 0

-- Of the blocks of file d those from block `at` on are those of header n, 0 for none, and of those behind it, so many at most.
pub record ComesTo (t : Table) (d at n most : ℕ) : Type 0 where
  pub within : at ≤ length (blocks_reached t d)
  pub rest : drop at (blocks_reached t d) ≡ blocks_by t (following most t (numbered n))
  pub live : 1 ≤ n → IsLive t n

-- A directory's headers from its second one on were looked at, and their blocks; so many transfers failed.
pub record LooksAtHeaders (index : Index) (nexts : List ℕ) (dir : Directory) (at n most : ℕ) (old new : Disk) (faults : ℕ) : Type 0 where
  pub reads : ℕ
  pub looked : Looked old new reads faults
  pub few : IsTrue old.honest → KnowsNexts (table_in old.image index) nexts → ComesTo (table_in old.image index) dir.d at n most
      → wanted dir.end 0 at + reads ≤ most + wanted dir.end 0
      (length (blocks_reached (table_in old.image index) dir.d))

-- They were taken.
pub record TakesHeaders (index : Index) (slots : List Slot) (nexts : List ℕ) (dir : Directory) (at n most : ℕ)
    (before after : Gathered) (old new : Disk) : Type 0 where
  pub limit : limit_of after.entered ≡ limit_of before.entered
  pub takes : (first : Gathered) → IsTrue old.honest → KnowsNexts (table_in old.image index) nexts →
      KeepsTable (table_in old.image index) slots → ComesTo (table_in old.image index) dir.d at n most
      → TakesRecords old.image (table_in old.image index) dir.d (file_of old.image (table_in old.image index) dir.d).blocks
      (until dir.end at) first before
      → TakesRecords old.image (table_in old.image index) dir.d (file_of old.image (table_in old.image index) dir.d).blocks
      (until dir.end (length (file_of old.image (table_in old.image index) dir.d).blocks)) first after
  pub looked : LooksAtHeaders index nexts dir at n most old new 0

-- how many blocks hold records below the end
abbrev pub record_blocks : File → ℕ
record_blocks f = (entry_count f + 31) / 32

-- At most 256 headers of a directory are read, and the blocks that hold records below the end.
abbrev pub most_reads : Image → Table → ℕ → ℕ
most_reads image t d = 256 + record_blocks (file_of image t d)

-- A directory was looked at; so many transfers failed.
pub record LooksFor (index : Index) (nexts : List ℕ) (d : ℕ) (old new : Disk) (faults : ℕ) : Type 0 where
  pub reads : ℕ
  pub looked : Looked old new reads faults
  pub few : IsTrue old.honest → KnowsNexts (table_in old.image index) nexts → IsLive (table_in old.image index) d →
      reads ≤ most_reads old.image (table_in old.image index) d

-- A directory's records were taken.
pub record TakesDirectory (index : Index) (slots : List Slot) (nexts : List ℕ) (d : ℕ) (before after : Gathered)
    (old new : Disk) : Type 0 where
  pub limit : limit_of after.entered ≡ limit_of before.entered
  pub takes : IsTrue old.honest → KnowsNexts (table_in old.image index) nexts →
      KeepsTable (table_in old.image index) slots → IsLive (table_in old.image index) d → HoldNoRecord before.blank old.image
      → TakesRecords old.image (table_in old.image index) d (file_of old.image (table_in old.image index) d).blocks
      (entry_count (file_of old.image (table_in old.image index) d)) before after
  pub looked : LooksFor index nexts d old new 0
