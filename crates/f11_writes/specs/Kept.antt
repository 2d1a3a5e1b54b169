-- What a write leaves of a sound volume, in a record for each kind of write. A law about the next write asks no more of the image than
-- stands here.
use Rattle.std.specs.Prelude.{◌≡◌, ◌≢◌, ℕ, ◌≤◌, List, [], map}
use Rattle.f11_bits.specs.Bitmap.{is_free, KeepsBitmap}
use Rattle.f11_dev.specs.Image.{Image}
use Rattle.f11_volume.specs.home.Home.{HomeFields}
use Rattle.f11_index.specs.Growth.{AddsIndexBlocks}
use Rattle.f11_index.specs.IndexFile.{Index}
use Rattle.f11_index.specs.Laws.{KeepsIndexFile, KeepsButBit, KeepsButHeader}
use Rattle.f11_index.specs.Table.{table_of, IsFile, IsHeaderOf}
use Rattle.f11_volume.specs.chain.FileHeaders.{file_blocks}
use Rattle.f11_volume.specs.store.Changes.{with_block}
use Rattle.f11_volume.specs.store.File.{File}
use Rattle.f11_volume.specs.Contents.{block_or_zeros, file_of}
use Rattle.f11_volume.specs.Sound.{HasSoundVolume}
use Rattle.f11_volume.specs.Space.{storage_bitmap}
use Rattle.f11_volume.specs.Volume.{volume_of}
use Rattle.f11_writes.specs.OtherSlots.{KeepsOtherSlots}

-- file f of an image whose home block this is
abbrev pub file_in : HomeFields → ℕ → Image → File
file_in home f image = file_of image (table_of image home) f

-- what the headers of file f say of it, without its blocks
abbrev pub said_of : HomeFields → ℕ → Image → File
said_of home f image = record (file_in home f image) { blocks = [] }

-- The volume is as it was: its index file, its headers, its storage bitmap with each of its blocks, and its free blocks.
pub record KeepsVolume (home : HomeFields) (old new : Image) : Type 0 where
  pub sound : HasSoundVolume new home
  pub index_file : KeepsIndexFile home old new
  pub bitmap : storage_bitmap new home ≡ storage_bitmap old home
  pub bitmap_blocks : KeepsBitmap (storage_bitmap old home) old new
  pub volume : volume_of new home ≡ volume_of old home

-- And so are all its files.
pub record KeepsFiles (home : HomeFields) (old new : Image) : Type 0 where
  pub keeps : KeepsVolume home old new
  pub files : (f : ℕ) → IsFile (table_of old home) f → file_in home f new ≡ file_in home f old

-- A block of file f was written, and all else is as it was.
pub record WritesBlock (f vbn : ℕ) (block : List ℕ) (home : HomeFields) (old new : Image) : Type 0 where
  pub keeps : KeepsVolume home old new
  pub file : file_in home f new ≡ with_block vbn block (file_in home f old)
  pub others : (g : ℕ) → IsFile (table_of old home) g → g ≢ f → file_in home g new ≡ file_in home g old

-- Blocks of the storage bitmap were written, and with them it is said which blocks are free. All else is as it was.
pub record KeepsButFree (home : HomeFields) (old new : Image) : Type 0 where
  pub sound : HasSoundVolume new home
  pub index_file : KeepsIndexFile home old new
  pub bitmap : storage_bitmap new home ≡ storage_bitmap old home
  pub volume : volume_of new home ≡ record (volume_of old home) { free = is_free new (storage_bitmap old home) }
  pub files : (f : ℕ) → IsFile (table_of old home) f → f ≢ 2 → file_in home f new ≡ file_in home f old
  pub said : said_of home 2 new ≡ said_of home 2 old

-- The block of header n or of its bit was written, and so one of the index file's. All else is as it was: where the storage bitmap is, its
-- blocks and which blocks are free, the other slots, and each other file, of which files 2 and 3 have the same blocks. A file's blocks hold
-- what they held.
pub record KeepsButSlot (n : ℕ) (home : HomeFields) (old new : Image) : Type 0 where
  pub sound : HasSoundVolume new home
  pub bitmap : storage_bitmap new home ≡ storage_bitmap old home
  pub bitmap_blocks : KeepsBitmap (storage_bitmap old home) old new
  pub volume : volume_of new home ≡ record (volume_of old home) { table = table_of new home }
  pub others : KeepsOtherSlots n (table_of old home) (table_of new home)
  pub own_blocks : (f : ℕ) → 2 ≤ f → f ≤ 3 → file_blocks (table_of new home) f ≡ file_blocks (table_of old home) f
  pub files : (f : ℕ) → IsFile (table_of new home) f → f ≢ 1 → ¬ IsHeaderOf (table_of new home) f n →
      file_in home f new ≡ file_in home f old
  pub said : (f : ℕ) → IsFile (table_of new home) f → ¬ IsHeaderOf (table_of new home) f n → said_of home f new ≡ said_of home f old
  pub contents : (f : ℕ) → IsFile (table_of new home) f → f ≢ 1 →
      (file_in home f new).blocks ≡ map (block_or_zeros old) (file_blocks (table_of new home) f)

-- This was written as header n.
pub record WritesHeader (n : ℕ) (block : List ℕ) (home : HomeFields) (old new : Image) : Type 0 where
  pub slot : KeepsButSlot n home old new
  pub index_file : KeepsButHeader home n block old new
  pub in_use : (table_of new home).in_use ≡ (table_of old home).in_use

-- The bit of slot n was written, so that the index file says this.
pub record WritesSlotBit (n : ℕ) (after : Index) (home : HomeFields) (old new : Image) : Type 0 where
  pub slot : KeepsButSlot n home old new
  pub index_file : KeepsButBit home after old new

-- The index file has these blocks more, behind its others, where this was written as header n.
pub record WritesGrowth (n : ℕ) (block : List ℕ) (lbn count : ℕ) (home : HomeFields) (old new : Image) : Type 0 where
  pub slot : KeepsButSlot n home old new
  pub index_file : AddsIndexBlocks home n block lbn count old new
