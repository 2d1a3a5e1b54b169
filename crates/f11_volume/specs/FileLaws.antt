-- Laws of the files of a sound volume (Files-11 On-Disk Structure Level 1, "File Header" and "Map Area").
use Rattle.std.specs.Prelude.{◌≡◌, ℕ, length, map, Some}
use Rattle.std.specs.List.{slice_get}
use Rattle.f11_chain.specs.bits.Bitmap.{IsBitmap, LiesWithin}
use Rattle.f11_dev.specs.Image.{Image}
use Rattle.f11_chain.specs.home.Home.{HomeFields}
use Rattle.f11_chain.specs.index.Headers.{headers_of, IsChained}
use Rattle.f11_chain.specs.index.IndexFile.{index_file_blocks}
use Rattle.f11_chain.specs.index.Sound.{AreApart}
use Rattle.f11_chain.specs.index.Table.{Table, table_of, IsFile, IsWholeFile}
use Rattle.f11_chain.specs.FileHeaders.{file_blocks, IsSoundFile}
use Rattle.f11_volume.specs.Contents.{headers_reached, block_or_zeros, file_of}
use Rattle.f11_volume.specs.Sound.{IsSoundVolume, HasSoundVolume}
use Rattle.f11_volume.specs.Space.{storage_bitmap}
use Rattle.f11_volume.specs.Volume.{Volume}

-- no block stands twice among a file's, nor among those of two files
abbrev pub HasOneOwner : Table → Type 0
HasOneOwner t =
    (f g i j lbn : ℕ) → IsFile t f → IsFile t g → slice_get (file_blocks t f) i ≡ Some lbn → slice_get (file_blocks t g) j ≡ Some lbn →
    (f ≡ g) × (i ≡ j)

-- The files of these headers are as they should be on a device of so many blocks: they are chained, each is sound, and each block is one
-- file's.
pub record AreSoundFiles (t : Table) (blocks : ℕ) : Type 0 where
  pub chained : IsChained t
  pub each : (f : ℕ) → IsFile t f → IsSoundFile t f blocks
  pub one_owner : HasOneOwner t

-- the files of a sound volume are, on its own blocks
abbrev pub VolumeHasSoundFiles : Type 0
VolumeHasSoundFiles = (v : Volume) → IsSoundVolume v → AreSoundFiles v.table v.size

-- and those of an image with one, on the device
abbrev pub ImageHasSoundFiles : Type 0
ImageHasSoundFiles = (image : Image) (home : HomeFields) → HasSoundVolume image home → AreSoundFiles (table_of image home) (length image)

-- no block stands twice in its index file
abbrev pub IndexFileIsApart : Type 0
IndexFileIsApart = (image : Image) (home : HomeFields) → HasSoundVolume image home → AreApart (index_file_blocks image home)

-- nor in its storage bitmap, which has 1 to 126 blocks on the device, with a bit for each block of the volume
abbrev pub StorageBitmapIsOne : Type 0
StorageBitmapIsOne =
    (image : Image) (home : HomeFields) → HasSoundVolume image home →
    IsBitmap (storage_bitmap image home) × LiesWithin (storage_bitmap image home) (length image)

-- the headers that are reached from the first of a whole file are the file's
abbrev pub ReachedAreTheFiles : Type 0
ReachedAreTheFiles = (t : Table) (f : ℕ) → IsWholeFile t f → headers_reached t f ≡ headers_of t f

-- so it holds those
abbrev pub FileHasItsHeaders : Type 0
FileHasItsHeaders = (image : Image) (t : Table) (f : ℕ) → IsWholeFile t f → (file_of image t f).held ≡ headers_of t f

-- and its blocks are what the blocks that they name hold
abbrev pub FileHasItsBlocks : Type 0
FileHasItsBlocks = (image : Image) (t : Table) (f : ℕ) → IsWholeFile t f →
    (file_of image t f).blocks ≡ map (block_or_zeros image) (file_blocks t f)
