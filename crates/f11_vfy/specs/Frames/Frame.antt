-- What was read of a volume's frame: its home block, its index file, and where its storage bitmap is.
use Rattle.std.specs.Prelude.{◌≡◌, ℕ, ◌+◌, ◌*◌, ◌<◌, ◌≤◌, IsTrue, length}
use Rattle.f11_bits.specs.Bitmap.{Bitmap, LiesWithin as BitmapLiesWithin}
use Rattle.f11_dev.specs.Disk.{Disk}
use Rattle.f11_dev.specs.Image.{Image}
use Rattle.f11_dev.specs.Looked.{Looked}
use Rattle.f11_home.specs.Home.{HomeFields, candidates}
use Rattle.f11_index.specs.IndexFile.{Index, index_of}
use Rattle.f11_index.specs.Kept.{IndexLiesWithin}
use Rattle.f11_volume.specs.Faults.{IsFramed, IsFrameFault}
use Rattle.f11_volume.specs.Space.{storage_bitmap}

-- An index file and a storage bitmap lie on a device of so many blocks, and the bitmap has a bit for each block of the volume.
pub record LieOn (index : Index) (bitmap : Bitmap) (blocks : ℕ) : Type 0 where
  pub index_lies : IndexLiesWithin index blocks
  pub bitmap_lies : BitmapLiesWithin bitmap blocks
  pub some : 0 < length bitmap.places
  pub few : length bitmap.places ≤ 126
  pub sized : 0 < bitmap.size
  pub covered : bitmap.size ≤ 4096 * length bitmap.places
  pub on_device : bitmap.size ≤ blocks

-- They are those of an image whose frame is as it should be.
pub record AreOf (image : Image) (home : HomeFields) (index : Index) (bitmap : Bitmap) : Type 0 where
  pub framed : IsFramed image home
  pub index_is : index ≡ index_of image home
  pub bitmap_is : bitmap ≡ storage_bitmap image home

-- at most so many blocks are read for it: the candidates for the home block; of the index file the blocks of its bitmap, 16 at most, and
-- its headers, 256 at most; as many headers of file 3; headers 2, 3 and 4; the headers of file 2, and the control block
abbrev pub frame_reads : Disk → ℕ
frame_reads disk = candidates (length disk.image) + 788

-- The frame was read, and it is as it should be where the disk is honest.
pub record ReadsFrame (index : Index) (bitmap : Bitmap) (old new : Disk) : Type 0 where
  pub home : HomeFields
  pub lie : LieOn index bitmap (length old.image)
  pub are : IsTrue old.honest → AreOf old.image home index bitmap
  pub looked : Looked old new (frame_reads old) 0

-- A fault of the frame was found.
pub record FindsFrameFault (code a : ℕ) (old new : Disk) : Type 0 where
  pub fault : IsTrue old.honest → IsFrameFault old.image code a
  pub looked : Looked old new (frame_reads old) 0

-- A transfer failed.
abbrev pub FailsToReadFrame : Disk → Disk → Type 0
FailsToReadFrame old new = Looked old new (frame_reads old) 1

-- There was no memory, and no transfer failed.
abbrev pub LacksFrameMemory : Disk → Disk → Type 0
LacksFrameMemory old new = Looked old new (frame_reads old) 0
