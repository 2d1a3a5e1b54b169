-- What was read of a volume's frame, behind its home block (profile).
use Rattle.std.specs.Prelude.{◌≡◌, ℕ, IsTrue, List, length, take, drop}
use Rattle.f11_bits.specs.Bitmap.{Bitmap}
use Rattle.f11_dev.specs.Disk.{Disk}
use Rattle.f11_dev.specs.Image.{Image}
use Rattle.f11_dev.specs.Looked.{Looked}
use Rattle.f11_home.specs.Home.{HomeFields}
use Rattle.f11_index.specs.IndexFile.{Index, index_of, HasNonePast}
use Rattle.f11_index.specs.Kept.{index_kept}
use Rattle.f11_index.specs.Sound.{IsIndexFile}
use Rattle.f11_volume.specs.Faults.{HasIndexFile, HasOwnFiles, HasBitmapFile, HasControlBlock, IsFaultBehindHome}
use Rattle.f11_vfy.specs.Frames.Frame.{LieOn, ReadsFrame, FindsFrameFault}
use Rattle.f11_vfy.specs.Scanning.Reading.{bitmap_at}
use Rattle.f11_volume.specs.Space.{storage_bitmap}
use Rattle.f11_vfy.specs.declared.frame.framing.Frame.{Frame}
use Rattle.f11_vfy.specs.declared.frame.framing.Framing.{Framing}
use Rattle.f11_vfy.specs.declared.frame.framing.Framing.TheVariants.{Framed, Faulty}

-- where the blocks of the storage bitmap are
abbrev pub places_of : Frame → List ℕ
places_of frame = take frame.count (drop 1 frame.blocks.items)

-- the index file of a frame
abbrev pub frame_index : Frame → Index
frame_index frame = index_kept frame.index

-- its storage bitmap
abbrev pub frame_bitmap : Frame → Bitmap
frame_bitmap frame = bitmap_at (places_of frame) frame.size

-- It is the index file of the image whose home block this is, as it should be.
pub record IsIndexOf (image : Image) (home : HomeFields) (index : Index) : Type 0 where
  pub sound : IsIndexFile image home
  pub index_is : index ≡ index_of image home

-- What is behind the home block is as it should be, and this is its index file and its storage bitmap.
pub record IsBehindHome (image : Image) (home : HomeFields) (index : Index) (bitmap : Bitmap) : Type 0 where
  pub indexed : HasIndexFile image home
  pub own_files : HasOwnFiles image home
  pub file : HasBitmapFile image home
  pub control : HasControlBlock image home
  pub none_past : HasNonePast (index_of image home)
  pub index_is : index ≡ index_of image home
  pub bitmap_is : bitmap ≡ storage_bitmap image home

-- What is behind the home block was read.
pub record ReadsBehind (home : HomeFields) (index : Index) (bitmap : Bitmap) (old new : Disk) : Type 0 where
  pub lie : LieOn index bitmap (length old.image)
  pub behind : IsTrue old.honest → IsBehindHome old.image home index bitmap
  pub looked : Looked old new 516 0

-- A fault of it was found.
pub record FindsBehind (home : HomeFields) (code a : ℕ) (old new : Disk) : Type 0 where
  pub fault : IsTrue old.honest → IsFaultBehindHome old.image home code a
  pub looked : Looked old new 516 0

-- It was read, or a fault of it was found.
abbrev pub FramesBehind : HomeFields → Framing → Disk → Disk → Type 0
FramesBehind home (Framed frame) old new = ReadsBehind home (frame_index frame) (frame_bitmap frame) old new
FramesBehind home (Faulty code a) old new = FindsBehind home code a old new

-- The frame was read, or its fault was found.
abbrev pub Frames : Framing → Disk → Disk → Type 0
Frames (Framed frame) old new = ReadsFrame (frame_index frame) (frame_bitmap frame) old new
Frames (Faulty code a) old new = FindsFrameFault code a old new
