-- Laws of what the verifier reads, of what `init` leaves and of what reclaiming does, which show that the words for it say what is meant
-- (profile).
use Rattle.std.specs.Prelude.{◌≡◌, ◌⊎◌, ℕ, ◌≤◌, IsTrue, length}
use Rattle.f11_bits.specs.Bitmap.{KeepsBitmap}
use Rattle.f11_dev.specs.Disk.{Disk}
use Rattle.f11_dev.specs.Image.{Image, IsImage}
use Rattle.f11_header.specs.Writing.{dead_header}
use Rattle.f11_home.specs.Home.{HomeFields, HasNoHome}
use Rattle.f11_index.specs.Headers.{IsInFile}
use Rattle.f11_index.specs.IndexFile.{index_of}
use Rattle.f11_index.specs.Table.{Table, table_of}
use Rattle.f11_volume.specs.layout.declared.layout.Layout.{Layout}
use Rattle.f11_store.specs.Directory.{is_directory}
use Rattle.f11_volume.specs.Contents.{file_of}
use Rattle.f11_volume.specs.Fresh.{MayStand}
use Rattle.f11_volume.specs.Space.{storage_bitmap}
use Rattle.f11_volume.specs.Verdict.{IsAccepted, IsNote}
use Rattle.f11_volume.specs.Volume.{volume_of}
use Rattle.f11_vfy.specs.Reclaiming.Moments.{IsReclaiming}
use Rattle.f11_vfy.specs.Reclaiming.Slots.{IsOrphan, IsIdle}
use Rattle.f11_vfy.specs.Reclaiming.Whole.{HasReclaimed, Reclaims}
use Rattle.f11_vfy.specs.Scanning.Reading.{volume_in}
use Rattle.f11_vfy.specs.Surveying.Slot.{says_directory}

-- What stands while a fresh volume is made on an image without a home block has none, or is accepted.
abbrev pub StoppedHasNoHome : Type 0
StoppedHasNoHome =
    (l : Layout) (old image : Image) → HasNoHome old → IsImage image → l.blocks ≤ length image → MayStand l old image
    → HasNoHome image ⊎ IsAccepted image

-- a file is a directory where its first header says so
abbrev pub DirectoryIsSaid : Type 0
DirectoryIsSaid = (image : Image) (t : Table) (n : ℕ) → is_directory (file_of image t n) ≡ says_directory (t.header n)

-- the volume of an image is the one that its index file and its storage bitmap tell
abbrev pub VolumeIsRead : Type 0
VolumeIsRead = (image : Image) (home : HomeFields) →
    volume_of image home ≡ volume_in image (index_of image home) (storage_bitmap image home)

-- at each moment of reclaiming each header of a file still is one, and is as it was
abbrev pub FilesKeepHeaders : Type 0
FilesKeepHeaders = (home : HomeFields) (old image : Image) → IsReclaiming home old image → (n : ℕ) → IsInFile (table_of old home) n →
    IsInFile (table_of image home) n × ((table_of image home).header n ≡ (table_of old home).header n)

-- and no other header is one
abbrev pub FilesGainNone : Type 0
FilesGainNone = (home : HomeFields) (old image : Image) → IsReclaiming home old image → (n : ℕ) → IsInFile (table_of image home) n →
    IsInFile (table_of old home) n

-- where a volume was reclaimed, each orphan was killed
abbrev pub OrphansAreKilled : Type 0
OrphansAreKilled = (home : HomeFields) (old new : Image) → HasReclaimed home old new → (n : ℕ) → IsOrphan (table_of old home) n →
    (table_of new home).header n ≡ dead_header ((table_of old home).header n)

-- a volume of which no lost block, dead header or orphan is noted is reclaimed as it is
abbrev pub NoneIsIdle : Type 0
NoneIsIdle = (disk : Disk) → IsImage disk.image → (IsTrue disk.honest → (code a b : ℕ) → code ≤ 3 → ¬ IsNote disk.image code a b) →
    Reclaims disk disk

-- as long as there is an orphan, the index bitmap is as it was
abbrev pub OrphansGoFirst : Type 0
OrphansGoFirst = (home : HomeFields) (old image : Image) → IsReclaiming home old image → (n : ℕ) → IsOrphan (table_of image home) n →
    (index_of image home).bitmap ≡ (index_of old home).bitmap

-- as long as a slot in use is one of no file, the storage bitmap is as it was
abbrev pub BlocksGoLast : Type 0
BlocksGoLast = (home : HomeFields) (old image : Image) → IsReclaiming home old image → (n : ℕ) → IsIdle (table_of image home) n →
    KeepsBitmap (storage_bitmap old home) old image
