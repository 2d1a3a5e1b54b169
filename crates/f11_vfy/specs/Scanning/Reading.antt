-- What was read of a volume, and what it is to be read of one.
use Rattle.std.specs.Prelude.{◌≡◌, ℕ, ◌+◌, ◌<◌, ◌≤◌, true, IsTrue, List, length}
use Rattle.f11_bits.specs.Bitmap.{Bitmap, is_free}
use Rattle.f11_dev.specs.Disk.{Disk}
use Rattle.f11_dev.specs.Image.{Image}
use Rattle.f11_dev.specs.Looked.{Looked}
use Rattle.f11_index.specs.IndexFile.{Index, slots}
use Rattle.f11_index.specs.Table.{table_in}
use Rattle.f11_vfy.specs.Surveying.Bits.{has, limit_of}
use Rattle.f11_vfy.specs.Chain.{IsFit, ShowsChains}
use Rattle.f11_volume.specs.Notes.{IsVolumeNote}
use Rattle.f11_vfy.specs.Surveying.Headers.{used_slots, Surveys}
use Rattle.f11_volume.specs.Volume.{Volume}
use Rattle.f11_vfy.specs.declared.survey.bits.Bits.{Bits}
use Rattle.f11_vfy.specs.declared.findings.reading.Reading.{Reading}

-- the set is that of a volume's free blocks, none of which is past its end
pub record ShowsFree (v : Volume) (free : Bits) : Type 0 where
  pub limit : limit_of free ≡ v.size
  pub each : (lbn : ℕ) → has free lbn ≡ v.free lbn
  pub within : (lbn : ℕ) → v.free lbn ≡ true → lbn < v.size

-- a reading is of this volume
pub record ShowsVolume (v : Volume) (r : Reading) : Type 0 where
  pub fit : IsFit v.table
  pub surveys : Surveys v.table v.size v.table.slots r.survey
  pub chains : ShowsChains v.table r.chains
  pub free : ShowsFree v r.free

-- a storage bitmap whose blocks are at these places
abbrev pub bitmap_at : List ℕ → ℕ → Bitmap
bitmap_at places size = record { places = places; size = size }

-- the volume of an image, where its index file and its storage bitmap are these
abbrev pub volume_in : Image → Index → Bitmap → Volume
volume_in image index bitmap = record { table = table_in image index; size = bitmap.size; free = is_free image bitmap }

-- each header in use is read once, and each block of the bitmap once at most
abbrev pub most_read : Index → Bitmap → ℕ
most_read index bitmap = length bitmap.places + used_slots index

-- A volume was read: the reading has as many slots and blocks, and is of the disk's where that is honest.
pub record ReadsVolume (index : Index) (bitmap : Bitmap) (r : Reading) (old new : Disk) : Type 0 where
  pub slots : length r.survey.slots.items ≡ slots index
  pub size : limit_of r.free ≡ bitmap.size
  pub shows : IsTrue old.honest → ShowsVolume (volume_in old.image index bitmap) r
  pub looked : Looked old new (most_read index bitmap) 0

-- A transfer failed.
abbrev pub FailsToScan : Index → Bitmap → Disk → Disk → Type 0
FailsToScan index bitmap old new = Looked old new (most_read index bitmap) 1

-- There was no memory, and no transfer failed.
abbrev pub LacksMemoryToScan : Index → Bitmap → Disk → Disk → Type 0
LacksMemoryToScan index bitmap old new = Looked old new (most_read index bitmap) 0

-- a note of blocks or headers, by its code, which is one of the first five
pub record IsFirstNote (image : Image) (v : Volume) (code a b : ℕ) : Type 0 where
  pub first : code ≤ 5
  pub note : IsVolumeNote image v code a b
