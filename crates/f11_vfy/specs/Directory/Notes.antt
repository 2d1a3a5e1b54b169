-- What is noted of the directories of a volume that was read.
use Rattle.std.specs.Prelude.{◌≡◌, ℕ, ◌+◌, ◌<◌, ◌≤◌, ◌==◌, ◌&&◌, Bool, IsTrue, List, length, if◌then◌else◌}
use Rattle.f11_bits.specs.Bitmap.{Bitmap}
use Rattle.f11_dev.specs.Disk.{Disk}
use Rattle.f11_dev.specs.Image.{Image}
use Rattle.f11_dev.specs.Looked.{Looked}
use Rattle.f11_findings.specs.Finding.{IsExactly}
use Rattle.f11_findings.specs.declared.finding.Finding.{Finding}
use Rattle.f11_map.specs.HeaderBlock.{segment_number}
use Rattle.f11_index.specs.Headers.{is_live}
use Rattle.f11_index.specs.IndexFile.{Index}
use Rattle.f11_index.specs.Table.{Table, table_in}
use Rattle.f11_store.specs.Directory.{is_directory}
use Rattle.f11_vfy.specs.Surveying.Bits.{limit_of}
use Rattle.f11_volume.specs.Contents.{file_of}
use Rattle.f11_vfy.specs.Surveying.Count.{sum_to}
use Rattle.f11_vfy.specs.Directory.Reading.{most_reads}
use Rattle.f11_findings.specs.Found.{Finds}
use Rattle.f11_vfy.specs.Directory.Gathered.{ShowsGathered}
use Rattle.f11_volume.specs.Notes.{IsVolumeNote}
use Rattle.f11_vfy.specs.Scanning.Reading.{ShowsVolume, volume_in}
use Rattle.f11_volume.specs.Volume.{Volume}
use Rattle.f11_vfy.specs.declared.directories.gathered.Gathered.{Gathered}
use Rattle.f11_vfy.specs.declared.findings.reading.Reading.{Reading}

-- a note of directories, by its code, which is above the first five and below the last
pub record IsDirectoryNote (image : Image) (v : Volume) (code a b : ℕ) : Type 0 where
  pub late : 5 < code
  pub early : code ≤ 9
  pub note : IsVolumeNote image v code a b

-- header d is a directory's first
unfoldable pub has_directory : Image → Table → ℕ → Bool
has_directory image t d = is_live t d && (segment_number (t.header d) == 0 && is_directory (file_of image t d))

-- the reads of slot k + 1, where it has a directory
abbrev pub reads_at : Image → Table → ℕ → ℕ
reads_at image t k = if has_directory image t (k + 1) then most_reads image t (k + 1) else 0

-- the reads of the first n slots
abbrev pub reads_up_to : Image → Table → ℕ → ℕ
reads_up_to image t n = sum_to (reads_at image t) n

-- Of each directory each header is read once, 256 at most, and each block once that holds a record below the end.
abbrev pub directory_reads : Image → Table → ℕ
directory_reads image t = reads_up_to image t t.slots

-- The directories of the first slots were looked through; so many transfers failed.
pub record LooksUpTo (index : Index) (r : Reading) (n : ℕ) (old new : Disk) (faults : ℕ) : Type 0 where
  pub reads : ℕ
  pub looked : Looked old new reads faults
  pub few : IsTrue old.honest → (bitmap : Bitmap) → ShowsVolume (volume_in old.image index bitmap) r →
      reads ≤ reads_up_to old.image (table_in old.image index) n

-- Slot k + 1 was looked at; so many transfers failed.
pub record LooksAt (index : Index) (r : Reading) (k : ℕ) (old new : Disk) (faults : ℕ) : Type 0 where
  pub reads : ℕ
  pub looked : Looked old new reads faults
  pub few : IsTrue old.honest → (bitmap : Bitmap) → ShowsVolume (volume_in old.image index bitmap) r →
      reads ≤ reads_at old.image (table_in old.image index) k

-- Slot k + 1 was judged.
pub record JudgesSlot (index : Index) (r : Reading) (k : ℕ) (before after : Gathered) (old new : Disk) : Type 0 where
  pub shows : IsTrue old.honest → (bitmap : Bitmap) → ShowsVolume (volume_in old.image index bitmap) r →
      ShowsGathered old.image (volume_in old.image index bitmap) k before
      → ShowsGathered old.image (volume_in old.image index bitmap) (k + 1) after
  pub limit : limit_of after.entered ≡ limit_of before.entered
  pub looked : LooksAt index r k old new 0

-- The directories of the first slots were judged.
pub record JudgesUpTo (index : Index) (r : Reading) (n : ℕ) (gathered : Gathered) (old new : Disk) : Type 0 where
  pub shows : IsTrue old.honest → (bitmap : Bitmap) → ShowsVolume (volume_in old.image index bitmap) r →
      ShowsGathered old.image (volume_in old.image index bitmap) n gathered
  pub limit : limit_of gathered.entered ≡ length r.survey.slots.items + 1
  pub looked : LooksUpTo index r n old new 0

-- The directories were looked through; so many transfers failed.
pub record LooksThrough (index : Index) (r : Reading) (old new : Disk) (faults : ℕ) : Type 0 where
  pub reads : ℕ
  pub looked : Looked old new reads faults
  pub few : IsTrue old.honest → (bitmap : Bitmap) → ShowsVolume (volume_in old.image index bitmap) r →
      reads ≤ directory_reads old.image (table_in old.image index)

-- These are all notes of the volume.
pub record NotesVolume (index : Index) (r : Reading) (notes : List Finding) (old new : Disk) : Type 0 where
  pub exact : IsTrue old.honest → (bitmap : Bitmap) → ShowsVolume (volume_in old.image index bitmap) r
      → IsExactly (IsVolumeNote old.image (volume_in old.image index bitmap)) notes
  pub looked : LooksThrough index r old new 0

-- The notes of the directories were added.
pub record AddsDirectoryNotes (index : Index) (r : Reading) (found_old found_new : List Finding) (old new : Disk) : Type 0 where
  pub finds : IsTrue old.honest → (bitmap : Bitmap) → ShowsVolume (volume_in old.image index bitmap) r
      → Finds (IsDirectoryNote old.image (volume_in old.image index bitmap)) found_old found_new
  pub looked : LooksThrough index r old new 0
