-- What the verifier says of a disk, by its outcome.
use Rattle.std.specs.Prelude.{◌≡◌, ◌≢◌, ◌↔◌, ℕ, ◌+◌, ◌≤◌, Bool, false, IsTrue, List, []}
use Rattle.f11_bits.specs.Bitmap.{Bitmap}
use Rattle.f11_dev.specs.Disk.{Disk}
use Rattle.f11_dev.specs.declared.device.Device.{Ghosts}
use Rattle.f11_dev.specs.Image.{Image}
use Rattle.f11_dev.specs.Looked.{Looked}
use Rattle.f11_findings.specs.Finding.{IsExactly}
use Rattle.f11_findings.specs.declared.finding.Finding.{Finding}
use Rattle.f11_home.specs.Home.{HomeFields}
use Rattle.f11_index.specs.IndexFile.{Index, index_of}
use Rattle.f11_index.specs.Table.{table_in, table_of}
use Rattle.f11_vfy.specs.Accepted.{device_of}
use Rattle.f11_vfy.specs.Directory.Notes.{directory_reads}
use Rattle.f11_volume.specs.Faults.{IsFramed, IsFrameFault, IsVolumeFault}
use Rattle.f11_vfy.specs.Frames.Frame.{frame_reads}
use Rattle.f11_vfy.specs.Scanning.Reading.{most_read, volume_in}
use Rattle.f11_volume.specs.Notes.{IsVolumeNote}
use Rattle.f11_volume.specs.Space.{storage_bitmap}
use Rattle.f11_volume.specs.Verdict.{IsAccepted, IsFault, IsNote}
use Rattle.f11_vfy.specs.declared.verifier.NotesOf.{NotesOf}
use Rattle.f11_vfy.specs.declared.verifier.NotesOf.TheVariants.{Any, Faulty as OfFaulty, None as OfNone}
use Rattle.f11_vfy.specs.declared.verifier.Report.{Report}
use Rattle.f11_vfy.specs.declared.verifier.Report.TheVariants.{Accepted, Faulty}
use Rattle.f11_vfy.specs.declared.verifier.Verdict.{Verdict}
use Rattle.f11_vfy.specs.declared.verifier.Verdict.TheVariants.{Accepted as Passed, Faulty as Failed}
use Rattle.f11_vfy.specs.declared.verifier.VfyError.{VfyError}
use Rattle.f11_vfy.specs.declared.verifier.VfyError.TheVariants.{DeviceFault, NoMemory}

-- Two lists are exactly an image's faults and its notes, in order and each once.
pub record Verifies (image : Image) (faults notes : List Finding) : Type 0 where
  pub faults_are : IsExactly (IsFault image) faults
  pub notes_are : IsExactly (IsNote image) notes

-- how many blocks are read of a volume whose frame is as it should be: those of the storage bitmap and the headers in use, once each, and
-- those of the directories
abbrev pub volume_reads : Image → HomeFields → ℕ
volume_reads image home = most_read (index_of image home) (storage_bitmap image home) + directory_reads image (table_of image home)

-- A volume was looked over, whose index file and storage bitmap are these: no more was read than they and its directories.
pub record LooksOverVolume (index : Index) (bitmap : Bitmap) (old new : Disk) (faults : ℕ) : Type 0 where
  pub reads : ℕ
  pub looked : Looked old new reads faults
  pub few : IsTrue old.honest → reads ≤ most_read index bitmap + directory_reads old.image (table_in old.image index)

-- notes are wanted of any image, or of one that has faults, or of none
abbrev pub AreWanted : NotesOf → List Finding → Type 0
AreWanted Any faults = Unit
AreWanted OfFaulty faults = faults ≢ []
AreWanted OfNone faults = ⊥

-- These are the volume's faults where the disk is honest, and these its notes where they are wanted; where they aren't, no more was
-- read than its blocks and headers.
pub record JudgesVolume (of : NotesOf) (index : Index) (bitmap : Bitmap) (faults notes : List Finding) (old new : Disk) : Type 0 where
  pub faults_are : IsTrue old.honest → IsExactly (IsVolumeFault (volume_in old.image index bitmap)) faults
  pub notes_are : AreWanted of faults → IsTrue old.honest → IsExactly (IsVolumeNote old.image (volume_in old.image index bitmap)) notes
  pub looked : LooksOverVolume index bitmap old new 0
  pub spared : ¬ AreWanted of faults → new.transfers ≤ old.transfers + most_read index bitmap

-- An image was looked over. Of one with a fault of its frame no more was read than the frame, of any other no more than that and its
-- volume.
pub record LooksOver (old new : Disk) (faults : ℕ) : Type 0 where
  pub reads : ℕ
  pub looked : Looked old new reads faults
  pub of_frame : IsTrue old.honest → (code a : ℕ) → IsFrameFault old.image code a → reads ≤ frame_reads old
  pub of_volume : IsTrue old.honest → (home : HomeFields) → IsFramed old.image home → reads ≤ frame_reads old + volume_reads old.image home

-- no more was read than the frame, the storage bitmap and the headers in use, once each
abbrev pub ReadsFrameAndHeaders : Disk → Disk → Type 0
ReadsFrameAndHeaders old new =
    IsTrue old.honest → (home : HomeFields) → IsFramed old.image home →
    new.transfers ≤ old.transfers + (frame_reads old + most_read (index_of old.image home) (storage_bitmap old.image home))

-- These are its faults and its notes, where the disk is honest.
pub record Examines (faults notes : List Finding) (old new : Disk) : Type 0 where
  pub verifies : IsTrue old.honest → Verifies old.image faults notes
  pub looked : LooksOver old new 0

-- The image is accepted where the disk is honest, and no more was read than the frame and the headers.
pub record Passes (old new : Disk) : Type 0 where
  pub accepted : IsTrue old.honest → IsAccepted old.image
  pub looked : LooksOver old new 0
  pub spared : ReadsFrameAndHeaders old new

-- These are an image's faults where the disk is honest, and these its notes where they are wanted; where they aren't, no more was read than
-- the frame and the headers.
pub record Judges (of : NotesOf) (faults notes : List Finding) (old new : Disk) : Type 0 where
  pub faults_are : IsTrue old.honest → IsExactly (IsFault old.image) faults
  pub notes_are : AreWanted of faults → IsTrue old.honest → IsExactly (IsNote old.image) notes
  pub looked : LooksOver old new 0
  pub spared : ¬ AreWanted of faults → ReadsFrameAndHeaders old new

-- Where the disk is honest, the image is accepted exactly where it was told that it has no fault; and no more was read than the frame and
-- the headers.
pub record TellsVerdict (faulty : Bool) (old new : Disk) : Type 0 where
  pub verdict : IsTrue old.honest → (faulty ≡ false) ↔ IsAccepted old.image
  pub looked : LooksOver old new 0
  pub spared : ReadsFrameAndHeaders old new

-- A verdict: the image has no fault; or these faults, one at least, and these notes. The device comes back.
abbrev pub IsJudged : {D : Type 0} {G : Ghosts D} → (D → Disk) → Disk → Verdict D G → Type 0
IsJudged disk old (Passed accepted) = Passes old (disk (device_of accepted))
IsJudged disk old (Failed device faults notes) = Examines faults notes old (disk device) × (faults ≢ [])

-- A report: the image has no fault, and these notes; or these faults, one at least, and these notes. The device comes back.
abbrev pub IsReport : {D : Type 0} {G : Ghosts D} → (D → Disk) → Disk → Report D G → Type 0
IsReport disk old (Accepted accepted notes) = Examines [] notes old (disk (device_of accepted))
IsReport disk old (Faulty device faults notes) = Examines faults notes old (disk device) × (faults ≢ [])

-- There is none: a transfer failed, or there was no memory. The device comes back.
abbrev pub HasNoReport : {D : Type 0} → (D → Disk) → Disk → VfyError D → Type 0
HasNoReport disk old (DeviceFault device) = LooksOver old (disk device) 1
HasNoReport disk old (NoMemory device) = LooksOver old (disk device) 0
