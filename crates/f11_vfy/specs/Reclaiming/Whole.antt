-- What reclaiming a volume does to a disk, by its outcome (profile).
use Rattle.std.specs.Prelude.{◌≡◌, ◌↔◌, ℕ, ◌+◌, ◌<◌, ◌≤◌, true, length}
use Rattle.f11_bits.specs.Bitmap.{Bitmap, is_free}
use Rattle.f11_dev.specs.Disk.{Disk}
use Rattle.f11_dev.specs.Image.{Image}
use Rattle.f11_dev.specs.Looked.{Looked}
use Rattle.f11_dev.specs.Went.{Went}
use Rattle.f11_home.specs.Home.{HomeFields}
use Rattle.f11_index.specs.IndexFile.{Index, index_of}
use Rattle.f11_index.specs.Table.{table_of}
use Rattle.f11_vfy.specs.Frames.Frame.{frame_reads}
use Rattle.f11_vfy.specs.Reclaiming.Moments.{IsReclaiming, Where, Moment}
use Rattle.f11_vfy.specs.Reclaiming.Slots.{CountsUpTo, IsOrphan, UsedAreOfFiles, IsIdle}
use Rattle.f11_vfy.specs.Reclaiming.Steps.{IsChangedBlock}
use Rattle.f11_vfy.specs.Scanning.Kept.{HasKept}
use Rattle.f11_vfy.specs.Scanning.Reading.{most_read, ShowsVolume}
use Rattle.f11_vfy.specs.declared.findings.kept.Kept.{Kept}
use Rattle.f11_vfy.specs.declared.findings.reading.Reading.{Reading}
use Rattle.f11_vfy.specs.declared.verifier.VfyError.{VfyError}
use Rattle.f11_vfy.specs.declared.verifier.VfyError.TheVariants.{DeviceFault, NoMemory}
use Rattle.f11_volume.specs.Sound.{HasSoundVolume}
use Rattle.f11_volume.specs.Space.{storage_bitmap}
use Rattle.f11_volume.specs.Verdict.{IsNote}
use Rattle.f11_volume.specs.Volume.{volume_of, IsNamed}

-- an image's volume is sound, with this home block
abbrev pub IsSoundWith : HomeFields → Image → Type 0
IsSoundWith home image = HasSoundVolume image home

-- A block of the volume is free exactly where no header names it.
abbrev pub UnnamedAreFree : HomeFields → Image → Type 0
UnnamedAreFree home image =
    (lbn : ℕ) → lbn < (storage_bitmap image home).size →
    is_free image (storage_bitmap image home) lbn ≡ true ↔ (¬ IsNamed (table_of image home) lbn)

-- A volume was reclaimed: it is sound and has the files that it had, their headers as they were; a block of it is free exactly where no
-- header names it, a slot is in use exactly where its header is one of a file, and no note is of lost blocks, dead headers or orphans.
pub record HasReclaimed (home : HomeFields) (old new : Image) : Type 0 where
  pub reclaiming : IsReclaiming home old new
  pub blocks : UnnamedAreFree home new
  pub slots : UsedAreOfFiles (table_of new home)
  pub no_note : (code a b : ℕ) → code ≤ 3 → ¬ IsNote new code a b

-- At most so many transfers were made besides so many reads: a write for each orphan, for each slot that leaves use, and for each block of
-- the storage bitmap that is another than it was. Where a transfer failed, that one besides.
pub record Costs (home : HomeFields) (image new : Image) (reads faults most : ℕ) : Type 0 where
  pub orphan_slots : ℕ
  pub orphans : ℕ
  pub orphans_are : CountsUpTo (IsOrphan (table_of image home)) orphan_slots orphans
  pub orphans_within : orphan_slots ≤ (table_of image home).slots
  pub idle_slots : ℕ
  pub idle : ℕ
  pub idle_are : CountsUpTo (IsIdle (table_of image home)) idle_slots idle
  pub idle_within : idle_slots ≤ (table_of image home).slots
  pub bitmap_blocks : ℕ
  pub changed : ℕ
  pub changed_are : CountsUpTo (IsChangedBlock (storage_bitmap image home) image new) bitmap_blocks changed
  pub changed_within : bitmap_blocks ≤ length (storage_bitmap image home).places
  pub few : most ≤ reads + orphans + idle + changed + faults

-- So many transfers failed, of those at most. Each image that stood meanwhile is sound and has the files that there were.
pub record GoesOn (K : HomeFields → Image → Type 0) (reads : HomeFields → ℕ) (old new : Disk) (faults : ℕ) : Type 0 where
  pub most : ℕ
  pub few : Where K old (λ home. Costs home old.image new.image (reads home) faults most)
  pub went : Went (Moment K old) old new most faults

-- The volume was reclaimed.
pub record GivesBack (K : HomeFields → Image → Type 0) (reads : HomeFields → ℕ) (old new : Disk) : Type 0 where
  pub reclaimed : Where K old (λ home. HasReclaimed home old.image new.image)
  pub goes : GoesOn K reads old new 0

-- There was no memory, and nothing was written.
pub record LacksRoom (K : HomeFields → Image → Type 0) (reads : HomeFields → ℕ) (old new : Disk) : Type 0 where
  pub most : ℕ
  pub few : Where K old (λ home. most ≤ reads home)
  pub looked : Looked old new most 0

-- the volume is sound, and these are its index file and its storage bitmap
pub record IsFrameOf (index : Index) (bitmap : Bitmap) (home : HomeFields) (image : Image) : Type 0 where
  pub sound : HasSoundVolume image home
  pub index_is : index ≡ index_of image home
  pub bitmap_is : bitmap ≡ storage_bitmap image home

-- and this is a reading of it, and what was kept of its blocks
pub record IsReadAs (index : Index) (bitmap : Bitmap) (r : Reading) (kept : Kept) (home : HomeFields) (image : Image) : Type 0 where
  pub frame : IsFrameOf index bitmap home image
  pub shows : ShowsVolume (volume_of image home) r
  pub has : HasKept (table_of image home) bitmap image kept

-- the reads of an accepted image: its frame, and each header in use and each block of the storage bitmap once
abbrev pub reclaim_reads : Disk → HomeFields → ℕ
reclaim_reads old home = frame_reads old + most_read (index_of old.image home) (storage_bitmap old.image home)

-- An accepted image was reclaimed.
abbrev pub Reclaims : Disk → Disk → Type 0
Reclaims old new = GivesBack IsSoundWith (reclaim_reads old) old new

-- It wasn't, or not all of it: a transfer failed; or there was no memory, and nothing was written. The device comes back.
abbrev pub HasNotReclaimed : {D : Type 0} → (D → Disk) → Disk → VfyError D → Type 0
HasNotReclaimed disk old (DeviceFault device) = GoesOn IsSoundWith (reclaim_reads old) old (disk device) 1
HasNotReclaimed disk old (NoMemory device) = LacksRoom IsSoundWith (reclaim_reads old) old (disk device)
