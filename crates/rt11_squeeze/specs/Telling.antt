-- What is told of the files that may be moved (RT-11 Volume and File Formats Manual, "Directory Entry"; profile: which they are).
use Rattle.std.specs.Prelude.{◌≡◌, ◌≢◌, ℕ, ◌+◌, ◌-◌, ◌*◌, ◌==◌, IsTrue, true, false, if◌then◌else◌, List, [], ◌∷◌, filter, filter_map}
use Rattle.std.specs.Prelude.{length, slice_index, Option, Some, None, Err, option_map, unwrap_or}
use Rattle.std.specs.List.{slice_get}
use Rattle.f11_dev.specs.Disk.{Disk}
use Rattle.f11_dev.specs.Image.{Image}
use Rattle.f11_dev.specs.Looked.{Looked}
use Rattle.rt11_volume.specs.AnyDirectory.{directory_entries, is_sound_file, is_sound_file_named}
use Rattle.rt11_volume.specs.Files.{faults_in, is_fault}
use Rattle.rt11_volume.specs.RtName.{is_rt_name}
use Rattle.rt11_volume.specs.Segment.{entry_place, extra_bytes, segment_words}
use Rattle.rt11_volume.specs.Store.{rt_store_of}
use Rattle.rt11_volume.specs.Verifying.Verdict.{IsSoundDisk}
use Rattle.rt11_volume.specs.declared.any_entries.RtEntry.{RtEntry}
use Rattle.rt11_volume.specs.declared.refusal.RtRefusal.{RtRefusal}
use Rattle.rt11_volume.specs.declared.refusal.RtRefusal.TheVariants.{NoMemory}
use Rattle.rt11_squeeze.specs.Squeezing.{IsTold}
use Rattle.rt11_squeeze.specs.declared.moving.FileToMove.{FileToMove}

-- the types `SQZ` of a copy, and `BAD` of a file that covers bad blocks, in Radix-50
abbrev pub scratch_type : ℕ
scratch_type = 31106

abbrev pub bad_type : ℕ
bad_type = 3244

-- the name of a file's copy: the file's own, with that type
abbrev pub scratch_of : List ℕ → List ℕ
scratch_of name = slice_index name 0 ∷ slice_index name 1 ∷ scratch_type ∷ []

-- the date of entry i of a segment with these words
abbrev pub date_in : List ℕ → ℕ → ℕ
date_in s i = slice_index s (entry_place (extra_bytes s) i + 6)

-- that of an entry of an image
abbrev pub date_told : Image → RtEntry → ℕ
date_told image e = date_in (segment_words image e.segment) (e.number - 1)

-- the one entry of these, where there is one and no more
abbrev pub single : List RtEntry → Option RtEntry
single [] = None
single (e ∷ []) = Some e
single (e ∷ (f ∷ es)) = None

-- the entry of the one file of a name that may be moved: one whose type isn't `BAD`
abbrev pub single_named : List RtEntry → Option (List ℕ) → Option RtEntry
single_named entries None = None
single_named entries (Some name) =
    if slice_index name 2 == bad_type then None else single (filter (is_sound_file_named name) entries)

-- that of the one file of an entry's name, where that is a proper name, and the entry a file's
abbrev pub entry_to_move : List RtEntry → RtEntry → Option RtEntry
entry_to_move entries e = if is_sound_file e then single_named entries e.name else None

-- a file of a name as its entry tells it
abbrev pub file_as_told : Image → List ℕ → RtEntry → FileToMove
file_as_told image name e = record {
  name = name;
  scratch = scratch_of name;
  blocks = e.blocks;
  date = date_told image e;
  protected = e.protected;
}

-- the file that an entry tells, if it may be moved
abbrev pub file_to_move : Image → List RtEntry → RtEntry → Option FileToMove
file_to_move image entries e = option_map (file_as_told image (unwrap_or e.name [])) (entry_to_move entries e)

-- the files of an image that may be moved, in the order of its directory
abbrev pub files_to_move : Image → List FileToMove
files_to_move image = filter_map (file_to_move image (directory_entries image)) (directory_entries image)

-- The file is that of the one entry of its name, but for its date.
pub record IsUndated (entries : List RtEntry) (e : RtEntry) (told : FileToMove) : Type 0 where
  pub one : filter (is_sound_file_named told.name) entries ≡ e ∷ []
  pub proper : is_rt_name told.name ≡ true
  pub blocks_are : told.blocks ≡ e.blocks
  pub protected_is : told.protected ≡ e.protected

-- It covers no bad blocks, and its copy's name has the type that is kept for it.
pub record IsMovable (told : FileToMove) : Type 0 where
  pub covers_none : slice_index told.name 2 ≢ bad_type
  pub scratch_is : told.scratch ≡ scratch_of told.name

-- It may be moved, and on a sound disk of which these are the entries it is the one file of its name, as it is told.
pub record TellsFile (entries : List RtEntry) (disk : Disk) (told : FileToMove) : Type 0 where
  pub movable : IsMovable told
  pub is_told : IsSoundDisk disk → entries ≡ directory_entries disk.image → IsTold told (rt_store_of disk.image)

-- each of them may
abbrev pub TellsFiles : List FileToMove → Disk → Type 0
TellsFiles files disk =
    (k : ℕ) (told : FileToMove) → slice_get files k ≡ Some told →
    IsMovable told × (IsSoundDisk disk → IsTold told (rt_store_of disk.image))

-- a file, if there is one
abbrev pub as_list : Option FileToMove → List FileToMove
as_list None = []
as_list (Some told) = told ∷ []

-- on a sound disk of which these are the entries an entry tells that file, or none
abbrev pub TellsEntry : List RtEntry → RtEntry → Disk → Option FileToMove → Type 0
TellsEntry entries e disk found =
    IsSoundDisk disk → entries ≡ directory_entries disk.image → found ≡ file_to_move disk.image entries e

-- and they tell those files
abbrev pub TellsEntries : List RtEntry → Disk → List FileToMove → Type 0
TellsEntries entries disk files =
    IsSoundDisk disk → entries ≡ directory_entries disk.image → files ≡ filter_map (file_to_move disk.image entries) entries

-- The directory was read, and the files that may be moved are told: exactly these, where the disk is sound. For each entry two transfers
-- are made at most.
pub record TellsAll (files : List FileToMove) (old new : Disk) : Type 0 where
  pub entries : ℕ
  pub entries_are : IsTrue old.honest → entries ≡ length (directory_entries old.image)
  pub exact : IsSoundDisk old → files ≡ files_to_move old.image
  pub looked : Looked old new (62 + 2 * entries) 0
  pub tells : TellsFiles files old

-- It wasn't read: for want of memory, or since a transfer failed.
pub record FailsToTell (e : RtRefusal) (old new : Disk) : Type 0 where
  pub entries : ℕ
  pub entries_are : IsTrue old.honest → entries ≡ length (directory_entries old.image)
  pub looked : Looked old new (62 + 2 * entries) (faults_in {T = Unit} (Err e))
  pub why : is_fault e ≡ false → e ≡ NoMemory
