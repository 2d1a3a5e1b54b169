-- What copying a file of one RT-11 volume to another tells (RT-11 System User's Guide, COPY; profile: its blocks are read before anything
-- is written).
use Rattle.std.specs.Prelude.{◌≡◌, ◌≢◌, ◌⊎◌, ℕ, ◌+◌, Bool, false, if◌then◌else◌, List, [], ◌∷◌, length, Some, Result, Ok, Err}
use Rattle.f11_dev.specs.Disk.{Disk}
use Rattle.rt11_volume.specs.Files.{FailsToCreate, is_fault}
use Rattle.rt11_volume.specs.Laws.{KeepsOtherNames}
use Rattle.rt11_volume.specs.Named.{files_named}
use Rattle.rt11_volume.specs.Store.{Area, RtStore, rt_store_of}
use Rattle.rt11_volume.specs.Verifying.Verdict.{IsSoundDisk}
use Rattle.rt11_volume.specs.declared.any_entries.RtEntry.{RtEntry}
use Rattle.rt11_volume.specs.declared.directory.LookFault.{LookFault}
use Rattle.rt11_volume.specs.declared.directory.LookFault.TheVariants.{DeviceFault as ReadFault, NoMemory as ReadLack}
use Rattle.rt11_volume.specs.declared.refusal.RtRefusal.{RtRefusal}
use Rattle.rt11_volume.specs.declared.refusal.RtRefusal.TheVariants.{Failed, NoMemory}
use Rattle.rt11_squeeze.specs.Copying.{copy_transfers}
use Rattle.rt11_squeeze.specs.Rooms.{areas_listed, room_in}
use Rattle.rt11_copy.specs.Entries.{IsToCopy, name_to_copy}
use Rattle.rt11_copy.specs.Reading.{ReadsFile, read_transfers}
use Rattle.rt11_copy.specs.declared.outcome.RtUncopied.{RtUncopied}
use Rattle.rt11_copy.specs.declared.outcome.RtUncopied.TheVariants.{NoFile, StatusWrong, NoName, PastEnd, Unreadable, Refused}

-- so many transfers are made at most on the volume: the file is made, its blocks are written, and it is protected
abbrev pub making_transfers : ℕ → ℕ
making_transfers blocks = copy_transfers blocks + 63

-- There is one file more: of these blocks and this date, protected or not, the only one of its name, in the front of the first empty area
-- that is as long. Each file of another name is as it was, at its place.
pub record HasOneMore (name : List ℕ) (day : ℕ) (protected : Bool) (blocks : List (List ℕ)) (old new : RtStore) : Type 0 where
  pub file : Area
  pub none : files_named name old ≡ []
  pub one : files_named name new ≡ file ∷ []
  pub place : room_in (areas_listed old) (length blocks) ≡ Some file.start
  pub blocks_are : file.contents ≡ blocks
  pub date_is : file.date ≡ day
  pub protected_is : file.protected ≡ protected
  pub others : KeepsOtherNames name old new

-- A file was made, and the volume is sound still.
pub record Makes (name : List ℕ) (day : ℕ) (protected : Bool) (blocks : List (List ℕ)) (old new : Disk) : Type 0 where
  pub sound : IsSoundDisk old → IsSoundDisk new
  pub made : IsSoundDisk old → HasOneMore name day protected blocks (rt_store_of old.image) (rt_store_of new.image)

-- The file of an entry was copied: there is one file more, of the name that the entry has, protected where it says so, of its date and
-- its blocks as they were read.
pub record CopiesFile (e : RtEntry) (from old new : Disk) : Type 0 where
  pub name : List ℕ
  pub day : ℕ
  pub blocks : List (List ℕ)
  pub to_copy : IsToCopy e name from
  pub reads : ReadsFile e day blocks from
  pub makes : Makes name day e.protected blocks old new

-- An entry isn't that of a file that can be copied, and nothing was done to the volume.
pub record IsBarred (why : RtUncopied) (e : RtEntry) (from old new : Disk) : Type 0 where
  pub barred : name_to_copy (length from.image) e ≡ Err why
  pub untouched : new ≡ old

-- It is, but it couldn't be read, since a transfer failed, and nothing was done to the volume.
pub record IsUnread (e : RtEntry) (from old new : Disk) : Type 0 where
  pub name : List ℕ
  pub to_copy : IsToCopy e name from
  pub untouched : new ≡ old

-- It is, but there was no memory for its blocks, or on a sound volume no such file can be made. Nothing was written, unless a transfer to
-- the volume failed.
pub record IsRefused (refusal : RtRefusal) (e : RtEntry) (from old new : Disk) : Type 0 where
  pub name : List ℕ
  pub to_copy : IsToCopy e name from
  pub fresh : refusal ≢ Failed
  pub why : IsSoundDisk old → is_fault refusal ≡ false → (refusal ≡ NoMemory) ⊎ FailsToCreate refusal name e.blocks old
  pub stays : IsSoundDisk old → is_fault refusal ≡ false → new.image ≡ old.image

-- why the file of an entry wasn't copied
abbrev pub FailsToCopyFile : RtUncopied → RtEntry → Disk → Disk → Disk → Type 0
FailsToCopyFile NoFile e from old new = IsBarred NoFile e from old new
FailsToCopyFile StatusWrong e from old new = IsBarred StatusWrong e from old new
FailsToCopyFile NoName e from old new = IsBarred NoName e from old new
FailsToCopyFile PastEnd e from old new = IsBarred PastEnd e from old new
FailsToCopyFile Unreadable e from old new = IsUnread e from old new
FailsToCopyFile (Refused refusal) e from old new = IsRefused refusal e from old new

-- as what it is told that a file couldn't be read
abbrev pub unread : LookFault → RtUncopied
unread ReadFault = Unreadable
unread ReadLack = Refused NoMemory

-- how many transfers failed, by the answer, of those that read
abbrev pub read_faults : {T : Type 0} → Result T RtUncopied → ℕ
read_faults (Ok x) = 0
read_faults (Err NoFile) = 0
read_faults (Err StatusWrong) = 0
read_faults (Err NoName) = 0
read_faults (Err PastEnd) = 0
read_faults (Err Unreadable) = 1
read_faults (Err (Refused refusal)) = 0

-- how many are made at most to read the file of an entry: none where the entry alone tells that it isn't copied
abbrev pub reads_at_most : {T : Type 0} → RtEntry → Result T RtUncopied → ℕ
reads_at_most e (Ok x) = read_transfers e.blocks
reads_at_most e (Err NoFile) = 0
reads_at_most e (Err StatusWrong) = 0
reads_at_most e (Err NoName) = 0
reads_at_most e (Err PastEnd) = 0
reads_at_most e (Err Unreadable) = read_transfers e.blocks
reads_at_most e (Err (Refused refusal)) = read_transfers e.blocks

-- whether one of those to the volume failed
abbrev pub is_volume_fault : {T : Type 0} → Result T RtUncopied → Bool
is_volume_fault (Ok x) = false
is_volume_fault (Err NoFile) = false
is_volume_fault (Err StatusWrong) = false
is_volume_fault (Err NoName) = false
is_volume_fault (Err PastEnd) = false
is_volume_fault (Err Unreadable) = false
is_volume_fault (Err (Refused refusal)) = is_fault refusal

-- how many
abbrev pub volume_faults : {T : Type 0} → Result T RtUncopied → ℕ
volume_faults result = if is_volume_fault result then 1 else 0
