-- What bringing the files of an RT-11 volume together tells (RT-11 System User's Guide, SQUEEZE; profile: one pass, a file after another).
use Rattle.std.specs.Prelude.{◌≡◌, ◌⊎◌, ℕ, ◌+◌, ◌*◌, ◌<◌, ◌≤◌, Bool, true, false, not, if◌then◌else◌, nat_lt, List, []}
use Rattle.std.specs.Prelude.{◌∷◌, length}
use Rattle.std.specs.Prelude.{Option, Some, None, Result, Ok, Err}
use Rattle.std.specs.List.{list_any, slice_get, sum_by}
use Rattle.f11_dev.specs.Disk.{Disk}
use Rattle.f11_dev.specs.Image.{Image}
use Rattle.f11_dev.specs.Went.{Went}
use Rattle.f11_dev.specs.declared.device.Device.{Ghosts}
use Rattle.rt11_volume.specs.Calls.{has_failed}
use Rattle.rt11_volume.specs.Entry.{is_same_name}
use Rattle.rt11_volume.specs.Files.{FailsToCreate, IsFileAt, faults_in, is_device_fault, is_fault}
use Rattle.rt11_volume.specs.Named.{files_named}
use Rattle.rt11_volume.specs.Store.{Area, RtStore, rt_store_of}
use Rattle.rt11_volume.specs.Verifying.Verdict.{IsSoundDisk}
use Rattle.rt11_volume.specs.declared.area.RtArea.{RtArea}
use Rattle.rt11_volume.specs.declared.refusal.RtRefusal.{RtRefusal}
use Rattle.rt11_volume.specs.declared.refusal.RtRefusal.TheVariants.{
  Failed,
  NoSuchFile,
  EndOfFile,
  Protected,
  DuplicateName,
  NoSpace,
  DirectoryFull,
  NoMemory,
  DeviceFault,
}
use Rattle.rt11_volume.specs.declared.volume.RtAccepted.{RtAccepted}
use Rattle.rt11_squeeze.specs.Kept.{HasSameFiles, SparesFiles, volume_disk, volume_store}
use Rattle.rt11_squeeze.specs.Rooms.{areas_listed, is_gap_at, is_gap_before, room_in}
use Rattle.rt11_squeeze.specs.Moving.{WasCopied, move_transfers}
use Rattle.rt11_squeeze.specs.declared.moving.FileToMove.{FileToMove}
use Rattle.rt11_squeeze.specs.declared.way.Way.{Way}
use Rattle.rt11_squeeze.specs.declared.way.Way.TheVariants.{Stay, Once, Twice, Barred}
use Rattle.rt11_squeeze.specs.declared.outcome.Squeezed.{Squeezed}
use Rattle.rt11_squeeze.specs.declared.outcome.Squeezed.TheVariants.{InPlace, Moved, Refused}

-- behind which refusal nothing more can be done
abbrev pub ends_all : RtRefusal → Bool
ends_all Failed = true
ends_all NoSuchFile = false
ends_all EndOfFile = false
ends_all Protected = false
ends_all DuplicateName = false
ends_all NoSpace = false
ends_all DirectoryFull = false
ends_all NoMemory = true
ends_all DeviceFault = true

-- There is one file of the name, and it is as it is told.
pub record IsTold (told : FileToMove) (store : RtStore) : Type 0 where
  pub file : Area
  pub named : files_named told.name store ≡ file ∷ []
  pub count_is : length file.contents ≡ told.blocks
  pub date_is : file.date ≡ told.date
  pub protected_is : file.protected ≡ told.protected

-- each of them is
abbrev pub AreTold : List FileToMove → RtStore → Type 0
AreTold files store = (k : ℕ) (told : FileToMove) → slice_get files k ≡ Some told → IsTold told store

-- so many transfers are made at most for a file: it is looked for before and behind, the areas are listed, and it is moved twice
abbrev pub file_transfers : FileToMove → ℕ
file_transfers told = 186 + 2 * move_transfers told.blocks

-- and so many for all
abbrev pub squeeze_transfers : List FileToMove → ℕ
squeeze_transfers files = sum_by file_transfers files

-- a name is that of none of these files, nor of a copy of one
abbrev pub IsNoneOf : List FileToMove → List ℕ → Type 0
IsNoneOf files name =
    (k : ℕ) (told : FileToMove) → slice_get files k ≡ Some told →
    (is_same_name told.name name ≡ false) × (is_same_name told.scratch name ≡ false)

-- The volume is sound still, and the files of each name are those that there were; those of another name than these files have, and
-- their copies, lie where they lay.
pub record KeepsAllFiles (files : List FileToMove) (old new : Disk) : Type 0 where
  pub sound : IsSoundDisk new
  pub same : HasSameFiles (rt_store_of old.image) (rt_store_of new.image)
  pub places : (name : List ℕ) → IsNoneOf files name → files_named name (rt_store_of new.image) ≡ files_named name (rt_store_of old.image)

-- Calls were made on a volume to move files that are as they are told. Each image that stood meanwhile has the blocks of each file, and
-- unless a transfer failed the files are those that there were.
pub record Preserves {D T : Type 0} {met : Ghosts D} (files : List FileToMove) (disk : D → Disk) (most : ℕ) (result : Result T RtRefusal)
    (old new : RtAccepted D met) : Type 0 where
  pub went : Went (λ (image : Image). AreTold files (volume_store disk old) → SparesFiles (volume_disk disk old) image)
      (volume_disk disk old) (volume_disk disk new) most (faults_in result)
  pub next : has_failed new ≡ is_device_fault result
  pub kept : is_device_fault result ≡ false → IsSoundDisk (volume_disk disk old) → AreTold files (volume_store disk old) →
      KeepsAllFiles files (volume_disk disk old) (volume_disk disk new)

-- how a file comes to a lower block, by where the first empty area that is as long begins, and whether one lies right before the file
abbrev pub way_through : Option ℕ → Bool → ℕ → Way
way_through None adjoins start = Barred
way_through (Some room) adjoins start = if nat_lt room start then Once else if adjoins then Twice else Barred

-- how one of so many blocks that begins there does
abbrev pub way_by : List RtArea → ℕ → ℕ → Way
way_by areas start blocks =
    if not (list_any (is_gap_before start) areas) then Stay
    else way_through (room_in areas blocks) (list_any (is_gap_at start) areas) start

-- The file begins there.
pub record BeginsAt (name : List ℕ) (start : ℕ) (store : RtStore) : Type 0 where
  pub long : ℕ
  pub is : IsFileAt name store start long

-- It begins below a block.
pub record BeginsBelow (name : List ℕ) (from : ℕ) (store : RtStore) : Type 0 where
  pub to : ℕ
  pub begins : BeginsAt name to store
  pub lower : to < from

-- It begins at no lower one.
pub record BeginsNoLower (name : List ℕ) (from : ℕ) (store : RtStore) : Type 0 where
  pub to : ℕ
  pub begins : BeginsAt name to store
  pub no_lower : from ≤ to

-- what is told of a file that began at a block, and that was moved: it begins at a lower one, or there was no space for that
abbrev pub TellsPlace : Squeezed → List ℕ → ℕ → Disk → Type 0
TellsPlace InPlace name from now = ⊥
TellsPlace Moved name from now = IsSoundDisk now → BeginsBelow name from (rt_store_of now.image)
TellsPlace (Refused e) name from now = (e ≡ NoSpace) × (IsSoundDisk now → BeginsNoLower name from (rt_store_of now.image))

-- what is so on a sound disk whose store is so
abbrev pub OnSound : (RtStore → Type 0) → Disk → Type 0 → Type 0
OnSound Is disk P = IsSoundDisk disk → Is (rt_store_of disk.image) → P

-- it ends for want of memory alone, unless a transfer failed
abbrev pub EndsEarly : RtRefusal → Type 0
EndsEarly e = is_fault e ≡ false → e ≡ NoMemory

-- No copy can be made of a file for this, which doesn't end all.
pub record IsUncopied (told : FileToMove) (e : RtRefusal) (now : Disk) : Type 0 where
  pub goes_on : ends_all e ≡ false
  pub fails : FailsToCreate e told.scratch told.blocks now

-- A file was moved, by a copy, to the first empty area that is as long.
pub record IsMovedThere (told : FileToMove) (old new : Disk) : Type 0 where
  pub copied : WasCopied told.name told.scratch old new
  pub file : Area
  pub is : files_named told.name (rt_store_of new.image) ≡ file ∷ []
  pub place : room_in (areas_listed (rt_store_of old.image)) told.blocks ≡ Some file.start

-- what trying that tells: it was moved, or no copy can be made of it, or it ends early
abbrev pub Tries : FileToMove → Result (Option RtRefusal) RtRefusal → Disk → Disk → Type 0
Tries told (Ok None) old new = IsMovedThere told old new
Tries told (Ok (Some e)) old new = IsUncopied told e new
Tries told (Err e) old new = EndsEarly e

-- It was moved twice so; between the moves an image stood that has the files as they were.
pub record IsMovedTwice (told : FileToMove) (old new : Disk) : Type 0 where
  pub middle : Disk
  pub before : List Image
  pub stood : middle.history ≡ middle.image ∷ before
  pub first : IsMovedThere told old middle
  pub kept : KeepsAllFiles (told ∷ []) old middle
  pub second : IsMovedThere told middle new

-- it was moved in such a way
abbrev pub IsMovedBy : Way → FileToMove → Disk → Disk → Type 0
IsMovedBy Stay told old new = IsMovedThere told old new
IsMovedBy Once told old new = IsMovedThere told old new
IsMovedBy Twice told old new = IsMovedTwice told old new
IsMovedBy Barred told old new = IsMovedThere told old new

-- what trying that tells
abbrev pub TriesBy : Way → FileToMove → Result (Option RtRefusal) RtRefusal → Disk → Disk → Type 0
TriesBy way told (Ok None) old new = IsMovedBy way told old new
TriesBy way told (Ok (Some e)) old new = IsUncopied told e new
TriesBy way told (Err e) old new = EndsEarly e

-- whether an empty area lies before a block of a disk
abbrev pub has_gap_before : ℕ → Disk → Bool
has_gap_before start disk = list_any (is_gap_before start) (areas_listed (rt_store_of disk.image))

-- It isn't moved: there is no way to a lower block than this one, where it begins.
pub record IsBarred (told : FileToMove) (from : ℕ) (e : RtRefusal) (old new : Disk) : Type 0 where
  pub e_is : e ≡ NoSpace
  pub barred : way_by (areas_listed (rt_store_of old.image)) from told.blocks ≡ Barred
  pub same : new.image ≡ old.image

-- It was moved twice, as no other way is open, but to no lower block than this one, where it began.
pub record IsMovedNoLower (told : FileToMove) (from : ℕ) (e : RtRefusal) (old new : Disk) : Type 0 where
  pub e_is : e ≡ NoSpace
  pub twice : way_by (areas_listed (rt_store_of old.image)) from told.blocks ≡ Twice
  pub moved : IsMovedTwice told old new
  pub place : BeginsNoLower told.name from (rt_store_of new.image)

-- A file wasn't brought to a lower block than this one, where it began, though an empty area lies before it: there is no way, or no copy
-- can be made of it where it lies now, or both moves were made for nothing.
pub record IsStuck (told : FileToMove) (from : ℕ) (e : RtRefusal) (old new : Disk) : Type 0 where
  pub gap : has_gap_before from old ≡ true
  pub why : IsBarred told from e old new ⊎ (IsUncopied told e new ⊎ IsMovedNoLower told from e old new)

-- what became of a file that began at a block: it stays, and no empty area lies before it; or it was moved in its way, and begins at a
-- lower one; or it is stuck
abbrev pub Became : Squeezed → FileToMove → ℕ → Disk → Disk → Type 0
Became InPlace told from old new = (has_gap_before from old ≡ false) × (new.image ≡ old.image)
Became Moved told from old new =
    BeginsBelow told.name from (rt_store_of new.image)
    × IsMovedBy (way_by (areas_listed (rt_store_of old.image)) from told.blocks) told old new
Became (Refused e) told from old new = IsStuck told from e old new

-- A file was brought to a lower block, or not, and all files are those that there were.
pub record SqueezesOne (told : FileToMove) (outcome : Squeezed) (old new : Disk) : Type 0 where
  pub from : ℕ
  pub begins : BeginsAt told.name from (rt_store_of old.image)
  pub became : Became outcome told from old new
  pub kept : KeepsAllFiles (told ∷ []) old new

-- so were files, one after another, each on the disk that the one before left
pub data SqueezesEach : List FileToMove → List Squeezed → Disk → Disk → Type 0 where
  none : (disk : Disk) → SqueezesEach [] [] disk disk
  more : (told : FileToMove) (outcome : Squeezed) (files : List FileToMove) (outcomes : List Squeezed) (old middle new : Disk)
      → SqueezesOne told outcome old middle → SqueezesEach files outcomes middle new
      → SqueezesEach (told ∷ files) (outcome ∷ outcomes) old new
