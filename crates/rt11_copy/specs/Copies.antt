-- What copying the files of one RT-11 volume to another, one after another, tells (RT-11 System User's Guide, COPY; profile: one that is
-- refused ends nothing, but where a transfer to the volume failed).
use Rattle.std.specs.Prelude.{◌≡◌, ◌⊎◌, ℕ, ◌+◌, ◌≤◌, true, if◌then◌else◌, List, [], ◌∷◌, length, take, Option, Some, None, Result, Ok, Err}
use Rattle.std.specs.List.{slice_get, sum_by}
use Rattle.f11_dev.specs.Disk.{Disk}
use Rattle.rt11_volume.specs.Files.{is_fault}
use Rattle.rt11_volume.specs.Named.{files_named}
use Rattle.rt11_volume.specs.Store.{Area, RtStore, rt_store_of}
use Rattle.rt11_volume.specs.Verifying.Verdict.{IsSoundDisk}
use Rattle.rt11_volume.specs.declared.any_entries.RtEntry.{RtEntry}
use Rattle.rt11_volume.specs.declared.refusal.RtRefusal.{RtRefusal}
use Rattle.rt11_volume.specs.declared.refusal.RtRefusal.TheVariants.{NoMemory}
use Rattle.rt11_copy.specs.Copying.{CopiesFile, FailsToCopyFile, IsRefused, making_transfers, read_faults}
use Rattle.rt11_copy.specs.Entries.{IsToCopy}
use Rattle.rt11_copy.specs.Reading.{ReadsFile, read_transfers}
use Rattle.rt11_copy.specs.declared.outcome.RtCopied.{RtCopied}
use Rattle.rt11_copy.specs.declared.outcome.RtCopied.TheVariants.{Copied, NotCopied}
use Rattle.rt11_copy.specs.declared.outcome.RtUncopied.{RtUncopied}
use Rattle.rt11_copy.specs.declared.outcome.RtUncopied.TheVariants.{NoFile, StatusWrong, NoName, PastEnd, Unreadable, Refused}

-- the refusal that ends all, if it is one: a transfer to the volume failed
abbrev pub ending : RtUncopied → Option RtRefusal
ending NoFile = None
ending StatusWrong = None
ending NoName = None
ending PastEnd = None
ending Unreadable = None
ending (Refused refusal) = if is_fault refusal then Some refusal else None

-- each file that was there is as it was, at its place
abbrev pub KeepsEachFile : RtStore → RtStore → Type 0
KeepsEachFile old new = (name : List ℕ) (file : Area) (more : List Area) →
    files_named name old ≡ file ∷ more → files_named name new ≡ file ∷ more

-- what is answered of a file
abbrev pub as_result : RtCopied → Result Unit RtUncopied
as_result Copied = Ok tt
as_result (NotCopied why) = Err why

-- The file of an entry wasn't copied, for this, and the image of a sound volume is as it was.
pub record IsLeft (why : RtUncopied) (e : RtEntry) (from old new : Disk) : Type 0 where
  pub fails : FailsToCopyFile why e from old new
  pub stays : IsSoundDisk old → new.image ≡ old.image

-- what became of the file of an entry
abbrev pub Became : RtCopied → RtEntry → Disk → Disk → Disk → Type 0
Became Copied e from old new = CopiesFile e from old new
Became (NotCopied why) e from old new = IsLeft why e from old new

-- A volume is sound still, and each file that there was is as it was, at its place.
pub record KeepsVolume (old new : Disk) : Type 0 where
  pub sound : IsSoundDisk old → IsSoundDisk new
  pub files : IsSoundDisk old → KeepsEachFile (rt_store_of old.image) (rt_store_of new.image)

-- The file of an entry became this, and the volume keeps what it had.
pub record CopiesOne (outcome : RtCopied) (e : RtEntry) (from old new : Disk) : Type 0 where
  pub became : Became outcome e from old new
  pub keeps : KeepsVolume old new

-- the files of entries became these, one after another, each on the disk that the one before left
pub data CopiesEach (from : Disk) : List RtEntry → List RtCopied → Disk → Disk → Type 0 where
  none : (disk : Disk) → CopiesEach from [] [] disk disk
  more : (e : RtEntry) (outcome : RtCopied) (entries : List RtEntry) (outcomes : List RtCopied) (old middle new : Disk)
      → CopiesOne outcome e from old middle → CopiesEach from entries outcomes middle new
      → CopiesEach from (e ∷ entries) (outcome ∷ outcomes) old new

-- The file of an entry is on a volume, the only one of the entry's name: with its blocks and its date as they were read, and protected as
-- it says.
pub record HasCopyOf (e : RtEntry) (from : Disk) (store : RtStore) : Type 0 where
  pub name : List ℕ
  pub file : Area
  pub to_copy : IsToCopy e name from
  pub one : files_named name store ≡ file ∷ []
  pub reads : ReadsFile e file.date file.contents from
  pub protected_is : file.protected ≡ e.protected

-- each file that is told as copied is there
abbrev pub HasCopies : List RtEntry → List RtCopied → Disk → RtStore → Type 0
HasCopies entries outcomes from store =
    (k : ℕ) (e : RtEntry) → slice_get entries k ≡ Some e → slice_get outcomes k ≡ Some Copied → HasCopyOf e from store

-- how many files of these couldn't be read, since a transfer failed
abbrev pub unread_one : RtCopied → ℕ
unread_one outcome = read_faults (as_result outcome)

abbrev pub unread_in : List RtCopied → ℕ
unread_in outcomes = sum_by unread_one outcomes

-- so many transfers are made at most for an entry: of those that read, and on the volume
abbrev pub entry_reads : RtEntry → ℕ
entry_reads e = read_transfers e.blocks

abbrev pub entry_writes : RtEntry → ℕ
entry_writes e = making_transfers e.blocks

-- of those of an answer: a file whose copying ended all was read
abbrev pub unread_by : Result RtCopied RtRefusal → ℕ
unread_by (Ok outcome) = unread_one outcome
unread_by (Err refusal) = 0

-- and for all
abbrev pub reads_all : List RtEntry → ℕ
reads_all entries = sum_by entry_reads entries

abbrev pub writes_all : List RtEntry → ℕ
writes_all entries = sum_by entry_writes entries

-- No block of a disk changed, and at most so many transfers were made. (Some may have failed, and others followed.)
pub record OnlyRead (old new : Disk) (most : ℕ) : Type 0 where
  pub image : new.image ≡ old.image
  pub history : new.history ≡ old.history
  pub honest : new.honest ≡ old.honest
  pub transfers : new.transfers ≤ old.transfers + most

-- All files of entries were copied, or not, as these outcomes tell; so many as couldn't be read are the transfers that failed.
pub record CopiesAll (entries : List RtEntry) (outcomes : List RtCopied) (from read old new : Disk) : Type 0 where
  pub count : length outcomes ≡ length entries
  pub each : CopiesEach from entries outcomes old new
  pub there : IsSoundDisk old → HasCopies entries outcomes from (rt_store_of new.image)
  pub failures : read.failures ≡ from.failures + unread_in outcomes
  pub keeps : KeepsVolume old new

-- what ended all: a transfer to the volume failed while this file was made;
pub record EndsAt (e : RtRefusal) (entries : List RtEntry) (place : ℕ) (from middle new : Disk) : Type 0 where
  pub entry : RtEntry
  pub at : slice_get entries place ≡ Some entry
  pub fault : is_fault e ≡ true
  pub refused : IsRefused e entry from middle new

-- or there was no memory for the list of outcomes
abbrev pub EndsWithout : RtRefusal → Disk → Disk → Type 0
EndsWithout e middle new = (e ≡ NoMemory) × (new ≡ middle)

-- It ended early, behind so many entries, whose files were copied, or not, as these outcomes tell.
pub record EndsCopying (e : RtRefusal) (entries : List RtEntry) (from read old new : Disk) : Type 0 where
  pub outcomes : List RtCopied
  pub middle : Disk
  pub few : length outcomes ≤ length entries
  pub before : CopiesEach from (take (length outcomes) entries) outcomes old middle
  pub there : IsSoundDisk old → HasCopies (take (length outcomes) entries) outcomes from (rt_store_of middle.image)
  pub failures : read.failures ≡ from.failures + unread_in outcomes
  pub keeps : KeepsVolume old middle
  pub why : EndsAt e entries (length outcomes) from middle new ⊎ EndsWithout e middle new
