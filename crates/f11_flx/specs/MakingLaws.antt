-- Laws of copies from RT-11 volumes, over the plain store of the Files-11 volume (profile).
use Rattle.std.specs.Prelude.{◌≡◌, ℕ, ◌+◌, ◌==◌, false, List, All, length, Some}
use Rattle.f11_dev.specs.Disk.{Disk}
use Rattle.f11_runs.specs.Standing.{AccessesStand}
use Rattle.f11_store.specs.Accesses.{FreeIsEmpty}
use Rattle.f11_store.specs.Changes.{Enters}
use Rattle.f11_store.specs.Directory.{record_bytes}
use Rattle.f11_store.specs.File.{File}
use Rattle.f11_store.specs.Ident.{ident_with}
use Rattle.f11_store.specs.Store.{Store}
use Rattle.f11_store.specs.declared.callers.Uic.{Uic}
use Rattle.f11_store.specs.declared.files.FileId.{FileId}
use Rattle.f11_store.specs.declared.refusals.Refusal.{Refusal}
use Rattle.rt11_volume.specs.Files.{HasFile, file_area}
use Rattle.rt11_volume.specs.Store.{RtStore}
use Rattle.f11_making.specs.Asking.{Granted, Who, plain}
use Rattle.f11_flx.specs.Conversion.{Copy, HoldsCopy, copied_from_rt}
use Rattle.f11_making.specs.AsBefore.{IndexAfter, IsAsBefore}
use Rattle.f11_making.specs.Making.{FailsToMakeFile}
use Rattle.f11_flx.specs.CopyFromRt.{CopiesFromRt, FailsToCopyFromRt}
use Rattle.f11_making.specs.Making.{Making, as_file, final_attr, making_of, new_id}
use Rattle.f11_flx.specs.declared.mode.CopyMode.{CopyMode}
use Rattle.f11_flx.specs.declared.refusal.FlxRefusal.{FlxRefusal}

-- where no file is in a slot that isn't in use, and accesses are to files that are there, a making that is refused and undone leaves all
-- as it was before, but for slots that the index file got first
abbrev pub RefusedMakingLeaves : Type 0
RefusedMakingLeaves =
    (making : Making) (who : Who) (lun : ℕ) (e : Refusal) (s s' : Store) → FreeIsEmpty s → AccessesStand s →
    FailsToMakeFile making who lun (new_id s) e s s' → IsAsBefore s s'

-- and so does a copy
abbrev pub RefusedCopyLeaves : Type 0
RefusedCopyLeaves =
    (f : FlxRefusal) (m : CopyMode) (name : List ℕ) (who : Who) (lun : ℕ) (dir : FileId) (to : List ℕ) (protection : ℕ) (disk : Disk)
    (s s' : Store) → FreeIsEmpty s → AccessesStand s → FailsToCopyFromRt f m name who lun dir to protection disk s s' → IsAsBefore s s'

-- A name was entered into a directory as it was before, and nothing else is done to the directory.
pub record IsNameEntered (making : Making) (id : FileId) (s s' : Store) : Type 0 where
  pub before : Store
  pub after : Store
  pub as_before : before.file making.directory.number ≡ s.file making.directory.number
  pub enters : Enters before making.directory (record_bytes id making.name) after
  pub as_after : s'.file making.directory.number ≡ after.file making.directory.number

-- A file was made as it was to be, in a free slot, and entered; all other files, and what tasks hold, are as before, but the index file may
-- have got slots first.
pub record HasMadeFile (making : Making) (caller : Uic) (id : FileId) (s s' : Store) : Type 0 where
  pub file : File
  pub there : s'.file id.number ≡ Some file
  pub sequence_is : file.sequence ≡ id.sequence
  pub was_free : s.in_use id.number ≡ false
  pub blocks_are : file.blocks ≡ making.blocks
  pub attr_is : file.attr ≡ final_attr making
  pub ident_is : file.ident ≡ ident_with making.name
  pub owner_is : file.owner ≡ caller
  pub protection_is : file.protection ≡ making.protection
  pub entered : IsNameEntered making id s s'
  pub others : (n : ℕ) → (n == id.number) ≡ false → (n == making.directory.number) ≡ false → (n == 1) ≡ false → s'.file n ≡ s.file n
  pub added : ℕ
  pub index : IndexAfter s s' added
  pub slots : s'.slots ≡ s.slots + added
  pub access : (task lun : ℕ) → s'.access task lun ≡ s.access task lun

-- so it is where the requests of a making are granted, in a directory that is another file
abbrev pub GrantedIsMade : Type 0
GrantedIsMade =
    (making : Making) (who : Who) (lun : ℕ) (s s' : Store) → ((new_id s).number == making.directory.number) ≡ false →
    Granted plain who (making_of making lun (new_id s)) s s' → HasMadeFile making who.caller (new_id s) s s'

-- The file that was made holds the copy of the RT-11 file, of so many blocks.
pub record HasCopyOf (m : CopyMode) (name : List ℕ) (making : Making) (caller : Uic) (id : FileId) (blocks : ℕ) (t : RtStore)
    (s s' : Store) : Type 0
  where
    pub source : HasFile name t
    pub copy : Copy
    pub converted : copied_from_rt m (file_area source).contents ≡ Some copy
    pub made : HasMadeFile making caller id s s'
    pub holds : HoldsCopy made.file copy
    pub blocks_are : length made.file.blocks ≡ blocks
    pub whole : All (λ block. length block ≡ 512) made.file.blocks

-- what a copy makes, entered with its name into its directory, which it never is itself
abbrev pub CopiedHolds : Type 0
CopiedHolds =
    (m : CopyMode) (name : List ℕ) (who : Who) (lun : ℕ) (dir : FileId) (to : List ℕ) (protection blocks : ℕ) (t : RtStore) (s s' : Store) →
    CopiesFromRt m name who lun dir to protection blocks t s s' →
    (attr : List ℕ) × (pieces : List (List ℕ)) ×
    HasCopyOf m name (as_file to dir protection attr pieces) who.caller (new_id s) blocks t s s'
