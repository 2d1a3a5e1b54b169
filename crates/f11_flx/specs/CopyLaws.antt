-- Laws of copies, over the plain stores of both volumes (profile).
use Rattle.std.specs.Prelude.{◌≡◌, ℕ, Bool, true, false, List, length, take, Some}
use Rattle.f11_store.specs.Causes.{first_refusal}
use Rattle.f11_store.specs.File.{length_of}
use Rattle.f11_store.specs.Step.{attributes_of}
use Rattle.f11_store.specs.Store.{Store, file_named}
use Rattle.f11_store.specs.declared.files.Attr.{Attr}
use Rattle.f11_store.specs.declared.files.FileId.{FileId}
use Rattle.f11_store.specs.declared.files.Mode.TheVariants as mode
use Rattle.f11_store.specs.declared.refusals.Refusal.{Refusal}
use Rattle.f11_store.specs.declared.requests.Request.TheVariants as request
use Rattle.f11_dev.specs.Disk.{Disk}
use Rattle.f11_dev.specs.declared.device.Device.{Ghosts}
use Rattle.rt11_volume.specs.Store.{RtStore}
use Rattle.rt11_volume.specs.Verifying.Verdict.{IsSoundDisk}
use Rattle.rt11_volume.specs.declared.volume.RtAccepted.{RtAccepted}
use Rattle.f11_making.specs.Asking.{BreaksOffAsking, Granted, FilesService, Who, plain}
use Rattle.f11_flx.specs.Refusal.{is_lethal}
use Rattle.f11_flx.specs.RtOutcome.{LeavesRt}
use Rattle.f11_making.specs.Seen.{IsSeenPlain}
use Rattle.f11_flx.specs.Target.{rt_disk, rt_store}
use Rattle.f11_flx.specs.ToRt.{CopiesFileToRt, FailsToCopyFileToRt}
use Rattle.f11_flx.specs.CopyToRt.{CopiesToRt, FailsToCopyToRt, reading, reading_of, HasWholeBlocks}
use Rattle.f11_flx.specs.declared.mode.CopyMode.{CopyMode}
use Rattle.f11_flx.specs.declared.refusal.FlxRefusal.{FlxRefusal}

-- What reading a source tells is the file's: its attributes, its length, and its first blocks; the store is as before, accesses too.
pub record IsFileReading (source : FileId) (of : Attr) (blocks : ℕ) (walked copied : List (List ℕ)) (s s' : Store) : Type 0 where
  pub stays : s' ≡ s
  pub of_is : of ≡ attributes_of (file_named s source)
  pub blocks_are : blocks ≡ length_of (file_named s source)
  pub walked_are : walked ≡ take (length walked) (file_named s source).blocks
  pub copied_are : copied ≡ take (length copied) (file_named s source).blocks

abbrev pub ReadingIsOfFile : Type 0
ReadingIsOfFile =
    (who : Who) (lun : ℕ) (source : FileId) (of : Attr) (blocks : ℕ) (walked copied : List (List ℕ)) (s s' : Store) →
    Granted plain who (reading source lun of blocks walked copied) s s' → IsFileReading source of blocks walked copied s s'

-- of what is asked for a file nothing is refused but the access; then the store is as before
pub record IsNotAccessed (who : Who) (lun : ℕ) (source : FileId) (e : Refusal) (s s' : Store) : Type 0 where
  pub stays : s' ≡ s
  pub cause : first_refusal s who.task who.caller (request.Access source mode.Locked lun) ≡ Some e

abbrev pub AccessAloneIsRefused : Type 0
AccessAloneIsRefused =
    (m : CopyMode) (who : Who) (lun : ℕ) (source : FileId) (e : Refusal) (s s' : Store) →
    BreaksOffAsking plain who (reading_of m source lun (file_named s source)) e s s' → IsNotAccessed who lun source e s s'

-- a copy to RT-11 leaves the volume of its source as it was, whatever is answered
abbrev pub SourceStays : Type 0
SourceStays =
    (m : CopyMode) (who : Who) (lun : ℕ) (source : FileId) (name : List ℕ) (day blocks : ℕ) (s s' : Store) (t t' : RtStore) →
    CopiesToRt m who lun source name day blocks s s' t t' → s' ≡ s

abbrev pub RefusedSourceStays : Type 0
RefusedSourceStays =
    (e : FlxRefusal) (m : CopyMode) (who : Who) (lun : ℕ) (source : FileId) (name : List ℕ) (s s' : Store) (disk : Disk) →
    FailsToCopyToRt e m who lun source name s s' disk → s' ≡ s

-- A copy that any service and any RT-11 volume made, where the service is seen as the plain store, and sound, and the RT-11 disk
-- is sound, is that of the plain stores;
abbrev pub CopiedIsCopy : {V E : Type 0} {met : Ghosts E} → FilesService V → (E → Disk) → RtAccepted E met → Type 0
CopiedIsCopy {V} {E} {met} S disk rt =
    (view : V → Store) (is_sound : V → Bool) → IsSeenPlain S view is_sound →
    (m : CopyMode) (who : Who) (lun : ℕ) (file : FileId) (name : List ℕ) (count day : ℕ) (old new : V) (rt' : RtAccepted E met) →
    is_sound old ≡ true → IsSoundDisk (rt_disk disk rt) → CopiesFileToRt m S disk who lun file name count day old new rt rt' →
    CopiesToRt m who lun file name day count (view old) (view new) (rt_store disk rt) (rt_store disk rt')

-- and so is one that was refused, unless a device fault or Damaged was met
abbrev pub RefusedIsRefusal : {V E : Type 0} {met : Ghosts E} → FilesService V → (E → Disk) → RtAccepted E met → Type 0
RefusedIsRefusal {V} {E} {met} S disk rt =
    (view : V → Store) (is_sound : V → Bool) → IsSeenPlain S view is_sound →
    (m : CopyMode) (who : Who) (lun : ℕ) (file : FileId) (name : List ℕ) (day : ℕ) (e : FlxRefusal) (old new : V) (rt' : RtAccepted E met) →
    is_sound old ≡ true → IsSoundDisk (rt_disk disk rt) → is_lethal e ≡ false →
    FailsToCopyFileToRt m S disk who lun file name day e old new rt rt' →
    FailsToCopyToRt e m who lun file name (view old) (view new) (rt_disk disk rt)

-- whatever the service, the RT-11 volume is left as the refusal says
abbrev pub RefusedLeavesRt : {V E : Type 0} {met : Ghosts E} → FilesService V → (E → Disk) → RtAccepted E met → Type 0
RefusedLeavesRt {V} {E} {met} S disk rt =
    (m : CopyMode) (who : Who) (lun : ℕ) (file : FileId) (name : List ℕ) (day : ℕ) (e : FlxRefusal) (old new : V) (rt' : RtAccepted E met) →
    FailsToCopyFileToRt m S disk who lun file name day e old new rt rt' → LeavesRt disk name e rt rt'

-- each block of a store's files has 512 bytes
abbrev pub BlocksAreWhole : Store → Type 0
BlocksAreWhole s = (id : FileId) → HasWholeBlocks (file_named s id)
