-- What was asked where a device fault or Damaged ended a copy to an RT-11 volume: nothing follows it (profile).
use Rattle.std.specs.Prelude.{◌≡◌, ◌⊎◌, ℕ, ⊤, Bool, true, false, List, All}
use Rattle.f11_dev.specs.Disk.{Disk}
use Rattle.f11_dev.specs.declared.device.Device.{Ghosts}
use Rattle.f11_store.specs.declared.files.FileId.{FileId}
use Rattle.f11_store.specs.declared.files.Mode.TheVariants as access
use Rattle.f11_store.specs.declared.refusals.Refusal.{Refusal}
use Rattle.f11_store.specs.declared.requests.Request.{Request}
use Rattle.f11_store.specs.declared.requests.Request.TheVariants as request
use Rattle.rt11_volume.specs.Laws.{HasMade}
use Rattle.rt11_volume.specs.Verifying.Verdict.{IsSoundDisk}
use Rattle.rt11_volume.specs.declared.volume.RtAccepted.{RtAccepted}
use Rattle.f11_making.specs.Asking.{Asking, Denies, Granted, Grants, FilesService, Who, asks, counts, reads, told, writes}
use Rattle.f11_flx.specs.Ended.{EndsDenied}
use Rattle.f11_flx.specs.Filling.{Took}
use Rattle.f11_flx.specs.Refusal.{is_lethal}
use Rattle.f11_flx.specs.RtOutcome.{HasSameFiles}
use Rattle.f11_flx.specs.Target.{Makes, rt_disk, rt_store}
use Rattle.f11_flx.specs.ToRt.{FailsLocked, rt_takes}
use Rattle.f11_flx.specs.declared.mode.CopyMode.{CopyMode}
use Rattle.f11_flx.specs.declared.refusal.FlxRefusal.{FlxRefusal}
use Rattle.f11_flx.specs.declared.refusal.FlxRefusal.TheVariants as refusal

-- what accesses a file or reads it, and gives nothing up
abbrev pub is_holding_request : Request → Bool
is_holding_request (request.Access id mode lun) = true
is_holding_request (request.ReadAttr id) = true
is_holding_request _ = false

abbrev pub is_holding : Asking → Bool
is_holding (asks r) = is_holding_request r
is_holding (told r reply) = is_holding_request r
is_holding (reads lun vbn block) = true
is_holding (writes lun vbn block) = false
is_holding (counts lun blocks) = true

-- All that was asked was granted, and nothing was given up.
pub record HoldsAsked {V : Type 0} (S : FilesService V) (who : Who) (old new : V) : Type 0 where
  pub asked : List Asking
  pub granted : Granted S who asked old new
  pub holding : All (λ x. is_holding x ≡ true) asked

-- A transfer failed on the RT-11 volume: all that was asked of the other was granted, but for the last, which may have been refused, and
-- the source wasn't given up.
pub record EndsHeld {V : Type 0} (S : FilesService V) (who : Who) (old new : V) : Type 0 where
  pub at : V
  pub holds : HoldsAsked S who old at
  pub last : (new ≡ at) ⊎ ((x : Asking) × (e : Refusal) × (is_lethal (refusal.Files e) ≡ false) × Denies S who x e at new)

-- A file was made on the RT-11 volume, and its first blocks were written; it stays.
pub record IsMadeInPart {E : Type 0} {met : Ghosts E} (disk : E → Disk) (name : List ℕ) (day : ℕ) (old new : RtAccepted E met) :
    Type 0
  where
    pub blocks : ℕ
    pub made : RtAccepted E met
    pub makes : Makes disk name blocks day old made
    pub pieces : List (List ℕ)
    pub took : Took (rt_takes disk) name 0 pieces made new

-- On a sound disk the volume has the files that it had, or one more of that name, and the disk is sound.
pub record HasAtMostOneMore {E : Type 0} {met : Ghosts E} (disk : E → Disk) (name : List ℕ) (day : ℕ) (old new : RtAccepted E met) :
    Type 0
  where
    pub sound : IsSoundDisk (rt_disk disk old) → IsSoundDisk (rt_disk disk new)
    pub files : IsSoundDisk (rt_disk disk old) → (HasSameFiles name (rt_store disk old) (rt_store disk new))
        ⊎ ((blocks : ℕ) × HasMade name blocks day (rt_store disk old) (rt_store disk new))

-- The copy had been refused, for no device fault or Damaged, and its file was undone; giving up the source is what was asked last.
pub record WasRefused {V E : Type 0} {met : Ghosts E} (m : CopyMode) (S : FilesService V) (disk : E → Disk) (who : Who) (lun : ℕ)
    (file : FileId) (name : List ℕ) (day : ℕ) (e : Refusal) (old new : V) (rt rt' : RtAccepted E met) : Type 0 where
  pub opened : V
  pub opens : Grants S who (asks (request.Access file access.Locked lun)) old opened
  pub before : FlxRefusal
  pub clean : is_lethal before ≡ false
  pub stopped : V
  pub fails : FailsLocked m S disk who lun file name day before opened stopped rt rt'
  pub denied : Denies S who (asks (request.Deaccess lun)) e stopped new

-- The Files-11 volume's refusal is of what was asked of it last. Nothing was asked of the RT-11 volume, or a file was made, and wasn't
-- deleted; or it was undone before that, since the copy had been refused.
pub record EndsOnFiles {V E : Type 0} {met : Ghosts E} (m : CopyMode) (S : FilesService V) (disk : E → Disk) (who : Who) (lun : ℕ)
    (file : FileId) (name : List ℕ) (day : ℕ) (e : Refusal) (old new : V) (rt rt' : RtAccepted E met) : Type 0 where
  pub files : EndsDenied S who e old new
  pub target : ((rt' ≡ rt) ⊎ (IsMadeInPart disk name day rt rt')) ⊎ (WasRefused m S disk who lun file name day e old new rt rt')
  pub left : HasAtMostOneMore disk name day rt rt'

-- how a copy to an RT-11 volume ends by a refusal that is a device fault or Damaged
abbrev pub EndsToRt : {V E : Type 0} {met : Ghosts E} → CopyMode → FilesService V → (E → Disk) → Who → ℕ → FileId → List ℕ → ℕ → FlxRefusal
    →
    V → V → RtAccepted E met → RtAccepted E met → Type 0
EndsToRt m S disk who lun file name day (refusal.Files e) old new rt rt' = EndsOnFiles m S disk who lun file name day e old new rt rt'
EndsToRt m S disk who lun file name day (refusal.Rt e) old new rt rt' = EndsHeld S who old new
EndsToRt m S disk who lun file name day refusal.BadRecord old new rt rt' = ⊤
EndsToRt m S disk who lun file name day refusal.LineTooLong old new rt rt' = ⊤
EndsToRt m S disk who lun file name day refusal.Unread old new rt rt' = ⊥
