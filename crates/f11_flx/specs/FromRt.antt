-- What a copy from an RT-11 volume tells, whatever it is that answers for the Files-11 volume, on any devices (profile).
use Rattle.std.specs.Prelude.{◌≡◌, ◌⊎◌, ℕ, List}
use Rattle.f11_dev.specs.Disk.{Disk}
use Rattle.f11_dev.specs.declared.device.Device.{Ghosts}
use Rattle.f11_store.specs.declared.files.FileId.{FileId}
use Rattle.rt11_volume.specs.declared.volume.RtAccepted.{RtAccepted}
use Rattle.f11_making.specs.Asking.{FilesService, Who}
use Rattle.f11_making.specs.Making.{as_file}
use Rattle.f11_flx.specs.Making.{FailsToMakeCopy, MakesCopy}
use Rattle.f11_flx.specs.Planning.{FailsToPlan, Plans}
use Rattle.f11_flx.specs.declared.mode.CopyMode.{CopyMode}
use Rattle.f11_flx.specs.declared.refusal.FlxRefusal.{FlxRefusal}

-- The file was found and its copy judged, of so many blocks, and then it was made.
pub record CopiesFrom {V E : Type 0} {met : Ghosts E} (S : FilesService V) (disk : E → Disk) (m : CopyMode) (who : Who) (lun : ℕ)
    (name : List ℕ)
    (dir : FileId) (to : List ℕ) (protection blocks : ℕ) (rt rt' : RtAccepted E met) (old new : V) : Type 0 where
  pub many : ℕ
  pub attr : List ℕ
  pub between : RtAccepted E met
  pub plans : Plans disk m name many blocks attr rt between
  pub makes :
      (pieces : List (List ℕ)) → MakesCopy S disk m who lun name many blocks (as_file to dir protection attr pieces) between rt' old new

-- It wasn't found, or has no copy; nothing was asked of the Files-11 volume.
pub record HasNoPlan {V E : Type 0} {met : Ghosts E} (disk : E → Disk) (m : CopyMode) (name : List ℕ) (f : FlxRefusal)
    (rt rt' : RtAccepted E met) (old new : V) : Type 0 where
  pub fails : FailsToPlan disk m name f rt rt'
  pub unasked : new ≡ old

-- It was judged, and its copy wasn't made.
pub record HasPlanAlone {V E : Type 0} {met : Ghosts E} (S : FilesService V) (disk : E → Disk) (m : CopyMode) (who : Who) (lun : ℕ)
    (name : List ℕ) (dir : FileId) (to : List ℕ) (protection : ℕ) (f : FlxRefusal) (rt rt' : RtAccepted E met) (old new : V) : Type 0 where
  pub many : ℕ
  pub blocks : ℕ
  pub attr : List ℕ
  pub between : RtAccepted E met
  pub plans : Plans disk m name many blocks attr rt between
  pub fails : (pieces : List (List ℕ)) →
      FailsToMakeCopy S disk m who lun name many blocks (as_file to dir protection attr pieces) f between rt' old new

abbrev pub FailsToCopyFrom : {V E : Type 0} {met : Ghosts E} → FilesService V → (E → Disk) → CopyMode → Who → ℕ → List ℕ → FileId → List ℕ
    → ℕ →
    FlxRefusal → RtAccepted E met → RtAccepted E met → V → V → Type 0
FailsToCopyFrom S disk m who lun name dir to protection f rt rt' old new =
    (HasNoPlan disk m name f rt rt' old new) ⊎ (HasPlanAlone S disk m who lun name dir to protection f rt rt' old new)
