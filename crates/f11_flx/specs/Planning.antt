-- What is found of a file on an RT-11 volume before its copy is made (profile).
use Rattle.std.specs.Prelude.{◌≡◌, ◌≢◌, ℕ, true, false, List, length, None}
use Rattle.f11_dev.specs.Disk.{Disk}
use Rattle.f11_dev.specs.declared.device.Device.{Ghosts}
use Rattle.rt11_volume.specs.Calls.{has_failed}
use Rattle.rt11_volume.specs.Files.{FailsToFindFile, HasFile, is_fault}
use Rattle.rt11_volume.specs.Verifying.Verdict.{IsSoundDisk}
use Rattle.rt11_volume.specs.declared.refusal.RtRefusal.{RtRefusal}
use Rattle.rt11_volume.specs.declared.refusal.RtRefusal.TheVariants.{Failed}
use Rattle.rt11_volume.specs.declared.volume.RtAccepted.{RtAccepted}
use Rattle.f11_flx.specs.Conversion.{copied_from_rt}
use Rattle.f11_flx.specs.Passes.{IsCopied}
use Rattle.f11_flx.specs.RtSource.{Looks, WhereContents}
use Rattle.f11_flx.specs.Target.{rt_disk, rt_store}
use Rattle.f11_flx.specs.declared.mode.CopyMode.{CopyMode}
use Rattle.f11_flx.specs.declared.refusal.FlxRefusal.{FlxRefusal}
use Rattle.f11_flx.specs.declared.refusal.FlxRefusal.TheVariants as refusal

-- So many blocks have a copy, of so many blocks and with these attributes.
pub record IsPlan (m : CopyMode) (many blocks : ℕ) (attr : List ℕ) (contents : List (List ℕ)) : Type 0 where
  pub count : length contents ≡ many
  pub pieces : List (List ℕ)
  pub copied : IsCopied m contents pieces attr
  pub blocks_are : length pieces ≡ blocks

-- The file was found, and its copy judged.
pub record Plans {E : Type 0} {met : Ghosts E} (disk : E → Disk) (m : CopyMode) (name : List ℕ) (many blocks : ℕ) (attr : List ℕ)
    (old new : RtAccepted E met) : Type 0 where
  pub looks : Looks disk false old new
  pub alive : has_failed old ≡ false
  pub file : IsSoundDisk (rt_disk disk old) → HasFile name (rt_store disk old)
  pub plan : WhereContents disk name old (IsPlan m many blocks attr)

-- It wasn't found.
pub record IsNotRead {E : Type 0} {met : Ghosts E} (disk : E → Disk) (name : List ℕ) (e : RtRefusal)
    (old new : RtAccepted E met) : Type 0 where
  pub looks : Looks disk (is_fault e) old new
  pub alive : has_failed old ≡ false → e ≢ Failed
  pub dead : has_failed old ≡ true → (e ≡ Failed) × (rt_disk disk new ≡ rt_disk disk old)
  pub why : IsSoundDisk (rt_disk disk old) → FailsToFindFile e name (rt_disk disk old)

-- A line of it is too long.
pub record IsTooLong {E : Type 0} {met : Ghosts E} (disk : E → Disk) (m : CopyMode) (name : List ℕ)
    (old new : RtAccepted E met) : Type 0 where
  pub looks : Looks disk false old new
  pub alive : has_failed old ≡ false
  pub file : IsSoundDisk (rt_disk disk old) → HasFile name (rt_store disk old)
  pub none : WhereContents disk name old (λ contents. copied_from_rt m contents ≡ None)

abbrev pub FailsToPlan : {E : Type 0} {met : Ghosts E} → (E → Disk) → CopyMode → List ℕ → FlxRefusal → RtAccepted E met →
    RtAccepted E met → Type 0
FailsToPlan disk m name (refusal.Files e) old new = ⊥
FailsToPlan disk m name (refusal.Rt e) old new = IsNotRead disk name e old new
FailsToPlan disk m name refusal.BadRecord old new = ⊥
FailsToPlan disk m name refusal.LineTooLong old new = IsTooLong disk m name old new
FailsToPlan disk m name refusal.Unread old new = ⊥
