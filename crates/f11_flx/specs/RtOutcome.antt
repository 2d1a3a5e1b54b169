-- What a copy leaves on an RT-11 volume that it writes (profile).
use Rattle.std.specs.Prelude.{◌≡◌, ◌⊎◌, Bool, false, ℕ, List}
use Rattle.f11_dev.specs.Disk.{Disk}
use Rattle.f11_dev.specs.declared.device.Device.{Ghosts}
use Rattle.rt11_volume.specs.Files.{is_fault}
use Rattle.rt11_volume.specs.Laws.{KeepsOtherNames}
use Rattle.rt11_volume.specs.Named.{files_named}
use Rattle.rt11_volume.specs.Store.{RtStore}
use Rattle.rt11_volume.specs.Verifying.Verdict.{IsSoundDisk}
use Rattle.rt11_volume.specs.declared.volume.RtAccepted.{RtAccepted}
use Rattle.f11_flx.specs.CopyToRt.{HasEmptied, HasSameDirectory, LiesInFirstArea}
use Rattle.f11_flx.specs.Refusal.{is_lethal}
use Rattle.f11_flx.specs.Target.{Fares, rt_disk, rt_store}
use Rattle.f11_flx.specs.declared.refusal.FlxRefusal.{FlxRefusal}
use Rattle.f11_flx.specs.declared.refusal.FlxRefusal.TheVariants.{Files, Rt, BadRecord, LineTooLong, Unread}

-- a transfer of the RT-11 volume failed
abbrev pub is_rt_fault : FlxRefusal → Bool
is_rt_fault (Files e) = false
is_rt_fault (Rt e) = is_fault e
is_rt_fault BadRecord = false
is_rt_fault LineTooLong = false
is_rt_fault Unread = false

-- An RT-11 volume has the files that it had.
pub record HasSameFiles (name : List ℕ) (t t' : RtStore) : Type 0 where
  pub named : files_named name t' ≡ files_named name t
  pub others : KeepsOtherNames name t t'

-- A file of the name was made, and its area emptied again.
pub record IsMadeAndGone (name : List ℕ) (t t' : RtStore) : Type 0 where
  pub blocks : ℕ
  pub day : ℕ
  pub made : RtStore
  pub lies : LiesInFirstArea name blocks day t made
  pub emptied : HasEmptied name made t'

-- The directory is as it was, or so.
abbrev pub KeepsDirectory : List ℕ → RtStore → RtStore → Type 0
KeepsDirectory name t t' = (HasSameDirectory t t') ⊎ (IsMadeAndGone name t t')

-- The volume fared as the refusal says; on a sound disk it has the files that it had, unless a device fault or Damaged was met.
pub record LeavesRt {E : Type 0} {met : Ghosts E} (disk : E → Disk) (name : List ℕ) (e : FlxRefusal)
    (old new : RtAccepted E met) : Type 0 where
  pub fares : Fares disk (is_rt_fault e) old new
  pub sound : is_lethal e ≡ false → IsSoundDisk (rt_disk disk old) → IsSoundDisk (rt_disk disk new)
  pub same : is_lethal e ≡ false → IsSoundDisk (rt_disk disk old) → HasSameFiles name (rt_store disk old) (rt_store disk new)
  pub directory : is_lethal e ≡ false → IsSoundDisk (rt_disk disk old) → KeepsDirectory name (rt_store disk old) (rt_store disk new)
