-- What a command asks of an open volume by names, whatever its devices (profile).
use Rattle.std.specs.Prelude.{◌≡◌, ◌≢◌, ◌++◌, ℕ, Bool, true, false, IsTrue, List, Result, Err, codes}
use Rattle.f11_dev.specs.Disk.{Disk}
use Rattle.f11_dev.specs.declared.device.Device.{Ghosts}
use Rattle.f11_serving.specs.fcp.Lists.{is_sound, store_of_volume}
use Rattle.f11_serving.specs.fcp.Serving.{is_spent, state_in}
use Rattle.f11_serving.specs.fcp.declared.volume.Volume.{Volume}
use Rattle.f11_serving.specs.files.Answers.{is_fatal, is_fault}
use Rattle.f11_flx.specs.Copying.{FaresFiles, FaresRt, is_whole, of_files, of_rt}
use Rattle.f11_flx.specs.declared.refusal.FlxRefusal.{FlxRefusal}
use Rattle.f11_flx.specs.declared.refusal.FlxRefusal.TheVariants.{Files, Rt}
use Rattle.f11_catalog.specs.image_store.StoreOf.{store_of}
use Rattle.f11_store.specs.Store.{Store}
use Rattle.f11_store.specs.declared.callers.Uic.{Uic}
use Rattle.f11_store.specs.declared.files.FileId.{FileId}
use Rattle.f11_store.specs.declared.refusals.Refusal.TheVariants.{Damaged, VolumeFailed}
use Rattle.f11_store.specs.declared.requests.Reply.{Reply}
use Rattle.f11_store.specs.declared.requests.Reply.TheVariants as reply
use Rattle.rt11_volume.specs.Calls.{has_failed, volume_device}
use Rattle.rt11_volume.specs.Files.{is_fault as is_rt_fault}
use Rattle.rt11_volume.specs.Store.{rt_store_of}
use Rattle.rt11_volume.specs.Verifying.Verdict.{IsSoundDisk}
use Rattle.rt11_volume.specs.declared.refusal.RtRefusal.TheVariants.{Failed}
use Rattle.rt11_volume.specs.declared.volume.RtAccepted.{RtAccepted}
use Rattle.f11_commands.specs.Copying.{CopiesWithin, KeepsRt, LeavesBegun, ReadsSource, StandsAsIs, three_octal}
use Rattle.f11_commands.specs.Stopping.{WhereUnheld}
use Rattle.f11_commands.specs.declared.copy.Copying.{Copying}
use Rattle.f11_commands.specs.declared.copy.Direction.{Direction}

-- the reply tells what was found
abbrev pub is_found : Reply → Bool
is_found (reply.Found id) = true
is_found _ = false

-- A volume fared as the answer says of it: it had failed before where that is the answer, its home block stays, and where its disk is
-- honest it isn't damaged.
pub record FaresAlone {D : Type 0} {met : Ghosts D} (result : Result ℕ FlxRefusal) (old new : Volume D met) : Type 0 where
  pub fares : FaresFiles result old new
  pub alive : is_spent old ≡ false → result ≢ Err (Files VolumeFailed)
  pub home : (state_in new).home ≡ (state_in old).home
  pub undamaged : is_spent old ≡ false → IsTrue (state_in old).disk.honest → result ≢ Err (Files Damaged)

-- A copy was asked for, of two volumes: each fared as its answer says, and where both are sound this holds of their stores. Where a
-- device fault of one broke it off nothing is undone on the other; where that was the Files-11 volume's, this is how it was stopped.
pub record FaresAsAnswered {D E : Type 0} {met : Ghosts D} {met' : Ghosts E} (disk : E → Disk) (direction : Direction) (name : List ℕ)
    (result : Result ℕ FlxRefusal) (Holds : Store → Store → Disk → Disk → Type 0) (Stops : Store → Store → Type 0)
    (old new : Volume D met) (rt rt' : RtAccepted E met') : Type 0 where
  pub fares : FaresFiles result old new
  pub fares_rt : FaresRt disk result rt rt'
  pub source : ReadsSource direction (disk (volume_device rt)) (disk (volume_device rt'))
  pub alive : is_spent old ≡ false → result ≢ Err (Files VolumeFailed)
  pub rt_alive : has_failed rt ≡ false → result ≢ Err (Rt Failed)
  pub home : (state_in new).home ≡ (state_in old).home
  pub undamaged : is_spent old ≡ false → IsTrue (state_in old).disk.honest → result ≢ Err (Files Damaged)
  pub sound_rt : IsSoundDisk (disk (volume_device rt)) → of_rt is_rt_fault result ≡ false → IsSoundDisk (disk (volume_device rt'))
  pub outcome : is_sound old ≡ true → IsSoundDisk (disk (volume_device rt)) → is_whole result ≡ true →
      Holds (store_of_volume old) (store_of_volume new) (disk (volume_device rt)) (disk (volume_device rt'))
  pub broken : is_sound old ≡ true → of_rt is_rt_fault result ≡ true → StandsAsIs (store_of_volume old) (store_of_volume new)
  pub stopped : is_sound old ≡ true → of_files is_fault result ≡ true →
      WhereUnheld Stops (store_of_volume old) (store_of (state_in new).disk.image (state_in new).home)
  pub rt_broken : IsSoundDisk (disk (volume_device rt)) → of_files is_fatal result ≡ true →
      LeavesBegun name (rt_store_of (disk (volume_device rt)).image) (rt_store_of (disk (volume_device rt')).image)

-- what holds of the stores of a copy between a directory and the RT-11 volume
abbrev pub WithinDirectory : Direction → Copying → FileId → Result ℕ FlxRefusal → Store → Store → Disk → Disk → Type 0
WithinDirectory direction c dir result s s' disk disk' =
    CopiesWithin direction c dir result s s' disk disk'
    × KeepsRt direction result (rt_store_of disk.image) (rt_store_of disk'.image)

-- how the name of a user's directory is spelled, as `200001.DIR;1`
abbrev pub directory_text : Uic → List ℕ
directory_text uic = three_octal uic.group ++ (three_octal uic.member ++ codes ".DIR;1")
