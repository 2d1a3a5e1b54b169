-- What a copy between two volumes tells, on any devices (profile).
use Rattle.std.specs.Prelude.{◌≡◌, ℕ, ◌+◌, ◌||◌, ⊤, Bool, true, false, not, IsTrue, if◌then◌else◌, List, Result, Ok, Err, Option, Some}
use Rattle.std.specs.Prelude.{None}
use Rattle.f11_dev.specs.Disk.{Disk}
use Rattle.f11_dev.specs.declared.device.Device.{Ghosts}
use Rattle.f11_store.specs.declared.files.FileId.{FileId}
use Rattle.f11_store.specs.declared.refusals.Refusal.{Refusal}
use Rattle.f11_store.specs.declared.refusals.Refusal.TheVariants.{VolumeFailed}
use Rattle.f11_fcp.specs.files.Answers.{is_fatal, is_fault}
use Rattle.f11_fcp.specs.Lists.{failures_of, is_sound, store_of_volume}
use Rattle.f11_fcp.specs.Serving.{RequestsSpareLost, StaysAccepted, is_spent, state_in}
use Rattle.f11_fcp.specs.declared.volume.Volume.{Volume}
use Rattle.rt11_volume.specs.Calls.{has_failed, volume_device}
use Rattle.rt11_volume.specs.Files.{is_fault as is_rt_fault}
use Rattle.rt11_volume.specs.Store.{rt_store_of}
use Rattle.rt11_volume.specs.Verifying.Verdict.{IsSoundDisk}
use Rattle.rt11_volume.specs.declared.refusal.RtRefusal.{RtRefusal}
use Rattle.rt11_volume.specs.declared.refusal.RtRefusal.TheVariants.{Failed}
use Rattle.rt11_volume.specs.declared.volume.RtAccepted.{RtAccepted}
use Rattle.f11_flx.specs.Target.{SparesFront}
use Rattle.f11_making.specs.Asking.{Who}
use Rattle.f11_making.specs.AsBefore.{IsAsBefore}
use Rattle.f11_flx.specs.Refusal.{is_lethal}
use Rattle.f11_flx.specs.RtOutcome.{HasSameFiles, KeepsDirectory}
use Rattle.f11_flx.specs.declared.refusal.FlxRefusal.{FlxRefusal}
use Rattle.f11_flx.specs.declared.refusal.FlxRefusal.TheVariants.{Files, Rt, BadRecord, LineTooLong, Unread}
use Rattle.f11_making.specs.Volume.{of_volume}
use Rattle.f11_making.specs.AsksFor.{AsksOnly, is_reading, AsksForFile}

-- what a test says of an answer's refusal by the Files-11 volume, if it has one, and of one by the RT-11 volume
abbrev pub of_files : {T : Type 0} → (Refusal → Bool) → Result T FlxRefusal → Bool
of_files test (Ok x) = false
of_files test (Err (Files e)) = test e
of_files test (Err (Rt e)) = false
of_files test (Err BadRecord) = false
of_files test (Err LineTooLong) = false
of_files test (Err Unread) = false

abbrev pub of_rt : {T : Type 0} → (RtRefusal → Bool) → Result T FlxRefusal → Bool
of_rt test (Ok x) = false
of_rt test (Err (Files e)) = false
of_rt test (Err (Rt e)) = test e
of_rt test (Err BadRecord) = false
of_rt test (Err LineTooLong) = false
of_rt test (Err Unread) = false

-- the answer is no device fault, and not Damaged
abbrev pub is_whole : {T : Type 0} → Result T FlxRefusal → Bool
is_whole (Ok x) = true
is_whole (Err e) = not (is_lethal e)

-- VolumeFailed is answered by a Files-11 volume alone that a request has failed before, on which then nothing is done.
pub record KeepsSpent {D T : Type 0} {met : Ghosts D} (result : Result T FlxRefusal) (old new : Volume D met) : Type 0 where
  pub only : result ≡ Err (Files VolumeFailed) → is_spent old ≡ true
  pub untouched : is_spent old ≡ true → state_in new ≡ state_in old

-- Failed is answered by an RT-11 volume alone that a device fault has failed before, on which then nothing is done.
pub record KeepsFailed {E T : Type 0} {met : Ghosts E} (disk : E → Disk) (result : Result T FlxRefusal)
    (old new : RtAccepted E met) : Type 0 where
  pub only : result ≡ Err (Rt Failed) → has_failed old ≡ true
  pub untouched : has_failed old ≡ true → disk (volume_device new) ≡ disk (volume_device old)

-- What the answer tells of the Files-11 volume: a transfer failed where that is the answer, and none followed; DeviceFault and Damaged fail
-- the volume, and nothing else does. Where its disk is honest its blocks were written in order, and no block is another that was lost
-- before.
pub record FaresFiles {D T : Type 0} {met : Ghosts D} (result : Result T FlxRefusal) (old new : Volume D met) : Type 0 where
  pub failures : failures_of new ≡ failures_of old + (if of_files is_fault result then 1 else 0)
  pub quiet : of_files is_fault result ≡ true → (state_in new).disk.calm ≡ 0
  pub honest : (state_in new).disk.honest ≡ (state_in old).disk.honest
  pub next : IsTrue (state_in old).disk.honest → is_spent new ≡ (is_spent old || of_files is_fatal result)
  pub spent : is_spent new ≡ true → (is_spent old || of_files is_fatal result) ≡ true
  pub accepted : StaysAccepted (state_in new)
  pub lost : RequestsSpareLost old new

-- What it tells of the RT-11 volume, of which blocks 0 to 5 are spared where the disk is sound.
pub record FaresRt {E T : Type 0} {met : Ghosts E} (disk : E → Disk) (result : Result T FlxRefusal)
    (old new : RtAccepted E met) : Type 0 where
  pub failures : (disk (volume_device new)).failures ≡ (disk (volume_device old)).failures + (if of_rt is_rt_fault result then 1 else 0)
  pub quiet : of_rt is_rt_fault result ≡ true → (disk (volume_device new)).calm ≡ 0
  pub honest : (disk (volume_device new)).honest ≡ (disk (volume_device old)).honest
  pub next : has_failed new ≡ (has_failed old || of_rt is_rt_fault result)
  pub front : IsSoundDisk (disk (volume_device old)) → SparesFront (disk (volume_device old)) (disk (volume_device new))

-- The volume was read, whatever the answer is; its store is as before unless a device fault or Damaged was met. Where it had failed, the
-- answer is VolumeFailed.
pub record ReadsFiles {D T : Type 0} {met : Ghosts D} (result : Result T FlxRefusal) (who : Who) (old new : Volume D met) : Type 0 where
  pub fares : FaresFiles result old new
  pub keeps : KeepsSpent result old new
  pub spent : is_spent old ≡ true → result ≡ Err (Files VolumeFailed)
  pub asked : AsksOnly is_reading who old new
  pub stays : is_sound old ≡ true → is_whole result ≡ true → store_of_volume new ≡ store_of_volume old

-- A file was made, or not, and then the volume is as before, but for slots that its index file got first, unless a device fault or Damaged
-- was met: whatever the answer is, it is all for that file. On one that had failed nothing is done, and nothing is asked of it where the
-- RT-11 volume had.
pub record MayMake {D T : Type 0} {met : Ghosts D} (result : Result T FlxRefusal) (who : Who) (lun : ℕ) (dir : FileId)
    (to : List ℕ) (protection : ℕ) (stated : Option (List ℕ)) (old new : Volume D met) : Type 0 where
  pub fares : FaresFiles result old new
  pub keeps : KeepsSpent result old new
  pub unasked : result ≡ Err (Rt Failed) → new ≡ old
  pub asked : AsksForFile of_volume who lun dir to protection stated old new
  pub undone : (e : FlxRefusal) → result ≡ Err e → is_sound old ≡ true → is_whole result ≡ true →
      IsAsBefore (store_of_volume old) (store_of_volume new)

-- so one that is created with its attributes
abbrev pub MayMakeFile : {D T : Type 0} {met : Ghosts D} → Result T FlxRefusal → Who → ℕ → FileId → List ℕ → ℕ → Volume D met →
    Volume D met → Type 0
MayMakeFile result who lun dir to protection old new = MayMake result who lun dir to protection None old new

-- so one that gets its attributes once it is filled
abbrev pub MayMakeStated : {D T : Type 0} {met : Ghosts D} → Result T FlxRefusal → Who → ℕ → FileId → List ℕ → ℕ → Volume D met →
    Volume D met → Type 0
MayMakeStated result who lun dir to protection old new =
    (attr : List ℕ) × MayMake result who lun dir to protection (Some attr) old new

-- how a copy to an RT-11 volume that had failed is refused: as the source is refused, which is read first, and else as Failed
abbrev pub MayRefuseFailed : {T : Type 0} → Result T FlxRefusal → Type 0
MayRefuseFailed (Ok x) = ⊥
MayRefuseFailed (Err (Files e)) = ⊤
MayRefuseFailed (Err (Rt e)) = e ≡ Failed
MayRefuseFailed (Err BadRecord) = ⊤
MayRefuseFailed (Err LineTooLong) = ⊥
MayRefuseFailed (Err Unread) = ⊥

-- A file was made on the RT-11 volume, or not, and then it has the files that it had unless a device fault or Damaged was met. On one that
-- had failed nothing is done, and nothing is asked of it where the Files-11 volume had.
pub record MakesRtFile {E T : Type 0} {met : Ghosts E} (disk : E → Disk) (result : Result T FlxRefusal) (name : List ℕ)
    (old new : RtAccepted E met) : Type 0 where
  pub fares : FaresRt disk result old new
  pub keeps : KeepsFailed disk result old new
  pub failed : has_failed old ≡ true → MayRefuseFailed result
  pub unasked : result ≡ Err (Files VolumeFailed) → new ≡ old
  pub undone : (e : FlxRefusal) → result ≡ Err e → IsSoundDisk (disk (volume_device old)) → is_whole result ≡ true →
      HasSameFiles name (rt_store_of (disk (volume_device old)).image) (rt_store_of (disk (volume_device new)).image)
  pub directory : (e : FlxRefusal) → result ≡ Err e → IsSoundDisk (disk (volume_device old)) → is_whole result ≡ true →
      KeepsDirectory name (rt_store_of (disk (volume_device old)).image) (rt_store_of (disk (volume_device new)).image)
  pub sound : IsSoundDisk (disk (volume_device old)) → is_whole result ≡ true → IsSoundDisk (disk (volume_device new))

-- It was read. Where it had failed, nothing of it was, and the answer is Failed.
pub record ReadsRt {E T : Type 0} {met : Ghosts E} (disk : E → Disk) (result : Result T FlxRefusal)
    (old new : RtAccepted E met) : Type 0 where
  pub fares : FaresRt disk result old new
  pub keeps : KeepsFailed disk result old new
  pub failed : has_failed old ≡ true → result ≡ Err (Rt Failed)
  pub image : (disk (volume_device new)).image ≡ (disk (volume_device old)).image
  pub history : (disk (volume_device new)).history ≡ (disk (volume_device old)).history

-- where both volumes are sound, and no device fault or Damaged was met
abbrev pub WhereSound : {D E : Type 0} {met : Ghosts D} {met' : Ghosts E} → (E → Disk) → Volume D met → RtAccepted E met' → Type 0 → Type 0
WhereSound disk vol rt Holds = is_sound vol ≡ true → IsSoundDisk (disk (volume_device rt)) → Holds
