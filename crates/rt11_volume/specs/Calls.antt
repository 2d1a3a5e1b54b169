-- What the calls on an RT-11 volume do to a disk, by their outcome.
use Rattle.std.specs.Prelude.{◌≡◌, ◌↔◌, ℕ, ◌<◌, Bool, true, false, ◌||◌, IsTrue, List, Result, IsErrOf, length}
use Rattle.f11_dev.specs.Disk.{Disk}
use Rattle.f11_dev.specs.Looked.{Looked}
use Rattle.f11_dev.specs.declared.device.Device.{Ghosts}
use Rattle.f11_findings.specs.Finding.{IsExactly}
use Rattle.f11_findings.specs.declared.finding.Finding.{Finding}
use Rattle.rt11_volume.specs.Files.{is_device_fault}
use Rattle.rt11_volume.specs.Searching.Locating.{IsLastFound, Knows}
use Rattle.rt11_volume.specs.Verifying.Verdict.{IsRtFault, IsRtNote, IsRtAccepted}
use Rattle.rt11_volume.specs.declared.directory.LookFault.{LookFault}
use Rattle.rt11_volume.specs.declared.directory.LookFault.TheVariants.{DeviceFault, NoMemory}
use Rattle.rt11_volume.specs.declared.refusal.RtRefusal.{RtRefusal}
use Rattle.rt11_volume.specs.declared.refusal.RtRefusal.TheVariants.{Failed}
use Rattle.rt11_volume.specs.declared.volume.RtAccepted.{RtAccepted}
use Rattle.rt11_volume.specs.declared.verifier.verdict.RtReport.{RtReport}
use Rattle.rt11_volume.specs.declared.verifier.verdict.RtReport.TheVariants.{Accepted, Faulty}
use Rattle.rt11_volume.specs.declared.verifier.verdict.RtVfyError.{RtVfyError}
use Rattle.rt11_volume.specs.declared.verifier.verdict.RtVfyError.TheVariants.{DeviceFault as VfyDeviceFault, NoMemory as VfyNoMemory}

-- so many blocks are read at most: a directory has 31 segments of two
abbrev pub most_transfers : ℕ
most_transfers = 62

-- The lists are exactly the faults and the notes where the disk is honest.
pub record FindsAll (faults notes : List Finding) (old new : Disk) : Type 0 where
  pub faults_are : IsTrue old.honest → IsExactly (IsRtFault old.image) faults
  pub notes_are : IsTrue old.honest → IsExactly (IsRtNote old.image) notes
  pub looked : Looked old new most_transfers 0

-- A transfer failed, or there was no memory.
abbrev pub FailsToLook : LookFault → Disk → Disk → Type 0
FailsToLook DeviceFault old new = Looked old new most_transfers 1
FailsToLook NoMemory old new = Looked old new most_transfers 0

-- the device that a volume owns
abbrev pub volume_device : {D : Type 0} {met : Ghosts D} → RtAccepted D met → D
volume_device v = v.device

-- whether a call on it has answered DeviceFault
abbrev pub has_failed : {D : Type 0} {met : Ghosts D} → RtAccepted D met → Bool
has_failed v = v.failed

-- The image is accepted where the disk is honest, and these are exactly its notes.
pub record Accepts (notes : List Finding) (old new : Disk) : Type 0 where
  pub accepted : IsTrue old.honest → IsRtAccepted old.image
  pub notes_are : IsTrue old.honest → IsExactly (IsRtNote old.image) notes
  pub looked : Looked old new most_transfers 0

-- It has faults, exactly these, one at least, and exactly these notes.
pub record Rejects (faults notes : List Finding) (old new : Disk) : Type 0 where
  pub some : 0 < length faults
  pub all : FindsAll faults notes old new

-- what a report says of the disk before, and of that of the device in it
abbrev pub Reports : {D : Type 0} {met : Ghosts D} → (D → Disk) → RtReport D met → Disk → Type 0
Reports disk (Accepted volume notes) old = Accepts notes old (disk (volume_device volume)) × (has_failed volume ≡ false)
Reports disk (Faulty device faults notes) old = Rejects faults notes old (disk device)

-- No report: a transfer failed, or there was no memory; the device is the one that was handed in.
abbrev pub FailsToReport : {D : Type 0} → (D → Disk) → RtVfyError D → Disk → Type 0
FailsToReport disk (VfyDeviceFault device) old = Looked old (disk device) most_transfers 1
FailsToReport disk (VfyNoMemory device) old = Looked old (disk device) most_transfers 0

-- A call answers `Failed` exactly where an earlier one answered `DeviceFault`, and then does nothing.
pub record AnswersRt {D T : Type 0} {met : Ghosts D} (disk : D → Disk) (result : Result T RtRefusal)
    (old new : RtAccepted D met) : Type 0 where
  pub failed : IsErrOf result Failed ↔ (has_failed old ≡ true)
  pub untouched : has_failed old ≡ true → disk (volume_device new) ≡ disk (volume_device old)
  pub next : has_failed new ≡ (has_failed old || is_device_fault result)

-- the file of this name is the one that was found last, and is kept
abbrev pub IsKnown : {D : Type 0} {met : Ghosts D} → List ℕ → RtAccepted D met → Type 0
IsKnown name v = IsLastFound name v.last

-- a file that was found is known to the next call, which then doesn't look for it: it makes so many transfers at most
abbrev pub KnowsFile : {D T : Type 0} {met : Ghosts D} → (D → Disk) → List ℕ → ℕ → Result T RtRefusal → RtAccepted D met →
    RtAccepted D met → Type 0
KnowsFile disk name most result old new = Knows name most result old.last new.last (disk old.device) (disk new.device)
