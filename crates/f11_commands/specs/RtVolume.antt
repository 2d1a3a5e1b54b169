-- The lines of the commands on RT-11 volumes (profile).
use Rattle.std.specs.Prelude.{◌≡◌, ◌⊎◌, ℕ, true, false, [], List, length, Option}
use Rattle.f11_dev.specs.Disk.{Disk}
use Rattle.f11_dev.specs.Looked.{Looked}
use Rattle.std.specs.Io.KnownBytes.{Keeps}
use Rattle.rt11_volume.specs.Calls.{Accepts, Rejects}
use Rattle.rt11_volume.specs.Fresh.{HasRoom, WritesFresh, FailsToWriteFresh}
use Rattle.f11_findings.specs.declared.finding.Finding.{Finding}
use Rattle.rt11_volume.specs.Verifying.Verdict.{IsRtAccepted}
use Rattle.f11_commands.specs.InitCommand.{done_line, refusal_line}
use Rattle.f11_commands.specs.Lines.{report_lines}
use Rattle.f11_commands.specs.Output.{WriterTakes}
use Rattle.f11_commands.specs.Syncing.{FailsToSync}
use Rattle.f11_commands.specs.declared.outcome.Failure.{Failure}
use Rattle.f11_commands.specs.declared.outcome.Failure.TheVariants.{DeviceFault, NoMemory, CannotWrite}
use Rattle.f11_commands.specs.declared.report.System.TheVariants.{Rt11}

-- The volume has no fault, and its notes and `accepted` were written.
pub record PrintsAccepted {W : Type 0} (old new : Disk) (contents : W → Option (List ℕ)) (before after : W) : Type 0 where
  pub notes : List Finding
  pub accepts : Accepts notes old new
  pub takes : WriterTakes contents before after (report_lines Rt11 true [] notes)

-- It has faults, which were written, then its notes and `faulty`.
pub record PrintsFaulty {W : Type 0} (old new : Disk) (contents : W → Option (List ℕ)) (before after : W) : Type 0 where
  pub faults : List Finding
  pub notes : List Finding
  pub rejects : Rejects faults notes old new
  pub takes : WriterTakes contents before after (report_lines Rt11 false faults notes)

-- The command, which makes so many transfers at most, couldn't be done: a transfer failed or there was no memory, and nothing was written;
-- or the writer takes no more.
abbrev pub FailsToPrintRt : {W : Type 0} → ℕ → Failure → Disk → Disk → (W → Option (List ℕ)) → W → W → Type 0
FailsToPrintRt most DeviceFault old new contents before after = Looked old new most 1 × Keeps (contents before) (contents after)
FailsToPrintRt most NoMemory old new contents before after = Looked old new most 0 × Keeps (contents before) (contents after)
FailsToPrintRt most CannotWrite old new contents before after = Looked old new most 0

-- A fresh volume was made: there was room, the directory alone was written, and the image is accepted.
pub record MakesVolume (segments : ℕ) (old new : Disk) : Type 0 where
  pub room : HasRoom segments (length old.image)
  pub writes : WritesFresh segments old new
  pub accepted : IsRtAccepted new.image

-- None can be made with so many segments, and nothing was done to the device.
pub record RefusesVolume (segments : ℕ) (old new : Disk) : Type 0 where
  pub no_room : ¬ HasRoom segments (length old.image)
  pub disk_stays : new ≡ old

-- A transfer failed.
pub record FailsToMakeVolume (segments : ℕ) (old new : Disk) : Type 0 where
  pub room : HasRoom segments (length old.image)
  pub fails : FailsToWriteFresh segments old new

-- A fresh volume was made, and that was written.
abbrev pub PrintsMade : {W : Type 0} → ℕ → Disk → Disk → (W → Option (List ℕ)) → W → W → Type 0
PrintsMade segments old new contents before after = MakesVolume segments old new × WriterTakes contents before after done_line

-- None can be made, and that was written.
abbrev pub PrintsRefused : {W : Type 0} → ℕ → Disk → Disk → (W → Option (List ℕ)) → W → W → Type 0
PrintsRefused segments old new contents before after = RefusesVolume segments old new × WriterTakes contents before after refusal_line

-- The command couldn't be done: a transfer failed, or the sync when the volume was made, and nothing was written; or the writer takes no
-- more, and the device is as after the one or the other. Memory is never wanting.
abbrev pub FailsToPrintMade : {W : Type 0} → Failure → ℕ → Disk → Disk → (W → Option (List ℕ)) → W → W → Type 0
FailsToPrintMade DeviceFault segments old new contents before after =
    (FailsToMakeVolume segments old new × Keeps (contents before) (contents after))
    ⊎ (FailsToSync (MakesVolume segments old) new contents before after)
FailsToPrintMade CannotWrite segments old new contents before after = MakesVolume segments old new ⊎ RefusesVolume segments old new
FailsToPrintMade NoMemory segments old new contents before after = ⊥
