-- What `vfy` says of an image (profile).
use Rattle.std.specs.Prelude.{◌≡◌, ◌≢◌, ℕ, Bool, true, false, List, [], Option}
use Rattle.std.specs.Io.KnownBytes.{Keeps}
use Rattle.f11_dev.specs.Disk.{Disk}
use Rattle.f11_findings.specs.declared.finding.Finding.{Finding}
use Rattle.f11_commands.specs.Output.{WriterTakes}
use Rattle.f11_commands.specs.Lines.{report_lines}
use Rattle.f11_commands.specs.declared.outcome.Failure.{Failure}
use Rattle.f11_commands.specs.declared.outcome.Failure.TheVariants.{DeviceFault, NoMemory, CannotWrite}
use Rattle.f11_commands.specs.declared.report.System.TheVariants.{Files11}
use Rattle.f11_serving.specs.vfy.Verify.{Examines, LooksOver}

-- an image that is accepted has no fault, and one that is faulty has one at least
abbrev pub IsVerdict : Bool → List Finding → Type 0
IsVerdict true faults = faults ≡ []
IsVerdict false faults = faults ≢ []

-- The image was verified, and its report written.
pub record PrintsReport {W : Type 0} (accepted : Bool) (old new : Disk) (contents : W → Option (List ℕ)) (before after : W) : Type 0 where
  pub faults : List Finding
  pub notes : List Finding
  pub examines : Examines faults notes old new
  pub verdict : IsVerdict accepted faults
  pub takes : WriterTakes contents before after (report_lines Files11 accepted faults notes)

-- The command couldn't be done: a transfer failed or there was no memory, and nothing was written; or the writer takes no more.
abbrev pub FailsToPrintReport : {W : Type 0} → Failure → Disk → Disk → (W → Option (List ℕ)) → W → W → Type 0
FailsToPrintReport DeviceFault old new contents before after = LooksOver old new 1 × Keeps (contents before) (contents after)
FailsToPrintReport NoMemory old new contents before after = LooksOver old new 0 × Keeps (contents before) (contents after)
FailsToPrintReport CannotWrite old new contents before after = LooksOver old new 0
