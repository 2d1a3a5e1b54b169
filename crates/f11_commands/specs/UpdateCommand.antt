-- What `vfy --update` does to an image, and what it writes (profile).
use Rattle.std.specs.Prelude.{◌≡◌, ◌⊎◌, ℕ, Bool, nat_le, true, false, List, [], ◌∷◌, ◌++◌, Option, Result, Ok, Err, codes}
use Rattle.std.specs.Io.KnownBytes.{Keeps}
use Rattle.f11_dev.specs.Disk.{Disk}
use Rattle.f11_findings.specs.declared.finding.Finding.{Finding}
use Rattle.f11_commands.specs.Output.{WriterTakes}
use Rattle.f11_commands.specs.Syncing.{FailsToSync}
use Rattle.f11_commands.specs.VfyCommand.{PrintsReport, FailsToPrintReport}
use Rattle.f11_commands.specs.declared.outcome.Answer.{Answer}
use Rattle.f11_commands.specs.declared.outcome.Answer.TheVariants.{Done, Fault}
use Rattle.f11_commands.specs.declared.outcome.Failure.{Failure}
use Rattle.f11_commands.specs.declared.outcome.Failure.TheVariants.{DeviceFault, NoMemory, CannotWrite}
use Rattle.f11_serving.specs.vfy.Reclaiming.Whole.{IsSoundWith, GoesOn, LacksRoom, Reclaims, reclaim_reads}

-- the line between the two reports
abbrev pub updated_line : List ℕ
updated_line = codes "updated" ++ 10 ∷ []

-- notes tell of lost blocks, dead headers or orphans: their codes are the first three, so the first note is of one then
abbrev pub tells_idle : List Finding → Bool
tells_idle [] = false
tells_idle (first ∷ notes) = nat_le first.code 3

-- how a report ended, by what is told
abbrev pub EndsReport : {W : Type 0} → Result Answer Failure → Disk → Disk → (W → Option (List ℕ)) → W → W → Type 0
EndsReport (Ok Done) old new contents before after = PrintsReport true old new contents before after
EndsReport (Ok Fault) old new contents before after = PrintsReport false old new contents before after
EndsReport (Err failure) old new contents before after = FailsToPrintReport failure old new contents before after

-- `updated` was written, and then a report
pub record PrintsAgain {W : Type 0} (told : Result Answer Failure) (old new : Disk) (contents : W → Option (List ℕ))
    (before after : W) : Type 0 where
  pub line : W
  pub takes : WriterTakes contents before line updated_line
  pub report : EndsReport told old new contents line after

-- or the writer didn't take that line
abbrev pub EndsAgain : {W : Type 0} → Result Answer Failure → Disk → Disk → (W → Option (List ℕ)) → W → W → Type 0
EndsAgain told old new contents before after = PrintsAgain told old new contents before after ⊎ ((told ≡ Err CannotWrite) × (new ≡ old))

-- A volume was reclaimed, and then its report was written again.
pub record UpdatesVolume {W : Type 0} (told : Result Answer Failure) (old new : Disk)
    (contents : W → Option (List ℕ)) (before after : W) : Type 0 where
  pub between : Disk
  pub reclaims : Reclaims old between
  pub again : EndsAgain told between new contents before after

-- it wasn't reclaimed: a transfer failed, or there was no memory, and nothing was said; or it was, and the sync failed
abbrev pub FailsToUpdate : {W : Type 0} → Result Answer Failure → Disk → Disk → (W → Option (List ℕ)) → W → W → Type 0
FailsToUpdate (Err DeviceFault) old new contents before after =
    (GoesOn IsSoundWith (reclaim_reads old) old new 1 × Keeps (contents before) (contents after))
    ⊎ (FailsToSync (Reclaims old) new contents before after)
FailsToUpdate (Err NoMemory) old new contents before after =
    LacksRoom IsSoundWith (reclaim_reads old) old new × Keeps (contents before) (contents after)
FailsToUpdate told old new contents before after = ⊥

-- what is told of an accepted image
abbrev pub EndsReclaiming : {W : Type 0} → Result Answer Failure → Disk → Disk → (W → Option (List ℕ)) → W → W → Type 0
EndsReclaiming told old new contents before after =
    UpdatesVolume told old new contents before after ⊎ FailsToUpdate told old new contents before after

-- The image was verified and is accepted, its report was written, and what lies idle on the volume was reclaimed, as far as is told.
pub record UpdatesImage {W : Type 0} (told : Result Answer Failure) (old new : Disk) (contents : W → Option (List ℕ))
    (before after : W) : Type 0 where
  pub between : Disk
  pub reported : W
  pub report : PrintsReport true old between contents before reported
  pub reclaiming : EndsReclaiming told between new contents reported after

-- what is told of any image: that; or it has faults, and their report was written; or it couldn't be verified, or its report not be written
abbrev pub EndsUpdate : {W : Type 0} → Result Answer Failure → Disk → Disk → (W → Option (List ℕ)) → W → W → Type 0
EndsUpdate (Ok Done) old new contents before after = UpdatesImage (Ok Done) old new contents before after
EndsUpdate (Ok Fault) old new contents before after =
    UpdatesImage (Ok Fault) old new contents before after ⊎ PrintsReport false old new contents before after
EndsUpdate (Err failure) old new contents before after =
    UpdatesImage (Err failure) old new contents before after ⊎ FailsToPrintReport failure old new contents before after
