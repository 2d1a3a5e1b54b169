-- What is written where nothing is done to an image (profile).
use Rattle.std.specs.Prelude.{◌≡◌, ◌⊎◌, ℕ, List, Option, Result, Ok, Err}
use Rattle.f11_dev.specs.Disk.{Disk}
use Rattle.f11_commands.specs.CopyCommand.{EndsFiles, VerifiesFiles}
use Rattle.f11_commands.specs.Output.{WriterTakes}
use Rattle.f11_commands.specs.declared.outcome.Failure.{Failure}
use Rattle.f11_commands.specs.declared.outcome.Failure.TheVariants.{CannotWrite}
use Rattle.f11_commands.specs.declared.outcome.FileAnswer.{FileAnswer}
use Rattle.f11_commands.specs.declared.outcome.FileAnswer.TheVariants.{Refused}

-- these lines were written, with this answer, or the writer takes no more
abbrev pub TellsLines : {W : Type 0} → FileAnswer → List ℕ → Result FileAnswer Failure → (W → Option (List ℕ)) → W → W → Type 0
TellsLines answer lines told contents before after =
    ((told ≡ Ok answer) × WriterTakes contents before after lines) ⊎ (told ≡ Err CannotWrite)

-- why nothing is done was written, in these lines, or the writer takes no more
abbrev pub TellsWhy : {W : Type 0} → List ℕ → Result FileAnswer Failure → (W → Option (List ℕ)) → W → W → Type 0
TellsWhy lines told contents before after = TellsLines Refused lines told contents before after

-- The image was verified and has no fault, and these lines were told, with nothing done.
pub record LeavesAccepted {W : Type 0} (answer : FileAnswer) (lines : List ℕ) (told : Result FileAnswer Failure) (old new : Disk)
    (contents : W → Option (List ℕ)) (before after : W) : Type 0 where
  pub verified : VerifiesFiles old new
  pub tells : TellsLines answer lines told contents before after

-- nothing is done, and these lines say so: the image isn't accepted, and its own lines were written, or that failed; or it is
abbrev pub EndsUntouched : {W : Type 0} → FileAnswer → List ℕ → Result FileAnswer Failure → Disk → Disk → (W → Option (List ℕ)) → W → W
    → Type 0
EndsUntouched answer lines told old new contents before after =
    (EndsFiles told old new contents before after) ⊎ (LeavesAccepted answer lines told old new contents before after)

-- nothing is done, for which these lines say why
abbrev pub EndsUndone : {W : Type 0} → List ℕ → Result FileAnswer Failure → Disk → Disk → (W → Option (List ℕ)) → W → W → Type 0
EndsUndone lines told old new contents before after = EndsUntouched Refused lines told old new contents before after
