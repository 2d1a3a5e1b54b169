-- What is told of what would be done to a volume, of which nothing is asked (profile).
use Rattle.std.specs.Prelude.{◌≡◌, ◌⊎◌, ℕ, Bool, List, Option, Result, Ok, Err}
use Rattle.f11_dev.specs.Disk.{Disk}
use Rattle.f11_commands.specs.Output.{WriterTakes}
use Rattle.f11_commands.specs.declared.ls.Served.{Served}
use Rattle.f11_commands.specs.declared.outcome.Answer.TheVariants.{Done as AllWell}
use Rattle.f11_commands.specs.declared.outcome.Failure.{Failure}
use Rattle.f11_commands.specs.declared.outcome.Failure.TheVariants.{CannotWrite}
use Rattle.f11_commands.specs.declared.outcome.FileAnswer.{FileAnswer}
use Rattle.f11_commands.specs.declared.outcome.FileAnswer.TheVariants.{Done}
use Rattle.f11_making.specs.declared.action.Action.{Action}
use Rattle.f11_patterns.specs.Parts.{Parts}
use Rattle.f11_actions.specs.Chosen.{EndsByChoice}
use Rattle.f11_actions.specs.Lines.{copy_lines, would_lines}
use Rattle.f11_actions.specs.Taking.{BeginsTaking, TakesNoneMeant}
use Rattle.f11_actions.specs.Undone.{EndsUntouched}
use Rattle.f11_actions.specs.declared.change.Change.{Change}

-- Nothing was written to a disk.
pub record IsOnlyRead (old new : Disk) : Type 0 where
  pub image : new.image ≡ old.image
  pub history : new.history ≡ old.history

-- it was told which actions would be done, once the image was verified; or it isn't accepted
abbrev pub TellsWould : {W : Type 0} → List Action → Result FileAnswer Failure → Disk → Disk → (W → Option (List ℕ)) → W → W → Type 0
TellsWould actions told old new contents before after =
    EndsUntouched Done (would_lines actions) told old new contents before after

-- so it is of those that would be done to each file whose name is chosen
abbrev pub EndsWould : {W : Type 0} → Parts → Change → List ℕ → Result FileAnswer Failure → Disk → Disk → (W → Option (List ℕ)) → W → W
    → Type 0
EndsWould parts change directory told old new contents before after =
    EndsByChoice parts change directory (λ actions read. TellsWould actions told read new contents before after)
    told old new contents before after

-- the lines of files that would be taken out of a volume that has faults or hasn't were written, or the writer takes no more
abbrev pub TellsNames : {W : Type 0} → Bool → List (List ℕ) → Result Served Failure → (W → Option (List ℕ)) → W → W → Type 0
TellsNames faulty those told contents before after =
    ((told ≡ Ok (record { answer = AllWell; faulty = faulty })) × WriterTakes contents before after (copy_lines those))
    ⊎ (told ≡ Err CannotWrite)

-- The files that would be taken out were decided, and told.
pub record TellsTaking {W : Type 0} (parts : Parts) (directory : List ℕ) (told : Result Served Failure) (old new : Disk)
    (contents : W → Option (List ℕ)) (before after : W) : Type 0 where
  pub faulty : Bool
  pub those : List (List ℕ)
  pub begins : BeginsTaking parts directory faulty those old new before before
  pub tells : TellsNames faulty those told contents before after

-- or why there is none was
abbrev pub EndsTaking : {W : Type 0} → Parts → List ℕ → Result Served Failure → Disk → Disk → (W → Option (List ℕ)) → W → W → Type 0
EndsTaking parts directory told old new contents before after =
    (TellsTaking parts directory told old new contents before after)
    ⊎ (TakesNoneMeant parts directory told old new contents before after)
