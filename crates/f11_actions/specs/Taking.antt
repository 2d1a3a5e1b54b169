-- What is taken out of a directory whose names a pattern means, and what is written where there is nothing (profile).
use Rattle.std.specs.Prelude.{◌≡◌, ◌⊎◌, ℕ, ◌<◌, Bool, List, [], length, Option, Some, Result, Ok, Err, IfOk, IfErr}
use Rattle.f11_dev.specs.Disk.{Disk}
use Rattle.f11_commands.specs.AnyVolume.{FailsToServe}
use Rattle.f11_commands.specs.CopyCommand.{refused_line}
use Rattle.f11_commands.specs.DirectoryNames.{FailsToFindNames, HasNoNames}
use Rattle.f11_catalog.specs.declared.line_form.LineForm.TheVariants.{Short}
use Rattle.f11_commands.specs.LsCommand.{PrintsListing}
use Rattle.f11_commands.specs.Output.{WriterTakes}
use Rattle.f11_commands.specs.declared.ls.Served.{Served}
use Rattle.f11_commands.specs.declared.name_list.NoNames.TheVariants.{Unreadable}
use Rattle.f11_commands.specs.declared.name_list.NoNames.TheVariants as no_names
use Rattle.f11_commands.specs.declared.outcome.Answer.TheVariants.{Fault}
use Rattle.f11_commands.specs.declared.outcome.Failure.{Failure}
use Rattle.f11_commands.specs.declared.outcome.Failure.TheVariants.{CannotWrite}
use Rattle.f11_flx.specs.declared.refusal.FlxRefusal.TheVariants.{Files}
use Rattle.f11_patterns.specs.Parts.{Parts}
use Rattle.f11_store.specs.declared.refusals.Refusal.{Refusal}
use Rattle.f11_store.specs.declared.refusals.Refusal.TheVariants.{NoSuchEntry}
use Rattle.f11_vfy.specs.Verify.{TellsVerdict}
use Rattle.f11_actions.specs.Meant.{MeansNames}

-- The volume was verified, and these names are meant, one at least; nothing was written.
pub record BeginsTaking {W : Type 0} (parts : Parts) (directory : List ℕ) (faulty : Bool) (those : List (List ℕ)) (old new : Disk)
    (before after : W) : Type 0 where
  pub read : Disk
  pub verified : TellsVerdict faulty old read
  pub chosen : MeansNames parts directory those read new
  pub some : 0 < length those
  pub untouched : after ≡ before

-- why nothing is taken out was written, or the writer takes no more
abbrev pub RefusesFiles : {W : Type 0} → Refusal → Bool → Result Served Failure → (W → Option (List ℕ)) → W → W → Type 0
RefusesFiles e faulty told contents before after =
    ((told ≡ Ok (record { answer = Fault; faulty = faulty })) × WriterTakes contents before after (refused_line (Files e)))
    ⊎ (told ≡ Err CannotWrite)

-- it ended as `ls` of the directory does
abbrev pub EndsAsListing : {W : Type 0} → List ℕ → Result Served Failure → Disk → Disk → (W → Option (List ℕ)) → W → W → Type 0
EndsAsListing directory told old new contents before after =
    IfOk told (λ served. PrintsListing Short (Some directory) served old new contents before after)
    × IfErr told (λ failure. FailsToServe failure old new contents before after)

-- nothing is taken out of a volume: no name is meant; the directory has none, by a refusal, or since the volume can't be read; or the look
-- for them broke off, and nothing was written
pub data HasNoneMeant {W : Type 0} (parts : Parts) (directory : List ℕ) (faulty : Bool) (told : Result Served Failure) (old new : Disk)
    (contents : W → Option (List ℕ)) (before after : W) : Type 0 where
  none_meant : MeansNames parts directory [] old new → RefusesFiles NoSuchEntry faulty told contents before after
      → HasNoneMeant parts directory faulty told old new contents before after
  refused : (e : Refusal) → HasNoNames (no_names.Refused e) directory old new → RefusesFiles e faulty told contents before after
      → HasNoneMeant parts directory faulty told old new contents before after
  unreadable : (read : Disk) → HasNoNames Unreadable directory old read → EndsAsListing directory told read new contents before after
      → HasNoneMeant parts directory faulty told old new contents before after
  failed : (failure : Failure) → FailsToFindNames failure old new → told ≡ Err failure → after ≡ before
      → HasNoneMeant parts directory faulty told old new contents before after

-- so the command ends: it was verified that the volume has faults, or hasn't; or that broke off, and nothing was written
pub data TakesNoneMeant {W : Type 0} (parts : Parts) (directory : List ℕ) (told : Result Served Failure) (old new : Disk)
    (contents : W → Option (List ℕ)) (before after : W) : Type 0 where
  verified : (faulty : Bool) (read : Disk) → TellsVerdict faulty old read
      → HasNoneMeant parts directory faulty told read new contents before after
      → TakesNoneMeant parts directory told old new contents before after
  unverified : (failure : Failure) → FailsToFindNames failure old new → told ≡ Err failure → after ≡ before
      → TakesNoneMeant parts directory told old new contents before after
