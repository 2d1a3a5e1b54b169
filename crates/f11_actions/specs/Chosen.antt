-- What is done to the files whose names a pattern means, and what is written (profile).
use Rattle.std.specs.Prelude.{◌≡◌, ◌⊎◌, ℕ, List, [], Option, Result, Err}
use Rattle.f11_dev.specs.Disk.{Disk}
use Rattle.f11_commands.specs.CopyCommand.{refused_line}
use Rattle.f11_commands.specs.DirectoryNames.{FailsToFindNames, HasNoNames}
use Rattle.f11_commands.specs.declared.name_list.NoNames.{NoNames}
use Rattle.f11_commands.specs.declared.name_list.NoNames.TheVariants.{Unreadable}
use Rattle.f11_commands.specs.declared.name_list.NoNames.TheVariants as none
use Rattle.f11_commands.specs.declared.outcome.Failure.{Failure}
use Rattle.f11_commands.specs.declared.outcome.FileAnswer.{FileAnswer}
use Rattle.f11_flx.specs.declared.refusal.FlxRefusal.TheVariants.{Files}
use Rattle.f11_making.specs.declared.action.Action.{Action}
use Rattle.f11_patterns.specs.Parts.{Parts}
use Rattle.f11_patterns.specs.Pattern.{FitsNone, IsAll}
use Rattle.f11_patterns.specs.declared.choose.Choice.{Choice}
use Rattle.f11_patterns.specs.declared.choose.Choice.TheVariants.{Meant, Superseded}
use Rattle.f11_store.specs.declared.refusals.Refusal.{Refusal}
use Rattle.f11_store.specs.declared.refusals.Refusal.TheVariants.{NoSuchEntry}
use Rattle.f11_actions.specs.Changes.{AreActions, choice_of}
use Rattle.f11_actions.specs.Command.{EndsActions}
use Rattle.f11_actions.specs.Meant.{ChoosesNames}
use Rattle.f11_actions.specs.Undone.{EndsUndone}
use Rattle.f11_actions.specs.declared.behind.Behind.{Behind}
use Rattle.f11_actions.specs.declared.change.Change.{Change}

-- nothing can be done, though names that are meant are asked for; or by a purge no name fits, and not all files are meant, `*.*`
abbrev pub IsInVain : Choice → Parts → List (List ℕ) → List Action → Type 0
IsInVain Meant parts names actions = actions ≡ []
IsInVain Superseded parts names actions = (¬ IsAll parts) × FitsNone parts names

-- Of the names that a directory has some are chosen by a pattern, and these are the actions by which something is done to each.
pub record ChoosesActions (parts : Parts) (change : Change) (directory : List ℕ) (actions : List Action) (old new : Disk) : Type 0 where
  pub names : List (List ℕ)
  pub those : List (List ℕ)
  pub chooses : ChoosesNames (choice_of change) parts directory names those old new
  pub are : AreActions change directory names those actions
  pub some : ¬ IsInVain (choice_of change) parts names actions

-- The names that a directory has were found, and nothing can be done.
pub record ChoosesInVain (parts : Parts) (change : Change) (directory : List ℕ) (old new : Disk) : Type 0 where
  pub names : List (List ℕ)
  pub those : List (List ℕ)
  pub actions : List Action
  pub chooses : ChoosesNames (choice_of change) parts directory names those old new
  pub are : AreActions change directory names those actions
  pub none : IsInVain (choice_of change) parts names actions

-- there is nothing to do, by a refusal: the directory has no names, or nothing can be done; or since the volume can't be read
abbrev pub HasNoActions : NoNames → Parts → Change → List ℕ → Disk → Disk → Type 0
HasNoActions Unreadable parts change directory old new = HasNoNames Unreadable directory old new
HasNoActions (none.Refused e) parts change directory old new =
    HasNoNames (none.Refused e) directory old new ⊎ ((e ≡ NoSuchEntry) × ChoosesInVain parts change directory old new)

-- nothing is done, by a refusal, whose line is written
abbrev pub EndsNone : {W : Type 0} → Refusal → Result FileAnswer Failure → Disk → Disk → (W → Option (List ℕ)) → W → W → Type 0
EndsNone e told old new contents before after = EndsUndone (refused_line (Files e)) told old new contents before after

-- how a command ends that chooses actions: it came to this of them; or nothing can be done, by a refusal, or since the volume can't be
-- read, of which the verifier tells, as of no action; or the look for them broke off, and nothing was written
pub data EndsByChoice {W : Type 0} (parts : Parts) (change : Change) (directory : List ℕ) (Ends : List Action → Disk → Type 0)
    (told : Result FileAnswer Failure) (old new : Disk) (contents : W → Option (List ℕ)) (before after : W) : Type 0 where
  acts : (actions : List Action) (read : Disk) → ChoosesActions parts change directory actions old read → Ends actions read
      → EndsByChoice parts change directory Ends told old new contents before after
  refused : (e : Refusal) (read : Disk) → HasNoActions (none.Refused e) parts change directory old read
      → EndsNone e told read new contents before after
      → EndsByChoice parts change directory Ends told old new contents before after
  unreadable : (read : Disk) → HasNoActions Unreadable parts change directory old read → Ends [] read
      → EndsByChoice parts change directory Ends told old new contents before after
  failed : (failure : Failure) → FailsToFindNames failure old new → told ≡ Err failure → after ≡ before
      → EndsByChoice parts change directory Ends told old new contents before after

-- it was done to each file whose name is chosen
abbrev pub EndsChosen : {W : Type 0} → Parts → Change → List ℕ → Behind → Result FileAnswer Failure → Disk → Disk
    → (W → Option (List ℕ)) → W → W → Type 0
EndsChosen parts change directory how told old new contents before after =
    EndsByChoice parts change directory (λ actions read. EndsActions how actions told read new contents before after)
    told old new contents before after
