-- How the command ends that deletes one file (profile).
use Rattle.std.specs.Prelude.{◌≡◌, ◌⊎◌, ℕ, true, false, List, [], ◌∷◌, ◌++◌, Option, Result, Ok, Err}
use Rattle.f11_dev.specs.Disk.{Disk}
use Rattle.f11_commands.specs.DirectoryRecords.{FindsRecords, HasNoRecords}
use Rattle.f11_commands.specs.Looking.{LookFails}
use Rattle.f11_commands.specs.declared.name_list.NoNames.{NoNames}
use Rattle.f11_commands.specs.declared.outcome.Failure.{Failure}
use Rattle.f11_commands.specs.declared.outcome.FileAnswer.{FileAnswer}
use Rattle.f11_making.specs.declared.action.Action.TheVariants as action
use Rattle.f11_store.specs.declared.refusals.Refusal.TheVariants.{NotEmpty}
use Rattle.f11_actions.specs.Command.{EndsActions}
use Rattle.f11_actions.specs.declared.behind.Behind.TheVariants.{GoesOn}
use Rattle.f11_actions.specs.Lines.{action_line, all_line}
use Rattle.f11_actions.specs.Undone.{EndsUndone}

-- the name leads to no directory that has a record: to one without, to another file, or nowhere; or it can't be told
abbrev pub LeadsToNone : List ℕ → List ℕ → Disk → Disk → Type 0
LeadsToNone directory name old new =
    (FindsRecords directory name (Ok false) old new) ⊎ ((why : NoNames) × HasNoRecords why directory name old new)

-- the lines of a directory that stays
abbrev pub kept_lines : List ℕ → List ℕ → List ℕ
kept_lines directory name = action_line (action.Delete directory name) (Err NotEmpty) ++ all_line 0 1

-- The file was deleted, as one action; or it is a directory that has a record, and stays, or whether it is couldn't be told.
pub data EndsDeletion {W : Type 0} (directory name : List ℕ) (told : Result FileAnswer Failure) (old new : Disk)
    (contents : W → Option (List ℕ)) (before after : W) : Type 0 where
  deletes : (read : Disk) → LeadsToNone directory name old read
      → EndsActions GoesOn (action.Delete directory name ∷ []) told read new contents before after
      → EndsDeletion directory name told old new contents before after
  kept : (read : Disk) → FindsRecords directory name (Ok true) old read
      → EndsUndone (kept_lines directory name) told read new contents before after
      → EndsDeletion directory name told old new contents before after
  failed : (failure : Failure) → LookFails failure old new → told ≡ Err failure → after ≡ before
      → EndsDeletion directory name told old new contents before after
