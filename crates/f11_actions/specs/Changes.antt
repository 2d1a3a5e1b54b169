-- What is done to each file of some (profile).
use Rattle.std.specs.Prelude.{◌≡◌, ℕ, MatchBool, List, [], ◌∷◌, Option, Some, None, if◌then◌else◌}
use Rattle.std.specs.List.{cons_option}
use Rattle.f11_making.specs.Plans.{is_directory_name}
use Rattle.f11_making.specs.declared.action.Action.{Action}
use Rattle.f11_making.specs.declared.action.Action.TheVariants as action
use Rattle.f11_patterns.specs.Meant.{IsHighestVersion}
use Rattle.f11_patterns.specs.declared.choose.Choice.{Choice}
use Rattle.f11_patterns.specs.declared.choose.Choice.TheVariants.{Meant, Superseded}
use Rattle.f11_actions.specs.declared.change.Change.{Change}
use Rattle.f11_actions.specs.declared.change.Change.TheVariants.{Delete, Protect, Purge, Truncate}

-- by what the names are chosen to which it is done
abbrev pub choice_of : Change → Choice
choice_of Delete = Meant
choice_of (Protect protection) = Meant
choice_of Purge = Superseded
choice_of Truncate = Meant

-- The action purges a directory of a name, and keeps its highest version among those that the directory has.
pub record KeepsHighest (directory : List ℕ) (names : List (List ℕ)) (name : List ℕ) (a : Option Action) : Type 0 where
  pub highest : List ℕ
  pub kept : IsHighestVersion names name highest
  pub action_is : a ≡ Some (action.Purge directory name highest)

-- It is the action by which it is done to the file that a directory has under a name, one of its names: none deletes what has the name of a
-- directory.
abbrev pub IsAction : Change → List ℕ → List (List ℕ) → List ℕ → Option Action → Type 0
IsAction Delete directory names name a = a ≡ (if is_directory_name name then None else Some (action.Delete directory name))
IsAction (Protect protection) directory names name a = a ≡ Some (action.Protect directory name protection)
IsAction Purge directory names name a = MatchBool (is_directory_name name) (a ≡ None) (KeepsHighest directory names name a)
IsAction Truncate directory names name a = a ≡ Some (action.Truncate directory name)

-- Some actions begin with the one of a name, if it has one, and the rest are those of the others.
pub record HasFirstAction (First : Option Action → Type 0) (Rest : List Action → Type 0) (actions : List Action) : Type 0 where
  pub first : Option Action
  pub is : First first
  pub rest : List Action
  pub others : Rest rest
  pub all : actions ≡ cons_option first rest

-- They are those by which it is done to each of some of the names that a directory has, in their order.
abbrev pub AreActions : Change → List ℕ → List (List ℕ) → List (List ℕ) → List Action → Type 0
AreActions change directory names [] actions = actions ≡ []
AreActions change directory names (name ∷ those) actions =
    HasFirstAction (IsAction change directory names name) (AreActions change directory names those) actions
