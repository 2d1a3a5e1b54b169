-- What is done to files by their names, each as the plan of what it asks (profile).
use Rattle.std.specs.Prelude.{ℕ, List, Result}
use Rattle.f11_store.specs.declared.files.FileId.{FileId}
use Rattle.f11_store.specs.declared.refusals.Refusal.{Refusal}
use Rattle.f11_store.specs.declared.requests.Request.TheVariants as request
use Rattle.f11_making.specs.FilesPlan.{FilesPlan, if_granted, names, one}
use Rattle.f11_making.specs.Plans.{deletes, is_lower, makes_directory, protects, purges_if, renames, truncates}
use Rattle.f11_making.specs.declared.action.Action.{Action}
use Rattle.f11_making.specs.declared.action.Action.TheVariants as action

-- the directory of this name is found in the master file directory, and then so
abbrev pub within : FileId → List ℕ → (FileId → FilesPlan (Result (Unit {0}) Refusal)) → FilesPlan (Result (Unit {0}) Refusal)
within master directory on = if_granted (one (names (request.Find master directory))) on

-- by which lun a file is accessed, which directory has the others, and what is done
abbrev pub plan_of : ℕ → FileId → Action → FilesPlan (Result (Unit {0}) Refusal)
plan_of lun master (action.Delete directory name) = within master directory (λ dir. deletes dir name)
plan_of lun master (action.Purge directory name highest) =
    within master directory (λ dir. purges_if (is_lower name highest) dir name highest)
plan_of lun master (action.Rename directory name to new) =
    within master directory (λ dir. within master to (λ into. renames dir name into new))
plan_of lun master (action.Protect directory name protection) = within master directory (λ dir. protects dir name protection)
plan_of lun master (action.Truncate directory name) = within master directory (λ dir. truncates lun dir name)
plan_of lun master (action.MakeDirectory name owner protection) = makes_directory owner master name protection
