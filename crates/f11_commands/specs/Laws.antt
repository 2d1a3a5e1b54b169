-- Laws of files that are put one after another on a mounted volume, over its plain store (profile).
use Rattle.std.specs.Prelude.{ℕ, List, Result}
use Rattle.f11_host.specs.declared.refusal.HostRefusal.{HostRefusal}
use Rattle.f11_making.specs.Actions.{plan_of}
use Rattle.f11_making.specs.Asking.{plain}
use Rattle.f11_making.specs.FilesPlan.{Carried}
use Rattle.f11_making.specs.declared.action.Action.TheVariants as action
use Rattle.f11_serving.specs.fcp.Accesses.{held_in, no_entries}
use Rattle.f11_store.specs.Store.{Store}
use Rattle.f11_store.specs.declared.callers.Uic.{Uic}
use Rattle.f11_store.specs.declared.refusals.Refusal.{Refusal}
use Rattle.f11_commands.specs.Copying.{master_directory, operator}
use Rattle.f11_commands.specs.PutCommand.{Hosts, PutsByName}
use Rattle.f11_commands.specs.Stopping.{IsUnheld}
use Rattle.f11_commands.specs.declared.put.Putting.{Putting}

-- with the table of accesses of a volume that was just mounted nobody holds one
abbrev pub MountedHoldsNone : Type 0
MountedHoldsNone = (s : Store) → IsUnheld (held_in no_entries s)

-- where a file was made by its name, or wasn't, and nobody held an access before, nobody does behind it
abbrev pub FilesLeaveNone : Type 0
FilesLeaveNone =
    (p : Putting) (bytes : ℕ) (result : Result ℕ HostRefusal) (h h' : Hosts) (s t : Store) → PutsByName p bytes result h h' s t →
    IsUnheld s → IsUnheld t

-- nor behind a directory that was made, or wasn't
abbrev pub DirectoriesLeaveNone : Type 0
DirectoriesLeaveNone =
    (name : List ℕ) (owner : Uic) (protection : ℕ) (made : Result (Unit {0}) Refusal) (s t : Store) →
    Carried plain operator (plan_of 0 master_directory (action.MakeDirectory name owner protection)) made s t → IsUnheld s → IsUnheld t
