-- Actions that are done one after another, as the plan of what they ask (profile).
use Rattle.std.specs.Prelude.{ℕ, Bool, true, false, not, if◌then◌else◌, List, [], ◌∷◌, Result, Ok, Err}
use Rattle.f11_store.specs.declared.files.FileId.{FileId}
use Rattle.f11_store.specs.declared.refusals.Refusal.{Refusal}
use Rattle.f11_store.specs.declared.refusals.Refusal.TheVariants.{Damaged, DeviceFault, NoMemory}
use Rattle.f11_making.specs.Actions.{plan_of}
use Rattle.f11_making.specs.FilesPlan.{FilesPlan}
use Rattle.f11_making.specs.Plan.{and_then, gives}
use Rattle.f11_making.specs.declared.action.Action.{Action}

-- An action, and what came of it.
pub record Acted : Type 0 where
  pub action : Action
  pub result : Result (Unit {0}) Refusal

-- the actions of which something came
abbrev pub actions_in : List Acted → List Action
actions_in [] = []
actions_in (a ∷ more) = a.action ∷ actions_in more

-- behind these refusals none is done: a device fault, Damaged, and want of memory
abbrev pub is_last : Refusal → Bool
is_last DeviceFault = true
is_last Damaged = true
is_last NoMemory = true
is_last _ = false

-- the others are done behind one that was done, and behind one that was refused otherwise
abbrev pub goes_on : Result (Unit {0}) Refusal → Bool
goes_on (Ok x) = true
goes_on (Err e) = not (is_last e)

-- what came of one, and then of the others
abbrev pub before : Acted → Result (List Acted) Refusal → Result (List Acted) Refusal
before a (Ok more) = Ok (a ∷ more)
before a (Err e) = Err e

abbrev pub then_others : Acted → FilesPlan (Result (List Acted) Refusal) → FilesPlan (Result (List Acted) Refusal)
then_others a rest = and_then rest (λ r. gives (before a r))

-- one came to this, and then the others are done, or none is
abbrev pub behind : Action → FilesPlan (Result (List Acted) Refusal) → Result (Unit {0}) Refusal → FilesPlan (Result (List Acted) Refusal)
behind a rest (Ok x) = then_others (record { action = a; result = Ok x }) rest
behind a rest (Err e) = if is_last e then gives (Err e) else then_others (record { action = a; result = Err e }) rest

abbrev pub all_of : ℕ → FileId → List Action → FilesPlan (Result (List Acted) Refusal)
all_of lun master [] = gives (Ok [])
all_of lun master (a ∷ more) = and_then (plan_of lun master a) (behind a (all_of lun master more))
