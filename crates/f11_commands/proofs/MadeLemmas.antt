-- A directory that is made by the first task and its first lun.
use Rattle.std.proofs.Common.{◌≡◌, ℕ, List, Result, subst}
use Rattle.f11_dev.specs.declared.device.Device.{Ghosts}
use Rattle.f11_making.specs.Actions.{plan_of}
use Rattle.f11_making.specs.Asking.{who_asks}
use Rattle.f11_making.specs.Carrying.{Carries}
use Rattle.f11_making.specs.declared.action.Action.{Action}
use Rattle.f11_serving.specs.fcp.declared.volume.Volume.{Volume}
use Rattle.f11_store.specs.declared.refusals.Refusal.{Refusal}
use Rattle.f11_commands.specs.Copying.{master_directory, operator}

pub carried-first : {D : Type 0} {met : Ghosts D} (a : Action) (made : Result (Unit {0}) Refusal) (task lun : ℕ) (v w : Volume D met)
    → task ≡ 0 → lun ≡ 0 → Carries (who_asks task operator.caller) (plan_of lun master_directory a) made v w
    → Carries operator (plan_of 0 master_directory a) made v w
carried-first a made task lun v w task-is lun-is h =
    subst (λ l. Carries operator (plan_of l master_directory a) made v w) lun-is
    (subst (λ t. Carries (who_asks t operator.caller) (plan_of lun master_directory a) made v w) task-is h)
