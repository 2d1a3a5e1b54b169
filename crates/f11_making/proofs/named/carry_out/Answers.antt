use Rattle.f11_making.specs.Actions.{plan_of}
use Rattle.f11_making.specs.Asking.{who_asks}
use Rattle.f11_making.proofs.PlansLemmas.{clean-action}
use Rattle.f11_making.proofs.TellLemmas.{carried}
use Rattle.f11_making.proofs.named.carry_out.Goals as goal

pub returns : goal.returns
returns g c = record {
  carries = carried (who_asks c.args.by.now.task c.args.by.now.uic) (plan_of c.args.by.now.lun c.args.master c.args.action.now) _
      c.args.vol.now
      c.act.new.service (clean-action c.args.by.now.lun c.args.master c.args.action.now) c.act.ensures.goes;
}
