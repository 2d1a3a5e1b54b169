use Rattle.f11_making.specs.Asking.{who_asks}
use Rattle.f11_making.specs.Plans.{makes_empty}
use Rattle.f11_making.proofs.PlansLemmas.{clean-makes}
use Rattle.f11_making.proofs.TellLemmas.{carried}
use Rattle.f11_making.proofs.named.make.Goals as goal

pub returns : goal.returns
returns g c = record {
  carries =
      carried (who_asks c.args.by.now.task c.args.by.now.uic)
      (makes_empty c.args.owner c.args.dir c.args.name.now c.args.protection c.args.attr) _
      c.args.vol.now
      c.make_empty.new.service (clean-makes c.args.owner c.args.dir c.args.name.now c.args.protection c.args.attr)
      c.make_empty.ensures.goes;
}
