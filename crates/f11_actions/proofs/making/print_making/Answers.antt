use Rattle.std.proofs.Common.{subst}
use Rattle.f11_actions.specs.Making.{homeless, protected}
use Rattle.f11_actions.specs.Protection.{LooksInVain}
use Rattle.f11_actions.proofs.making.print_making.Goals as goal

pub returns-in-Ok : goal.returns-in-Ok
returns-in-Ok g c = record {
  ends = protected (g.D.Device.disk c.default_protection-told.new.device) c.in-Ok.protection c.in-Ok.ensures.told
      c.print_actions.ensures.ends;
}

pub returns-in-NoHome : goal.returns-in-NoHome
returns-in-NoHome g c =
    let old = g.D.Device.disk c.args.device in
    let read = g.D.Device.disk c.default_protection-told.new.device in
    record {
      ends = homeless read (subst (λ f. LooksInVain f old read) c.in-NoHome.is c.in-Err.ensures.failed)
          c.print_actions-in-NoHome.ensures.ends;
    }
