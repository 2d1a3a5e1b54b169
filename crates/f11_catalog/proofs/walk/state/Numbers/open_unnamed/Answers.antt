use Rattle.std.proofs.Common.{sym, ◌∙◌}
use Rattle.f11_catalog.specs.Steps.{is_met}
use Rattle.f11_catalog.proofs.GoingLemmas.{own-none, own-opens, slot-none}
use Rattle.f11_catalog.proofs.walk.state.Numbers.open_unnamed.Goals as goal

pub returns-in-Some-under_its_name-clause-opens : goal.returns-in-Some-under_its_name-clause-opens
returns-in-Some-under_its_name-clause-opens g c = λ wide.
    own-opens _ _ _ _ c.in-Some.file (rw c.in-Some.is at c.in_ok-file.ensures.opens) (is_met c.args.self.now)
    (sym c.has_met.ensures ∙ c.if-has_met.false) _ c.in-Some-under_its_name.ensures.under wide

pub returns-in-None-under_its_name-clause-none : goal.returns-in-None-under_its_name-clause-none
returns-in-None-under_its_name-clause-none g c =
    own-none _ _ _ _ c.in-Some.file (rw c.in-Some.is at c.in_ok-file.ensures.opens) (is_met c.args.self.now)
    c.in-None-under_its_name.ensures.none

pub returns-in-None-clause-none : goal.returns-in-None-clause-none
returns-in-None-clause-none g c =
    slot-none _ _ _ _ (is_met c.args.self.now) (rw c.in-None.is at c.in_ok-file.ensures.none)
