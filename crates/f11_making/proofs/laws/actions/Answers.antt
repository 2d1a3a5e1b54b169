use Rattle.f11_making.proofs.DoneLemmas.{done-is-done}
use Rattle.f11_making.proofs.SparingLemmas.{actions-spare-others}
use Rattle.f11_making.proofs.laws.actions.Goals as goal

pub returns : goal.returns
returns c = record { others = actions-spare-others; done = done-is-done }
