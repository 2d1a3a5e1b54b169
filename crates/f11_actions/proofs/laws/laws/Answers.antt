use Rattle.f11_actions.proofs.RtNamedLemmas.{rt-fitted-is-there}
use Rattle.f11_actions.proofs.laws.laws.Goals as goal

pub returns : goal.returns
returns c = record { fitted = rt-fitted-is-there }
