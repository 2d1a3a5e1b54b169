use Rattle.f11_index.proofs.NextLemmas.{live-tested, next-found}
use Rattle.f11_index.proofs.laws.tests.Goals as goal

pub returns : goal.returns
returns c = record { live = live-tested; next = next-found }
