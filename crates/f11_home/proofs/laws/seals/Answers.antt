use Rattle.f11_home.proofs.SealLemmas.{IsHomeBlock-with_sums}
use Rattle.f11_home.proofs.laws.seals.Goals as goal

pub returns : goal.returns
returns c = IsHomeBlock-with_sums
