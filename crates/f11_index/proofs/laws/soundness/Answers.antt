use Rattle.f11_index.proofs.StayLemmas.{stays}
use Rattle.f11_index.proofs.laws.soundness.Goals as goal

pub returns : goal.returns
returns c = stays
