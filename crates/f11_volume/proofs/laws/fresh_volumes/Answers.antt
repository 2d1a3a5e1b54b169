use Rattle.f11_volume.proofs.FreshLemmas.{fresh-sound}
use Rattle.f11_volume.proofs.laws.fresh_volumes.Goals as goal

pub returns : goal.returns
returns c = λ l old new is room fresh. fresh-sound new l is room fresh.front
