use Rattle.f11_writes.proofs.SetLemmas.{set-sound}
use Rattle.f11_writes.proofs.laws.set_volumes.Goals as goal

pub returns : goal.returns
returns c = set-sound
