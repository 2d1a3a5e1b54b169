use Rattle.f11_writes.proofs.ShrinkLemmas.{shrunk-sound}
use Rattle.f11_writes.proofs.laws.shrunk_volumes.Goals as goal

pub returns : goal.returns
returns c = λ old new sound shrinks. shrunk-sound old new shrinks sound
