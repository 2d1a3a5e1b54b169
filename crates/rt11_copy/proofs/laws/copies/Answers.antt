use Rattle.rt11_copy.proofs.AloneLemmas.{nothing-else}
use Rattle.rt11_copy.proofs.laws.copies.Goals as goal

pub returns : goal.returns
returns c = record { alone = λ entries outcomes from old new name each s of-none. nothing-else from name each s of-none }
