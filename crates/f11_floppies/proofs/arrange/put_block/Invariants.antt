use Rattle.f11_floppies.proofs.ArrangeLemmas.{HasPut}
use Rattle.f11_floppies.proofs.arrange.put_block.Given as goal

abbrev pub invariant-loop-k : goal.invariant-loop-k
invariant-loop-k l = HasPut l.order l.lbn l.k l.block l.initial.image l.image
