use Rattle.f11_floppies.proofs.ArrangeLemmas.{HasRead}
use Rattle.f11_floppies.proofs.arrange.block_of.Given as goal

abbrev pub invariant-loop-k : goal.invariant-loop-k
invariant-loop-k l = HasRead l.order l.image l.lbn l.k l.block
