use Rattle.std.proofs.Common.{arith}
use Rattle.f11_vfy.proofs.reclaimer.space.wanted_bits.Goals as goal

pub returns-clause-past : goal.returns-clause-past
returns-clause-past c = λ k past. c.loop-lbn.invariant.past k (omega (arith, past, c.loop-lbn.invariant.bound))
