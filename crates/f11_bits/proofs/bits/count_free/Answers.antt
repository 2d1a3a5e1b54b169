use Rattle.std.proofs.Common.{arith, sym}
use Rattle.f11_bits.proofs.CountLemmas.{count_below-zero}
use Rattle.f11_bits.proofs.BlockLaneLemmas.{count-few, count-more}
use Rattle.f11_bits.proofs.bits.count_free.Goals as goal

pub loop-i-init : goal.loop-i-init
loop-i-init c = sym (count_below-zero _)

pub overflow_add-count : goal.overflow_add-count
overflow_add-count c = record { fits = omega (arith, count-few _ _ _ _ _ c.loop-i-test.true c.loop-i.invariant c.ones-count.ensures) }

pub loop-i-preserved : goal.loop-i-preserved
loop-i-preserved c = count-more _ _ _ _ _ c.bytes_at.ensures c.loop-i.invariant c.ones-count.ensures
