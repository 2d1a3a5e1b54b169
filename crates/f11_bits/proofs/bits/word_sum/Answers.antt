use Rattle.std.proofs.Common.{arith, ◌∙◌, ◌*◌}
use Rattle.f11_bits.proofs.BlockLaneLemmas.{none-summed, sum-more, sum-less}
use Rattle.f11_bits.proofs.bits.word_sum.Goals as goal

pub loop-i-init : goal.loop-i-init
loop-i-init c = none-summed _

pub loop-i-preserved : goal.loop-i-preserved
loop-i-preserved c = sum-more _ _ _ _ (omega arith) (omega arith) c.words_at-sums.ensures c.loop-i.invariant

pub returns : goal.returns
returns c =
    sum-less c.args.block.now (16 * c.loop-i.i) _ _ (omega arith) (c.sum.ensures ∙ c.loop-i.invariant) c.read_word.ensures (omega arith)
