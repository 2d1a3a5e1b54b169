use Rattle.std.proofs.Common.{refl}
use Rattle.f11_bytes.specs.Words.{word_sum, word_total}
use Rattle.f11_bytes.proofs.WordLemmas.{word_sum-more}
use Rattle.f11_bytes.proofs.words.sum_words.Goals as goal

pub loop-i-init : goal.loop-i-init
unfolding word_sum word_total
loop-i-init c = refl

pub loop-i-preserved : goal.loop-i-preserved
loop-i-preserved c = word_sum-more _ _ _ _ c.loop-i.invariant c.read_word-sum.ensures
