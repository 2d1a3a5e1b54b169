use Rattle.std.proofs.Common.{◌≡◌}
use Rattle.f11_bytes.specs.Words.{word_sum}
use Rattle.f11_bytes.proofs.words.sum_words.Given as goal

abbrev pub invariant-loop-i : goal.invariant-loop-i
invariant-loop-i l = l.sum ≡ word_sum l.bytes l.i
