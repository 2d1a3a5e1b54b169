use Rattle.std.proofs.Common.{List, ℕ, sym, ap, ◌∙◌, subst, arith}
use Rattle.f11_bytes.specs.Words.{with_word, word_sum}
use Rattle.f11_home.specs.HomeBlock.{HasHomeSums}
use Rattle.f11_home.proofs.SealLemmas.{HasHomeSums-with_sums}
use Rattle.f11_home.proofs.block.seal.Goals as goal

pub returns-clause-sums : goal.returns-clause-sums
returns-clause-sums c =
    let once = c.write_word.new.bytes in
    let first = c.write_word.ensures ∙ ap (with_word c.args.block.now 58) c.sum_words-first.ensures in
    let is = c.write_word-2.ensures ∙ ap (with_word once 510) c.word_sum-second.ensures
    ∙ ap (λ (b : List ℕ). with_word b 510 (word_sum b 255)) first in
    subst HasHomeSums (sym is) (HasHomeSums-with_sums c.args.block.now (omega (arith, c.told-block)))
