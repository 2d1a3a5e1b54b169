use Rattle.std.proofs.Common.{◌∙◌, ◌++◌, ap, rules, List, ℕ}
use Rattle.std.specs.Prelude.{slice_set}
use Rattle.rt11_volume.specs.Segment.{words_in}
use Rattle.rt11_volume.proofs.Rewriting.Words.{words_of-set_low, words_of-set_high}
use Rattle.rt11_volume.proofs.segment.Segment.set_word.Goals as goal

pub returns-then-i-lt-BLOCK_WORDS : goal.returns-then-i-lt-BLOCK_WORDS
returns-then-i-lt-BLOCK_WORDS c =
    let s = c.self.inside in
    ap (λ (b : List ℕ). words_in (b ++ s.high)) c.write_word.ensures
    ∙ words_of-set_low s.low s.high c.args.i c.args.word (search rules) c.if-i-lt-BLOCK_WORDS.true
    ∙ ap (λ (ws : List ℕ). slice_set ws c.args.i c.args.word) c.self.view_is

pub returns-else-i-lt-BLOCK_WORDS : goal.returns-else-i-lt-BLOCK_WORDS
returns-else-i-lt-BLOCK_WORDS c =
    let s = c.self.inside in
    ap (λ (b : List ℕ). words_in (s.low ++ b)) c.write_word-else-i-lt-BLOCK_WORDS.ensures
    ∙ words_of-set_high s.low s.high c.args.i c.args.word (search rules) (search rules) c.if-i-lt-BLOCK_WORDS.false c.requires
    ∙ ap (λ (ws : List ℕ). slice_set ws c.args.i c.args.word) c.self.view_is
