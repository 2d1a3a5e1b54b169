use Rattle.std.proofs.Common.{slice_index, sym, ap, ◌∙◌, ◌++◌, arith, List, ℕ}
use Rattle.rt11_volume.proofs.Rewriting.Words.{words_of-low, words_of-high, words_of-past}
use Rattle.rt11_volume.proofs.segment.Segment.word.Goals as goal

pub returns-then-i-lt-BLOCK_WORDS : goal.returns-then-i-lt-BLOCK_WORDS
returns-then-i-lt-BLOCK_WORDS c =
    c.read_word.ensures ∙ sym (words_of-low c.self.inside.low c.self.inside.high c.args.i (omega arith) (omega arith))
    ∙ ap (λ (s : List ℕ). slice_index s c.args.i) c.self.view_is

pub returns-then-i-lt-WORDS : goal.returns-then-i-lt-WORDS
returns-then-i-lt-WORDS c =
    c.read_word-then-i-lt-WORDS.ensures
    ∙ sym (words_of-high c.self.inside.low c.self.inside.high c.args.i (omega arith) (omega arith) (omega arith))
    ∙ ap (λ (s : List ℕ). slice_index s c.args.i) c.self.view_is

pub returns : goal.returns
returns c =
    sym (words_of-past (c.self.inside.low ++ c.self.inside.high) c.args.i (omega arith))
    ∙ ap (λ (s : List ℕ). slice_index s c.args.i) c.self.view_is
