use Rattle.std.proofs.Common.{◌≡◌, ◌∙◌, List, ℕ, get_or, length, ap, sym, arith}
use Rattle.std.specs.Prelude.{slice_set}
use Rattle.std.proofs.lemmas.List.Edits.{paste_more}
use Rattle.rt11_volume.proofs.Rewriting.Words.{length-words_of}
use Rattle.rt11_volume.proofs.segment.Segment.set_words.Goals as goal

pub loop-word-preserved : goal.loop-word-preserved
loop-word-preserved c =
    let s : List ℕ = c.args.self.now in
    let words : List ℕ = c.args.words.now in
    let k : ℕ = c.loop-word.word-index in
    let long : length s ≡ 512 = ap (λ (ws : List ℕ). length ws) (sym c.self.view_is) ∙ length-words_of _ in
    record {
      place = omega (arith, c.loop-word.invariant.place);
      words = c.set_word.ensures
          ∙ (λ t. slice_set (c.loop-word.invariant.words t) (c.loop-word.invariant.place t) (get_or words k 0))
          ∙ paste_more s c.args.at words k 0 (omega (arith, c.requires, c.loop-word-test.true, long)) c.loop-word-test.true;
    }

pub returns-clause-long : goal.returns-clause-long
returns-clause-long c = ap (λ (ws : List ℕ). length ws) (sym c.self.view_is) ∙ length-words_of _
