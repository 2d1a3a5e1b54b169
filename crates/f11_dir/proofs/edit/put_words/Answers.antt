use Rattle.std.proofs.Common.{◌≡◌, ◌+◌, ◌*◌, get_or, length, take, ap, ◌∙◌, arith}
use Rattle.std.specs.List.{flat_map}
use Rattle.std.proofs.lemmas.List.{length-take-le}
use Rattle.f11_bytes.specs.Words.{with_word, word_bytes}
use Rattle.f11_store.specs.Directory.{record_in}
use Rattle.f11_store.proofs.RecordLemmas.{record_in-other}
use Rattle.f11_bytes.proofs.PartLemmas.{with_bytes-more, length-words}
use Rattle.f11_dir.proofs.edit.put_words.Goals as goal

pub loop-k-preserved : goal.loop-k-preserved
loop-k-preserved c =
    c.write_word.ensures
    ∙ ap (λ l. with_word l (16 * c.args.i + 2 * c.loop-k.k) (get_or c.args.words.now c.loop-k.k 0)) c.loop-k.invariant
    ∙ with_bytes-more c.args.block.now c.args.words.now (16 * c.args.i) c.loop-k.k (omega arith) (omega arith)

pub returns-clause-others : goal.returns-clause-others
returns-clause-others c = λ j differs.
    ap (λ l. record_in l j) c.loop-k.invariant
    ∙ record_in-other c.args.block.now (flat_map word_bytes (take c.loop-k.k c.args.words.now)) c.args.i j differs (omega arith)
    (let taken : length (take c.loop-k.k c.args.words.now) ≡ 8 = length-take-le _ _ (omega arith) ∙ omega arith in
    length-words (take c.loop-k.k c.args.words.now) ∙ omega (arith, taken))
