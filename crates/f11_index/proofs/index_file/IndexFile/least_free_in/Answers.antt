use Rattle.std.proofs.Common.{◌/◌, List, ℕ, [], length, sym, ap, true, refl, arith}
use Rattle.std.specs.List.{slice_get}
use Rattle.std.proofs.lemmas.List.{get_or_read_under}
use Rattle.f11_index.specs.Kept.{index_kept}
use Rattle.f11_index.proofs.FreeLemmas.{bit_of_slot-word, word-full}
use Rattle.f11_index.proofs.index_file.IndexFile.least_free_in.Goals as goal

pub returns-then-word_of : goal.returns-then-word_of
returns-then-word_of c =
    let index = index_kept c.args.self.now in
    let block = sym (get_or_read_under index.bitmap (c.args.word / 256) (length index.bitmap) c.index.result.now [] c.index.ensures
    (omega (arith, c.args.self.now.valid.few_slots)) refl) in
    sym (ap (λ (xs : List ℕ). slice_get xs 0)
    (word-full index c.args.word
    (bit_of_slot-word index.bitmap c.index.result.now c.args.word true block (c.word_of.ensures.all c.if-word_of.true))))
