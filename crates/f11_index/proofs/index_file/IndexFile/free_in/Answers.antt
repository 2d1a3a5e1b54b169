use Rattle.std.proofs.Common.{◌≡◌, ◌+◌, ◌-◌, ◌*◌, ◌/◌, min, max, List, ℕ, [], length, sym, ap, ◌∙◌, refl, arith}
use Rattle.std.proofs.lemmas.List.{get_or_read_under}
use Rattle.f11_index.specs.IndexFile.{slots}
use Rattle.f11_index.specs.Kept.{index_kept}
use Rattle.f11_index.proofs.FreeLemmas.{bit_of_slot-at, word-number}
use Rattle.f11_index.proofs.index_file.IndexFile.free_in.Goals as goal

pub returns : goal.returns
returns c =
    let index = index_kept c.args.self.now in
    let block = sym (get_or_read_under index.bitmap (c.args.word / 256) (length index.bitmap) c.index.result.now [] c.index.ensures
    (omega (arith, c.args.self.now.valid.few_slots)) refl) in
    word-number index c.args.word c.word_of-bits.result (omega arith) (omega arith)
    (λ j below. bit_of_slot-at index.bitmap c.index.result.now c.args.word j block below ∙ c.word_of-bits.ensures.bits j below)
