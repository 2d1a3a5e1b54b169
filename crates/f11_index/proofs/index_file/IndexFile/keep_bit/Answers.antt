use Rattle.std.proofs.Common.{ℕ, ◌/◌, ◌-◌, ◌%◌, ◌<◌, length, refl, List, [], ap, sym, ◌∙◌, arith}
use Rattle.std.proofs.lemmas.List.{get_or_read_under}
use Rattle.f11_bytes.specs.Bits.{bit}
use Rattle.f11_index.specs.Kept.{index_kept}
use Rattle.f11_index.proofs.BitLemmas.{SetsBit-block}
use Rattle.f11_index.proofs.index_file.IndexFile.keep_bit.Goals as goal

pub returns-clause-bit : goal.returns-clause-bit
returns-clause-bit c =
    let place = (c.from-bit.result - 1) / 4096 in
    let within : place < length c.args.self.now.bitmap.items = omega arith in
    let block = get_or_read_under c.args.self.now.bitmap.items place _ _ [] c.index_mut.ensures.value within refl in
    SetsBit-block c.args.value c.args.n place (index_kept c.args.self.now) c.set_bit.new.bytes (omega arith)
    (ap (λ (n : ℕ). (n - 1) / 4096) c.from-bit.ensures) within
    (ap (λ (n : ℕ). bit c.set_bit.new.bytes ((n - 1) % 4096)) (sym c.from-bit.ensures) ∙ c.set_bit.ensures.set)
    (λ j apart. c.set_bit.ensures.others j (λ e. apart (e ∙ ap (λ (n : ℕ). (n - 1) % 4096) c.from-bit.ensures))
    ∙ ap (λ (b : List ℕ). bit b j) block)
