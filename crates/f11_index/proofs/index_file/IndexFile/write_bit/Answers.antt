use Rattle.std.proofs.Common.{ℕ, ◌≡◌, ◌+◌, ◌-◌, ◌/◌, ◌<◌, [], length, get_or, refl, ap, ◌∙◌, arith}
use Rattle.std.proofs.lemmas.List.{get_or_read_under}
use Rattle.f11_index.specs.IndexFile.{Index}
use Rattle.f11_index.proofs.BitLemmas.{WritesBit-written, WritesBit-failed}
use Rattle.f11_index.proofs.index_file.IndexFile.write_bit.Goals as goal

pub returns-clause-done : goal.returns-clause-done
returns-clause-done g c =
    let place : (c.from.result - 1) / 4096 ≡ (c.args.n - 1) / 4096 = ap (λ (n : ℕ). (n - 1) / 4096) c.from.ensures in
    let within : (c.from.result - 1) / 4096 < length c.keep_bit.new.self.bitmap.items =
    omega (arith, ap (λ (i : Index). length i.headers) c.keep_bit.ensures.bit.one_block) in
    let block = get_or_read_under c.keep_bit.new.self.bitmap.items _ _ _ [] c.index.ensures within refl in
    WritesBit-written c.args.value c.args.n _ _ _ _ _ _ _ (omega arith) (omega arith)
    (ap (λ (p : ℕ). c.keep_bit.new.self.bitmap_lbn + p) place)
    (block ∙ ap (λ (p : ℕ). get_or c.keep_bit.new.self.bitmap.items p []) place) c.keep_bit.ensures.bit c.write.ensures.writes

pub returns-clause-failed : goal.returns-clause-failed
returns-clause-failed g c =
    let place : (c.from.result - 1) / 4096 ≡ (c.args.n - 1) / 4096 = ap (λ (n : ℕ). (n - 1) / 4096) c.from.ensures in
    let within : (c.from.result - 1) / 4096 < length c.keep_bit.new.self.bitmap.items =
    omega (arith, ap (λ (i : Index). length i.headers) c.keep_bit.ensures.bit.one_block) in
    let block = get_or_read_under c.keep_bit.new.self.bitmap.items _ _ _ [] c.index.ensures within refl in
    WritesBit-failed c.args.value c.args.n _ _ _ _ _ _ _ (ap (λ (p : ℕ). c.keep_bit.new.self.bitmap_lbn + p) place)
    (block ∙ ap (λ (p : ℕ). get_or c.keep_bit.new.self.bitmap.items p []) place) c.keep_bit.ensures.bit c.write.ensures.writes
