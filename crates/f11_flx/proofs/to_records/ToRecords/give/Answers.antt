use Rattle.std.proofs.Common.{◌+◌, ◌%◌, ◌<◌, ℕ, List, length, max, refl, ap, ◌∙◌, arith}
use Rattle.std.specs.Prelude.{slice_index}
use Rattle.f11_flx.specs.Spelled.{variable_record}
use Rattle.f11_flx.specs.Stage.{given_in}
use Rattle.f11_flx.proofs.Texts.GiveLemmas.{GivesBytes-given, GivesBytes-last}
use Rattle.f11_flx.proofs.to_records.ToRecords.give.Goals as goal

pub returns-then-given-length-clause-gives : goal.returns-then-given-length-clause-gives
returns-then-given-length-clause-gives c = λ bytes.
    let line = c.args.self.now.line.items in
    let within : c.args.given < 2 + length line + length line % 2 = omega (arith, c.args.self.now.given, ap given_in c.requires) in
    let byte = c.record_byte-byte.ensures ∙ ap (λ (l : List ℕ). slice_index (variable_record l) c.args.given) c.deref.ensures.0 in
    GivesBytes-given c.args.self.now _ c.args.given c.record_byte-byte.result bytes c.requires within byte refl refl refl

pub returns-else-given-length-clause-gives : goal.returns-else-given-length-clause-gives
returns-else-given-length-clause-gives c = λ bytes.
    let line = c.args.self.now.line.items in
    let count = c.len-length.ensures.value in
    let within : c.args.given < 2 + length line + length line % 2 = omega (arith, c.args.self.now.given, ap given_in c.requires) in
    let byte = c.record_byte-byte.ensures ∙ ap (λ (l : List ℕ). slice_index (variable_record l) c.args.given) c.deref.ensures.0 in
    GivesBytes-last c.args.self.now _ c.args.given c.record_byte-byte.result bytes c.requires
    (omega (arith, c.if-given-length.false, count, ap (λ (n : ℕ). n % 2) count)) byte (omega (arith, count, c.len-length.ensures.fits)) refl
    c.clear.ensures
    (c.max-self.ensures ∙ ap (max c.args.self.now.longest) count)
