use Rattle.std.proofs.Common.{◌≡◌, ◌-◌, suc, sym, ap, ◌∙◌, arith}
use Rattle.std.specs.Prelude.{slice_index}
use Rattle.f11_flx.specs.Spelled.{variable_record}
use Rattle.f11_flx.proofs.Texts.GiveLemmas.{record-own, record-pad, record-low, record-high}
use Rattle.f11_flx.proofs.to_records.record_byte.Goals as goal

pub returns-in-0 : goal.returns-in-0
returns-in-0 c = sym (ap (slice_index (variable_record c.args.line.now)) c.in-0.is ∙ record-low c.args.line.now)

pub returns-in-1 : goal.returns-in-1
returns-in-1 c = sym (ap (slice_index (variable_record c.args.line.now)) c.in-1.is ∙ record-high c.args.line.now)

pub returns-in_default : goal.returns-in_default
returns-in_default c =
    let at : c.args.at ≡ suc (suc (c.args.at - 2)) = omega arith in
    sym (ap (slice_index (variable_record c.args.line.now)) at ∙ record-own c.args.line.now (c.args.at - 2) (omega arith))

pub returns-in_default-2 : goal.returns-in_default-2
returns-in_default-2 c =
    let at : c.args.at ≡ suc (suc (c.args.at - 2)) = omega arith in
    sym (ap (slice_index (variable_record c.args.line.now)) at ∙ record-pad c.args.line.now (c.args.at - 2) (omega arith))
