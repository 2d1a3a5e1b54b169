use Rattle.std.proofs.Common.{◌∙◌, arith, sym}
use Rattle.f11_script.proofs.DigitLemmas.{made_of}
use Rattle.f11_script.proofs.fields.lun.Goals as goal

pub returns : goal.returns
returns c =
    made_of c.new.result c.in_ok-numeral.field-0 _ c.new.ensures.valid c.new.ensures.value (omega (arith, c.in_ok-numeral.ensures.bound))
    ∙ sym c.in_ok-numeral.was ∙ c.numeral.ensures.exact
