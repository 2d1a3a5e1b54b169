use Rattle.std.proofs.Common.{◌∙◌, arith}
use Rattle.f11_script.proofs.DigitLemmas.{value_of_byte}
use Rattle.f11_script.proofs.fields.digit_value.Goals as goal

pub returns : goal.returns
returns c = c.from.ensures ∙ value_of_byte c.args.digit (omega arith)
