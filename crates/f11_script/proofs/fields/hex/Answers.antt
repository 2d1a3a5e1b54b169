use Rattle.std.proofs.Common.{◌∙◌, sym}
use Rattle.f11_script.proofs.DigitLemmas.{hex_digits}
use Rattle.f11_script.proofs.fields.hex.Goals as goal

pub returns-then-is_hex-clause-digits : goal.returns-then-is_hex-clause-digits
returns-then-is_hex-clause-digits c = hex_digits c.args.text.now (sym c.is_hex.ensures ∙ c.if-is_hex.true)
