use Rattle.std.proofs.Common.{◌+◌, arith}
use Rattle.std.proofs.lemmas.Int.Digits.{digits_more, digits_value_more}
use Rattle.f11_bytes.proofs.OctalLemmas.{AllDigits-at, digits_value-take}
use Rattle.f11_bytes.proofs.octal.octal_value.Goals as goal

pub returns-in_err-value : goal.returns-in_err-value
returns-in_err-value c =
    rw c.from_residual.ensures
    (λ v. c.in_err-value.ensures (AllDigits-at c.args.digits.now c.loop-digit.digit-index v.octal_digits c.loop-digit-test.true))

pub returns-then-value-from : goal.returns-then-value-from
returns-then-value-from c = λ v.
    let more = digits_value_more 8 c.args.digits.now c.loop-digit.digit-index c.loop-digit-test.true in
    let whole = digits_value-take c.args.digits.now (c.loop-digit.digit-index + 1) in
    let most = v.at_most in
    omega (arith, c.in_ok-value.ensures, c.from.ensures)

pub loop-digit-preserved : goal.loop-digit-preserved
loop-digit-preserved c =
    let i = c.loop-digit.digit-index in
    let more = digits_value_more 8 c.args.digits.now i c.loop-digit-test.true in (
      digits_more 8 c.args.digits.now i c.loop-digit-test.true c.loop-digit.invariant.0 c.in_ok-value.ensures.0,
      omega (arith, c.in_ok-value.ensures),
      omega (arith, c.from.ensures),
    )
