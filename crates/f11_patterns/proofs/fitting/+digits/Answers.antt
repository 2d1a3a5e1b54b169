use Rattle.std.proofs.Common.{◌<◌, ◌≤◌, ◌/◌, arith, length}
use Rattle.f11_patterns.specs.Fitting.{numeral}
use Rattle.f11_patterns.proofs.FittingLemmas.{length-numeral-le, length-numeral-step, numeral-zero}
use Rattle.f11_patterns.proofs.fitting.+digits.Goals as goal

pub returns-then-number-eq0 : goal.returns-then-number-eq0
returns-then-number-eq0 t c = rw (c.if-number-eq0.true, numeral-zero) (omega arith)

pub overflow_add-result : goal.overflow_add-result
overflow_add-result t c =
    let few : length (numeral (c.args.number / 10)) ≤ 20 = length-numeral-le 20 (c.args.number / 10) (omega (arith, c.ranges.number.fits))
    in
    omega (arith, few, c.digits.ensures)

pub returns : goal.returns
returns t c =
    let some : 0 < c.args.number = omega arith in
    omega (arith, length-numeral-step c.args.number some, c.digits.ensures)
