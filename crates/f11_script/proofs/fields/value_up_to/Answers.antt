use Rattle.std.proofs.Common.{arith, sym}
use Rattle.f11_script.proofs.DigitLemmas.{digits_so_far, value_so_far, no_digit, too_great, all_read}
use Rattle.f11_script.proofs.fields.value_up_to.Goals as goal

pub returns-then-next-radix-clause-exact : goal.returns-then-next-radix-clause-exact
returns-then-next-radix-clause-exact c =
    no_digit c.args.radix c.args.most c.args.text.now c.loop-digit.digit-index c.digit_value-next.result c.loop-digit-test.true
    (sym c.digit_value-next.ensures) c.if-next-radix.true

pub returns-then-value-from-clause-exact : goal.returns-then-value-from-clause-exact
returns-then-value-from-clause-exact c =
    too_great c.args.radix c.args.most c.args.text.now c.loop-digit.digit-index _ c.requires.low
    (value_so_far c.args.radix c.args.text.now c.loop-digit.digit-index c.digit_value-next.result c.loop-digit.value c.loop-digit-test.true
    (sym c.digit_value-next.ensures) c.loop-digit.invariant.value_is) (omega (arith, c.from.ensures, c.if-value-from.true))

pub loop-digit-preserved : goal.loop-digit-preserved
loop-digit-preserved c = record {
  digits = digits_so_far c.args.radix c.args.text.now c.loop-digit.digit-index c.digit_value-next.result c.loop-digit-test.true
      (sym c.digit_value-next.ensures) c.if-next-radix.false c.loop-digit.invariant.digits;
  value_is =
      value_so_far c.args.radix c.args.text.now c.loop-digit.digit-index c.digit_value-next.result c.loop-digit.value c.loop-digit-test.true
      (sym c.digit_value-next.ensures) c.loop-digit.invariant.value_is;
  small = omega (arith, c.from.ensures, c.if-value-from.false);
}

pub returns-clause-exact : goal.returns-clause-exact
returns-clause-exact c =
    all_read c.args.radix c.args.most c.args.text.now c.loop-digit.digit-index c.loop-digit.value c.loop-digit-test.false
    c.loop-digit.invariant.value_is c.loop-digit.invariant.digits c.loop-digit.invariant.small
