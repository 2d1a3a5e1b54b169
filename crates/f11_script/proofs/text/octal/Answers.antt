use Rattle.std.proofs.Common.{◌∙◌, refl, arith}
use Rattle.std.proofs.lemmas.List.{length-set}
use Rattle.f11_script.proofs.PieceLemmas.{octal_below, octal_done, octal_more, octal_none, octal_some}
use Rattle.f11_script.proofs.text.octal.Goals as goal

pub loop-rest-init : goal.loop-rest-init
loop-rest-init c = record {
  some = omega arith;
  few = omega arith;
  six = refl;
  below = omega arith;
  digits = octal_none c.args.number _ refl;
}

pub returns-then-rest-eq0-clause-digits : goal.returns-then-rest-eq0-clause-digits
returns-then-rest-eq0-clause-digits c =
    let held = c.loop-rest.invariant in
    octal_done c.args.number c.loop-rest.at c.loop-rest.rest c.loop-rest.digits held.some (omega (arith, held.few, held.six))
    c.if-rest-eq0.true held.digits

pub loop-rest-preserved : goal.loop-rest-preserved
loop-rest-preserved c =
    let held = c.loop-rest.invariant in
    let below = octal_below c.loop-rest.at c.loop-rest.rest held.some held.below in
    record {
      some = octal_some _ _ below c.if-rest-eq0.false;
      few = omega arith;
      six = length-set c.loop-rest.digits _ _ ∙ held.six;
      below = below;
      digits = octal_more c.args.number c.loop-rest.at c.loop-rest.rest c.loop-rest.digits held.some (omega (arith, held.few, held.six))
          c.if-rest-eq0.false held.digits;
    }
