use Rattle.std.proofs.Common.{arith, ◌∙◌}
use Rattle.f11_bytes.proofs.ResultLemmas.{OnErr-given}
use Rattle.f11_catalog.proofs.LedLemmas.{finds-led, finds-no-led, sees-no-led}
use Rattle.f11_catalog.proofs.ListingLemmas.{reads-then}
use Rattle.f11_catalog.proofs.NumbersLemmas.{met-same}
use Rattle.f11_catalog.proofs.walk.state.Numbers.next_led.Goals as goal

pub returns-in-Some-clause-finds : goal.returns-in-Some-clause-finds
returns-in-Some-clause-finds g c =
    let met = c.take_number-number.ensures.met ∙ c.loop-self.invariant.met in
    let same = met-same c.take_number-number.new.self c.args.self.now met in
    finds-led _ _ _ _ _ _ _ c.loop-self.invariant.seen _ (omega (arith, c.loop-self-test.true, c.slots.ensures))
    c.take_number-number.ensures.next _ _ same c.take_number-number.ensures.number same _ _
    (rw c.in-Some.is at c.in_ok-hand.ensures.opens)

pub loop-self-preserved : goal.loop-self-preserved
loop-self-preserved g c =
    let met = c.take_number-number.ensures.met ∙ c.loop-self.invariant.met in
    let same = met-same c.take_number-number.new.self c.args.self.now met in
    record {
      seen =
          sees-no-led _ _ _ _ _ _ _ c.loop-self.invariant.seen _ (omega (arith, c.loop-self-test.true, c.slots.ensures))
          c.take_number-number.ensures.next _ _ same c.take_number-number.ensures.number _
          (rw c.in_default.is at c.in_ok-hand.ensures.none);
      met = met;
    }

pub returns-in_err-hand-clause-failed : goal.returns-in_err-hand-clause-failed
returns-in_err-hand-clause-failed g c = OnErr-given _ (reads-then c.loop-self.invariant.seen.reads c.in_err-hand.ensures.failed)

pub returns-clause-none : goal.returns-clause-none
returns-clause-none g c =
    finds-no-led _ _ _ _ _ _ _ c.loop-self.invariant.seen (omega (arith, c.loop-self-test.false, c.slots.ensures))
    (met-same c.loop-self.self c.args.self.now c.loop-self.invariant.met)
