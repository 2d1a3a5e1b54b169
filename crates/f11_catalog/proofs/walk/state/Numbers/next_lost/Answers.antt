use Rattle.std.proofs.Common.{arith, ◌∙◌}
use Rattle.f11_bytes.proofs.ResultLemmas.{OnErr-given}
use Rattle.f11_catalog.specs.AllFiles.{place_lost}
use Rattle.f11_catalog.proofs.ListingLemmas.{reads-then}
use Rattle.f11_catalog.proofs.LostLemmas.{lost-all, sees-one}
use Rattle.f11_catalog.proofs.ScanLemmas.{sees-on}
use Rattle.f11_catalog.proofs.NumbersLemmas.{met-same}
use Rattle.f11_catalog.proofs.walk.state.Numbers.next_lost.Goals as goal

pub returns-in-Some-clause-finds : goal.returns-in-Some-clause-finds
returns-in-Some-clause-finds g c =
    sees-one _ _ _ _ _ _ c.loop-self.invariant.seen _ (omega (arith, c.loop-self-test.true, c.slots.ensures))
    c.take_number-number.ensures.next _ _
    (met-same c.take_number-number.new.self c.args.self.now (c.take_number-number.ensures.met ∙ c.loop-self.invariant.met))
    c.take_number-number.ensures.number _ _
    (rw c.in-Some.is at c.in_ok-found.ensures.one)

pub loop-self-preserved : goal.loop-self-preserved
loop-self-preserved g c = record {
  seen =
      sees-on (λ known image t. place_lost t known) _ _ _ _ _ _ c.loop-self.invariant.seen _
      (omega (arith, c.loop-self-test.true, c.slots.ensures)) c.take_number-number.ensures.next _ _
      (met-same c.take_number-number.new.self c.args.self.now (c.take_number-number.ensures.met ∙ c.loop-self.invariant.met))
      c.take_number-number.ensures.number _
      (rw c.in_default.is at c.in_ok-found.ensures.none);
  met = c.take_number-number.ensures.met ∙ c.loop-self.invariant.met;
}

pub returns-in_err-found-clause-failed : goal.returns-in_err-found-clause-failed
returns-in_err-found-clause-failed g c = OnErr-given _ (reads-then c.loop-self.invariant.seen.reads c.in_err-found.ensures.failed)

pub returns-clause-none : goal.returns-clause-none
returns-clause-none g c = lost-all _ _ _ _ _ _ c.loop-self.invariant.seen (omega (arith, c.loop-self-test.false, c.slots.ensures))
