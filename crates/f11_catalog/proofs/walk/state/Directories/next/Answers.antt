use Rattle.std.proofs.Common.{◌||◌, ◌==◌, ap, ◌∙◌}
use Rattle.std.proofs.lemmas.Result.{on_err_weaker}
use Rattle.f11_bytes.proofs.ResultLemmas.{OnErr-given}
use Rattle.f11_index.specs.Kept.{index_kept}
use Rattle.f11_catalog.proofs.EnteredLemmas.{master-on}
use Rattle.f11_catalog.specs.Steps.{is_met}
use Rattle.f11_catalog.specs.declared.walk.state.Numbers.{Numbers}
use Rattle.f11_catalog.proofs.GoingLemmas.{gives-led, gives-named, gives-unnamed, no-directory-left}
use Rattle.f11_catalog.proofs.HandedLemmas.{found-then, none-then}
use Rattle.f11_catalog.proofs.ListingLemmas.{reads-then}
use Rattle.f11_catalog.proofs.NumbersLemmas.{met-same}
use Rattle.f11_catalog.proofs.walk.state.Directories.next.Goals as goal

pub returns-in-Some-clause-gives : goal.returns-in-Some-clause-gives
returns-in-Some-clause-gives g c =
    gives-named _ _ _ _ _ _ _ (rw c.in-Some.is at c.in_ok-hand.ensures.finds)
    (λ n. c.meet.ensures.adds n
    ∙ ap (λ (o : Numbers). is_met o n || (c.in-Some.hand.id.number == n)) c.in_ok-hand.ensures.others)
    (c.meet.ensures.next ∙ ap (λ (o : Numbers). o.next) c.in_ok-hand.ensures.others) c.in_ok-hand.ensures.led

pub returns-in-Some-2-clause-gives : goal.returns-in-Some-2-clause-gives
returns-in-Some-2-clause-gives g c =
    gives-unnamed _ _ _ _ _ _ (rw c.in_default.is at c.in_ok-hand.ensures.none) _ _ c.in_ok-hand.ensures.led _ _
    (rw c.in_ok-hand.ensures.others at
    ((rw c.in-Some-2.is at c.in_ok-hand-2.ensures.finds) (index_kept c.args.wide.now)))
    (met-same c.next_unnamed.new.self c.args.self.now.others
    (c.in_ok-hand-2.ensures.met ∙ ap (λ (o : Numbers). o.met) c.in_ok-hand.ensures.others))

pub returns-clause-gives : goal.returns-clause-gives
returns-clause-gives g c =
    let met =
    met-same c.next_unnamed.new.self c.args.self.now.others
    (c.in_ok-hand-2.ensures.met ∙ ap (λ (o : Numbers). o.met) c.in_ok-hand.ensures.others) in
    found-then c.next_led.result (λ hand finds.
    gives-led _ _ _ _ _ _ (rw c.in_default.is at c.in_ok-hand.ensures.none) _ met _
    (rw c.in_ok-hand.ensures.others at (rw c.in_default-2.is at c.in_ok-hand-2.ensures.none)) _ hand _ _ met
    (rw c.in_ok-hand.ensures.led at finds)) c.next_led.ensures.finds

pub returns-clause-ended : goal.returns-clause-ended
returns-clause-ended g c =
    let met =
    met-same c.next_unnamed.new.self c.args.self.now.others
    (c.in_ok-hand-2.ensures.met ∙ ap (λ (o : Numbers). o.met) c.in_ok-hand.ensures.others) in
    none-then c.next_led.result (λ none.
    no-directory-left _ _ _ _ _ _ (rw c.in_default.is at c.in_ok-hand.ensures.none) _ met _
    (rw c.in_ok-hand.ensures.others at (rw c.in_default-2.is at c.in_ok-hand-2.ensures.none)) _ _ _ met
    (rw c.in_ok-hand.ensures.led at none)) c.next_led.ensures.none

pub returns-in_err-hand-2-clause-failed : goal.returns-in_err-hand-2-clause-failed
returns-in_err-hand-2-clause-failed g c =
    let none = rw c.in_default.is at c.in_ok-hand.ensures.none in
    OnErr-given _ (reads-then none.reads c.in_err-hand-2.ensures.failed)

pub returns-clause-failed : goal.returns-clause-failed
returns-clause-failed g c =
    let none = rw c.in_default.is at c.in_ok-hand.ensures.none in
    let no-other = rw c.in_default-2.is at c.in_ok-hand-2.ensures.none in
    on_err_weaker c.next_led.result (reads-then (reads-then none.reads no-other.reads)) c.next_led.ensures.failed

pub returns-in-Some-2-clause-reading : goal.returns-in-Some-2-clause-reading
returns-in-Some-2-clause-reading g c =
    let finds = (rw c.in-Some-2.is at c.in_ok-hand-2.ensures.finds) (index_kept c.args.wide.now) in
    master-on _ _ _ _ _ _ finds.takes.reads c.in_ok-hand.ensures.reading
