use Rattle.std.proofs.Common.{Ok, ap}
use Rattle.f11_bytes.proofs.ResultLemmas.{OnErr-given}
use Rattle.f11_catalog.proofs.ListingLemmas.{reads-then}
use Rattle.f11_catalog.proofs.EnteredLemmas.{enters-behind, no-more-behind, stays-none, stays-then}
use Rattle.f11_catalog.proofs.walk.state.EnteredFiles.next.Goals as goal

pub loop-found-init : goal.loop-found-init
loop-found-init g c = record { stays = stays-none _ _ _ _; walking = c.requires.walking }

pub returns-in-Some-clause-enters : goal.returns-in-Some-clause-enters
returns-in-Some-clause-enters g c =
    enters-behind _ _ _ _ _ _ c.loop-found.invariant.stays _ _ _ (rw c.in-Some.is at c.in_ok-found.ensures.enters)

pub returns-in_err-found-clause-failed : goal.returns-in_err-found-clause-failed
returns-in_err-found-clause-failed g c = OnErr-given _ (reads-then c.loop-found.invariant.stays.reads c.in_err-found.ensures.failed)

pub loop-found-preserved : goal.loop-found-preserved
loop-found-preserved g c =
    let none = rw c.in_default.is at c.in_ok-found.ensures.ended in
    let takes = c.in_ok-take_directory.ensures.takes (ap Ok c.if-not-branch.false) in
    record {
      stays = stays-then _ _ _ _ _ _ (stays-then _ _ _ _ _ _ c.loop-found.invariant.stays _ _ none.0) _ _ takes.stays;
      walking = c.in_ok-take_directory.ensures.walking;
    }

pub returns-then-not-branch-clause-ended : goal.returns-then-not-branch-clause-ended
returns-then-not-branch-clause-ended g c =
    let none = rw c.in_default.is at c.in_ok-found.ensures.ended in
    no-more-behind _ _ _ _ _ _ (stays-then _ _ _ _ _ _ c.loop-found.invariant.stays _ _ none.0) _ _
    (c.in_ok-take_directory.ensures.ended (ap Ok c.if-not-branch.true))

pub returns-in_err-take_directory-clause-failed : goal.returns-in_err-take_directory-clause-failed
returns-in_err-take_directory-clause-failed g c =
    let none = rw c.in_default.is at c.in_ok-found.ensures.ended in
    OnErr-given _ (reads-then (reads-then c.loop-found.invariant.stays.reads none.0.reads) c.in_err-take_directory.ensures.failed)
