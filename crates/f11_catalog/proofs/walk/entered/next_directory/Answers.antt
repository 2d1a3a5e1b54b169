use Rattle.f11_bytes.proofs.ResultLemmas.{OnErr-given}
use Rattle.f11_reader.proofs.ReadLemmas.{holds-on}
use Rattle.f11_catalog.proofs.ListingLemmas.{reads-then}
use Rattle.f11_catalog.proofs.GoingLemmas.{directory-comes, directory-passed}
use Rattle.f11_catalog.proofs.WalkLemmas.{before-mid, passed-all, passed-none}
use Rattle.f11_catalog.proofs.walk.entered.next_directory.Goals as goal

pub loop-record-init : goal.loop-record-init
loop-record-init g c = record { passed = passed-none _ _ _ _; reading = c.requires.reading }

pub loop-record-preserved : goal.loop-record-preserved
loop-record-preserved g c =
    let read = rw c.in-Some.is at c.in_ok-record.ensures.reads in
    let none = (rw c.in_default-2.is at c.in_ok-hand.ensures.none) read.bytes read.record_is in
    record {
      passed = directory-passed _ _ _ _ _ _ _ c.loop-record.invariant.passed _ _ _ read _ none;
      reading = holds-on none.reads.1 c.in_ok-record.ensures.reading;
    }

pub returns-in-Some-2-clause-comes : goal.returns-in-Some-2-clause-comes
returns-in-Some-2-clause-comes g c =
    let read = rw c.in-Some.is at c.in_ok-record.ensures.reads in
    let opens = (rw c.in-Some-2.is at c.in_ok-hand.ensures.opens) read.bytes read.record_is in
    directory-comes _ _ _ _ _ _ _ c.loop-record.invariant.passed _ _ _ read _ _ opens

pub returns-in-Some-2-clause-reading : goal.returns-in-Some-2-clause-reading
returns-in-Some-2-clause-reading g c =
    let read = rw c.in-Some.is at c.in_ok-record.ensures.reads in
    let opens = (rw c.in-Some-2.is at c.in_ok-hand.ensures.opens) read.bytes read.record_is in
    holds-on opens.takes.reads.1 c.in_ok-record.ensures.reading

pub returns-in_err-hand-clause-failed : goal.returns-in_err-hand-clause-failed
returns-in_err-hand-clause-failed g c =
    let read = rw c.in-Some.is at c.in_ok-record.ensures.reads in
    OnErr-given _ (reads-then (before-mid _ _ _ _ _ _ c.loop-record.invariant.passed _ _ _ read) (_, c.in_err-hand.ensures.failed))

pub returns-clause-none : goal.returns-clause-none
returns-clause-none g c =
    passed-all _ _ _ _ _ _ c.loop-record.invariant.passed _ (rw c.in_default.is at c.in_ok-record.ensures.ended)

pub returns-in_err-record-clause-failed : goal.returns-in_err-record-clause-failed
returns-in_err-record-clause-failed g c = OnErr-given _ (reads-then c.loop-record.invariant.passed.reads c.in_err-record.ensures.failed)
