use Rattle.f11_bytes.proofs.ResultLemmas.{OnErr-given}
use Rattle.f11_reader.proofs.ReadLemmas.{holds-on}
use Rattle.f11_catalog.proofs.ListingLemmas.{reads-then}
use Rattle.f11_catalog.proofs.WalkLemmas.{at-reads, before-mid, holds-behind, passed-all, passed-none, passed-on, passed-to}
use Rattle.f11_catalog.proofs.walk.entered.next_record.Goals as goal

pub loop-record-init : goal.loop-record-init
loop-record-init g c = record { passed = passed-none _ _ _ _; reading = c.requires.reading }

pub loop-record-preserved : goal.loop-record-preserved
loop-record-preserved g c =
    let read = rw c.in-Some.is at c.in_ok-record.ensures.reads in
    let none = (rw c.in_default-2.is at c.in_ok-found.ensures.none) read.bytes read.record_is in
    record {
      passed = passed-on _ _ _ _ _ _ c.loop-record.invariant.passed _ _ _ read _
          (record { none = none.none; reads = none.reads });
      reading = holds-on none.reads.1 c.in_ok-record.ensures.reading;
    }

pub returns-in-Some-2-clause-comes : goal.returns-in-Some-2-clause-comes
returns-in-Some-2-clause-comes g c =
    let read = rw c.in-Some.is at c.in_ok-record.ensures.reads in
    let one = (rw c.in-Some-2.is at c.in_ok-found.ensures.enters) read.bytes read.record_is in
    let passed = c.loop-record.invariant.passed in
    record {
      comes = passed-to _ _ _ _ _ _ passed _ _ _ read _ _ one.one (at-reads _ _ _ _ _ one.holds);
      holds = holds-behind _ _ _ _ _ _ (before-mid _ _ _ _ _ _ passed _ _ _ read) one.holds;
    }

pub returns-in-Some-2-clause-reading : goal.returns-in-Some-2-clause-reading
returns-in-Some-2-clause-reading g c =
    let read = rw c.in-Some.is at c.in_ok-record.ensures.reads in
    let one = (rw c.in-Some-2.is at c.in_ok-found.ensures.enters) read.bytes read.record_is in
    let reads = at-reads _ _ _ _ _ one.holds in
    holds-on reads.1 c.in_ok-record.ensures.reading

pub returns-in_err-found-clause-failed : goal.returns-in_err-found-clause-failed
returns-in_err-found-clause-failed g c =
    let read = rw c.in-Some.is at c.in_ok-record.ensures.reads in
    OnErr-given _ (reads-then (before-mid _ _ _ _ _ _ c.loop-record.invariant.passed _ _ _ read) c.in_err-found.ensures.failed)

pub returns-clause-none : goal.returns-clause-none
returns-clause-none g c =
    passed-all _ _ _ _ _ _ c.loop-record.invariant.passed _ (rw c.in_default.is at c.in_ok-record.ensures.ended)

pub returns-in_err-record-clause-failed : goal.returns-in_err-record-clause-failed
returns-in_err-record-clause-failed g c = OnErr-given _ (reads-then c.loop-record.invariant.passed.reads c.in_err-record.ensures.failed)
