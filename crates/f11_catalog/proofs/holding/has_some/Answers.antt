use Rattle.std.proofs.Common.{◌∙◌}
use Rattle.f11_bytes.proofs.ResultLemmas.{OnErr-given}
use Rattle.f11_dir.proofs.RecordTests.{is_empty_is}
use Rattle.f11_catalog.proofs.HoldingLemmas.{empty-all, empty-on, used-found}
use Rattle.f11_catalog.proofs.ListingLemmas.{reads-then}
use Rattle.f11_catalog.proofs.holding.has_some.Goals as goal

pub returns-in_err-record-clause-failed : goal.returns-in_err-record-clause-failed
returns-in_err-record-clause-failed g c =
    OnErr-given _ (reads-then c.loop-record.invariant.looked.reads c.in_err-record.ensures.failed)

pub returns-then-not-is_empty-clause-finds : goal.returns-then-not-is_empty-clause-finds
returns-then-not-is_empty-clause-finds g c =
    let read = rw c.in-Some.is at c.in_ok-record.ensures.reads in
    used-found _ _ _ _ _ c.loop-record.invariant.looked read
    (is_empty_is read.bytes _ _ read.record_is c.is_empty.ensures ∙ c.if-not-is_empty.true)

pub loop-record-preserved : goal.loop-record-preserved
loop-record-preserved g c =
    let read = rw c.in-Some.is at c.in_ok-record.ensures.reads in
    record {
      looked = empty-on _ _ _ _ _ c.loop-record.invariant.looked read
          (is_empty_is read.bytes _ _ read.record_is c.is_empty.ensures ∙ c.if-not-is_empty.false);
      reading = c.in_ok-record.ensures.reading;
    }

pub returns-clause-finds : goal.returns-clause-finds
returns-clause-finds g c =
    empty-all _ _ _ _ _ c.loop-record.invariant.looked (rw c.in_default.is at c.in_ok-record.ensures.ended)
