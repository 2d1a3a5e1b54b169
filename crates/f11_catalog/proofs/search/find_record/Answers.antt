use Rattle.std.proofs.Common.{◌∙◌}
use Rattle.f11_bytes.proofs.ResultLemmas.{OnErr-given}
use Rattle.f11_dir.proofs.RecordTests.{has_name_is}
use Rattle.f11_catalog.proofs.ListingLemmas.{reads-then}
use Rattle.f11_catalog.proofs.SearchLemmas.{looked-all, looked-found, looked-on}
use Rattle.f11_catalog.proofs.search.find_record.Goals as goal

pub returns-in_err-record-clause-failed : goal.returns-in_err-record-clause-failed
returns-in_err-record-clause-failed g c =
    OnErr-given _ (reads-then c.loop-record.invariant.looked.reads c.in_err-record.ensures.failed)

pub returns-then-has_name-clause-finds : goal.returns-then-has_name-clause-finds
returns-then-has_name-clause-finds g c =
    let read = rw c.in-Some.is at c.in_ok-record.ensures.reads in
    looked-found _ _ _ _ _ _ c.loop-record.invariant.looked read
    (has_name_is _ _ _ _ read.record_is c.has_name.ensures ∙ c.if-has_name.true)

pub loop-record-preserved : goal.loop-record-preserved
loop-record-preserved g c =
    let read = rw c.in-Some.is at c.in_ok-record.ensures.reads in
    record {
      looked = looked-on _ _ _ _ _ _ c.loop-record.invariant.looked read
          (has_name_is _ _ _ _ read.record_is c.has_name.ensures ∙ c.if-has_name.false);
      reading = c.in_ok-record.ensures.reading;
    }

pub returns-clause-finds : goal.returns-clause-finds
returns-clause-finds g c =
    looked-all _ _ _ _ _ _ c.loop-record.invariant.looked (rw c.in_default.is at c.in_ok-record.ensures.ended)
