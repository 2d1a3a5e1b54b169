use Rattle.f11_catalog.proofs.ListingLemmas.{reads-then}
use Rattle.f11_catalog.proofs.NamesLemmas.{fails-handed, names-all, names-read}
use Rattle.f11_catalog.proofs.name_list.add_names.Goals as goal

pub returns-in_err-record-clause-failed : goal.returns-in_err-record-clause-failed
returns-in_err-record-clause-failed g c =
    fails-handed c.from_residual.result _ _ _ c.from_residual.ensures.1
    (reads-then c.loop-record.invariant.added.reads c.in_err-record.ensures.failed)

pub loop-record-preserved : goal.loop-record-preserved
loop-record-preserved g c =
    let read = rw c.in-Some.is at c.in_ok-record.ensures.reads in
    record {
      added = names-read _ _ _ _ _ _ _ c.loop-record.invariant.added _ _ _ _ read
          (c.in_ok-add_name.ensures read.bytes read.record_is);
      reading = c.in_ok-record.ensures.reading;
    }

pub returns-in_err-add_name-clause-failed : goal.returns-in_err-add_name-clause-failed
returns-in_err-add_name-clause-failed g c =
    let read = rw c.in-Some.is at c.in_ok-record.ensures.reads in
    fails-handed c.from_residual-in_err-add_name.result _ _ _ c.from_residual-in_err-add_name.ensures.1
    (reads-then c.loop-record.invariant.added.reads read.reads)

pub returns-clause-adds : goal.returns-clause-adds
returns-clause-adds g c =
    names-all _ _ _ _ _ _ _ c.loop-record.invariant.added _ (rw c.in_default.is at c.in_ok-record.ensures.ended)
