use Rattle.f11_index.specs.Kept.{index_kept}
use Rattle.f11_reader.proofs.ReadLemmas.{holds-on}
use Rattle.f11_catalog.specs.Lines.{record_line}
use Rattle.f11_catalog.proofs.LineLemmas.{breaks-behind, breaks-handed}
use Rattle.f11_catalog.proofs.ListingLemmas.{first-all, first-read, reads-then}
use Rattle.f11_catalog.proofs.list.write_records.Goals as goal

pub loop-record-preserved : goal.loop-record-preserved
loop-record-preserved g c =
    let read = rw c.in-Ok-Some.field-0-is at c.in-Ok-Some.ensures.reads in
    let one = c.in_ok-write_record-in-Ok-Some.ensures.writes read.bytes read.record_is in
    record {
      written =
          first-read (record_line c.args.form (index_kept c.args.wide.now)) _ _ _ read.bytes c.loop-record.invariant.written read.next
          read.reads _
          _ one;
      reading = holds-on one.reads.1 c.in-Ok-Some.ensures.reading;
    }

pub returns-in_err-write_record-in-Ok-Some-clause-failed : goal.returns-in_err-write_record-in-Ok-Some-clause-failed
returns-in_err-write_record-in-Ok-Some-clause-failed g c =
    let read = rw c.in-Ok-Some.field-0-is at c.in-Ok-Some.ensures.reads in
    breaks-handed c.from_residual.result _ _ _ c.from_residual.ensures.1
    (breaks-behind _ _ _ _ (reads-then c.loop-record.invariant.written.reads read.reads) c.in_err-write_record-in-Ok-Some.ensures.failed)

pub returns-in-Ok-None-clause-writes : goal.returns-in-Ok-None-clause-writes
returns-in-Ok-None-clause-writes g c =
    let none = rw c.in-Ok-None.field-0-is at c.in-Ok-None.ensures.ended in
    first-all (record_line c.args.form (index_kept c.args.wide.now)) _ _ _ c.loop-record.invariant.written none.none _ none.reads

pub returns-in-Err-clause-failed : goal.returns-in-Err-clause-failed
returns-in-Err-clause-failed g c = reads-then c.loop-record.invariant.written.reads c.in-Err.ensures.failed
