use Rattle.f11_index.specs.Kept.{index_kept}
use Rattle.f11_catalog.specs.Lines.{record_lines}
use Rattle.f11_catalog.proofs.LineLemmas.{breaks-behind, breaks-handed}
use Rattle.f11_catalog.proofs.ListingLemmas.{lists-all}
use Rattle.f11_catalog.proofs.list.list_directory.Goals as goal

pub returns-clause-lists : goal.returns-clause-lists
returns-clause-lists g c =
    let opens = rw c.in-Ok-Ok.field-0-is at c.in-Ok-Ok.ensures.opens in
    record {
      readable = opens.readable;
      writes = lists-all (record_lines c.args.form (index_kept c.args.wide.now)) _ _ _ _ _ opens c.index_by-by.ensures
          c.in_ok-write_records.ensures.writes;
    }

pub returns-in_err-write_records-clause-failed : goal.returns-in_err-write_records-clause-failed
returns-in_err-write_records-clause-failed g c =
    let opens = rw c.in-Ok-Ok.field-0-is at c.in-Ok-Ok.ensures.opens in
    breaks-handed c.from_residual.result _ _ _ c.from_residual.ensures.1
    (breaks-behind _ _ _ _ (_, opens.looked) c.in_err-write_records.ensures.failed)
