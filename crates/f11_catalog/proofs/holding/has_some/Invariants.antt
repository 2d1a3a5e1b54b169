use Rattle.f11_index.specs.Kept.{index_kept}
use Rattle.f11_catalog.specs.Records.{IsReadingRecords}
use Rattle.f11_catalog.proofs.HoldingLemmas.{AllEmpty}
use Rattle.f11_catalog.proofs.holding.has_some.Given as goal

-- each record that was read is empty
abbrev pub invariant-loop-record : goal.invariant-loop-record
invariant-loop-record g l =
    record {
      looked : AllEmpty (index_kept l.by) l.initial.directory l.directory (g.D.Device.disk l.initial.device)
          (g.D.Device.disk l.device);
      reading : IsReadingRecords (index_kept l.by) l.directory (g.D.Device.disk l.device);
    }

abbrev pub decreases-loop-record : goal.decreases-loop-record
decreases-loop-record g l = l.directory.left
