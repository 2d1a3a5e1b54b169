use Rattle.f11_index.specs.Kept.{index_kept}
use Rattle.f11_catalog.specs.AllFiles.{place_entered}
use Rattle.f11_catalog.specs.Records.{IsReadingRecords}
use Rattle.f11_catalog.proofs.WalkLemmas.{Passed}
use Rattle.f11_catalog.proofs.walk.entered.next_record.Given as goal

-- no record that was read gives a place
abbrev pub invariant-loop-record : goal.invariant-loop-record
invariant-loop-record g l = record {
  passed : Passed (λ image t. place_entered l.name) (index_kept l.by) l.initial.directory l.directory
      (g.D.Device.disk l.initial.device) (g.D.Device.disk l.device);
  reading : IsReadingRecords (index_kept l.by) l.directory (g.D.Device.disk l.device);
}

abbrev pub decreases-loop-record : goal.decreases-loop-record
decreases-loop-record g l = l.directory.left
