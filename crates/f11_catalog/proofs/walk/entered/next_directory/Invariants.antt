use Rattle.f11_index.specs.Kept.{index_kept}
use Rattle.f11_index.specs.Table.{table_in}
use Rattle.f11_catalog.specs.AllDirectories.{directory_under}
use Rattle.f11_catalog.specs.Records.{IsReadingRecords}
use Rattle.f11_catalog.proofs.WalkLemmas.{Passed}
use Rattle.f11_catalog.proofs.walk.entered.next_directory.Given as goal

-- no record that was read names a directory
abbrev pub invariant-loop-record : goal.invariant-loop-record
invariant-loop-record g l = record {
  passed : Passed (λ image _. directory_under (index_kept l.wide) image (table_in image (index_kept l.index))) (index_kept l.by)
      l.initial.master l.master (g.D.Device.disk l.initial.device)
      (g.D.Device.disk l.device);
  reading : IsReadingRecords (index_kept l.by) l.master (g.D.Device.disk l.device);
}

abbrev pub decreases-loop-record : goal.decreases-loop-record
decreases-loop-record g l = l.master.left
