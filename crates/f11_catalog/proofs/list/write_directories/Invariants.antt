use Rattle.f11_index.specs.Kept.{index_kept}
use Rattle.f11_catalog.specs.Lines.{directory_lines}
use Rattle.f11_catalog.specs.Records.{IsReadingRecords}
use Rattle.f11_catalog.proofs.ListingLemmas.{WritesFirst}
use Rattle.f11_catalog.proofs.list.write_directories.Given as goal

-- the lines of the records that were read were written
abbrev pub invariant-loop-record : goal.invariant-loop-record
invariant-loop-record g l =
    record {
      written : WritesFirst (directory_lines l.form (index_kept l.wide)) (index_kept l.index) (index_kept l.by) l.initial.directory
          l.directory
          (g.D.Device.disk l.initial.device)
          (g.D.Device.disk l.device) g.W.Write.contents l.initial.writer l.writer;
      reading : IsReadingRecords (index_kept l.by) l.directory (g.D.Device.disk l.device);
    }

abbrev pub decreases-loop-record : goal.decreases-loop-record
decreases-loop-record g l = l.directory.left
