use Rattle.f11_index.specs.Kept.{index_kept}
use Rattle.f11_catalog.specs.Records.{IsReadingRecords}
use Rattle.f11_catalog.proofs.NamesLemmas.{NamesFirst}
use Rattle.f11_catalog.proofs.name_list.add_names.Given as goal

-- the names of the records that were read were added
abbrev pub invariant-loop-record : goal.invariant-loop-record
invariant-loop-record g l =
    record {
      added : NamesFirst (index_kept l.by) l.initial.directory l.directory l.initial.names.items l.names.items
          (g.D.Device.disk l.initial.device) (g.D.Device.disk l.device);
      reading : IsReadingRecords (index_kept l.by) l.directory (g.D.Device.disk l.device);
    }

abbrev pub decreases-loop-record : goal.decreases-loop-record
decreases-loop-record g l = l.directory.left
