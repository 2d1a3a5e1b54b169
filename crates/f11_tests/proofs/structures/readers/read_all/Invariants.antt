use Rattle.std.proofs.Common.{◌≤◌, length}
use Rattle.f11_index.specs.Kept.{index_kept, IndexLiesWithin}
use Rattle.f11_reader.specs.Reading.{IsReading}
use Rattle.f11_tests.proofs.structures.readers.read_all.Given as goal

-- the file is one of the disk's still, and the index lies on it
abbrev pub invariant-loop : goal.invariant-loop
invariant-loop g l = record {
  within : IndexLiesWithin (index_kept l.index) (length (g.D.Device.disk l.device).image);
  reading : IsReading (index_kept l.index) l.reader (g.D.Device.disk l.device);
  few : l.read ≤ l.counter;
  few_faults : l.faults ≤ l.counter;
}
