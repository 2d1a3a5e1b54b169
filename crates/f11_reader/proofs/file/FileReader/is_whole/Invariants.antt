use Rattle.std.proofs.Common.{ℕ}
use Rattle.f11_index.specs.Kept.{index_kept}
use Rattle.f11_reader.specs.Reading.{headers_left}
use Rattle.f11_reader.proofs.MissingLemmas.{Ending}
use Rattle.f11_reader.proofs.file.FileReader.is_whole.Given as goal

-- so many headers were read, and the last one that is reached is the same
abbrev pub invariant-loop : goal.invariant-loop
invariant-loop g l = record {
  k : ℕ;
  ending : Ending (index_kept l.index) l.self l.reader k (g.D.Device.disk l.fn.device) (g.D.Device.disk l.device);
}

abbrev pub decreases-loop : goal.decreases-loop
decreases-loop g l = headers_left l.reader
