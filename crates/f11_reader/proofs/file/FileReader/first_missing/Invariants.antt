use Rattle.std.proofs.Common.{◌-◌}
use Rattle.f11_index.specs.Kept.{index_kept}
use Rattle.f11_reader.proofs.MissingLemmas.{Passed}
use Rattle.f11_reader.proofs.file.FileReader.first_missing.Given as goal

-- so many blocks are there, and were passed
abbrev pub invariant-loop-there : goal.invariant-loop-there
invariant-loop-there g l =
    Passed (index_kept l.index) l.self l.reader l.size l.there (g.D.Device.disk l.fn.device) (g.D.Device.disk l.device)

abbrev pub decreases-loop-there : goal.decreases-loop-there
decreases-loop-there g l = l.blocks - l.there
