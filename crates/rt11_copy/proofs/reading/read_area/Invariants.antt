use Rattle.rt11_copy.proofs.ReadLemmas.{ReadSoFar}
use Rattle.rt11_copy.proofs.reading.read_area.Given as goal

-- so many blocks were read
abbrev pub invariant-loop-place : goal.invariant-loop-place
invariant-loop-place g l = record {
  read : ReadSoFar l.first l.place l.all.items (g.D.Device.disk l.fn.device) (g.D.Device.disk l.device);
}
