use Rattle.rt11_squeeze.proofs.BlockLemmas.{ReadSoFar}
use Rattle.rt11_squeeze.proofs.blocks.read_blocks.Given as goal

-- so many blocks were read
abbrev pub invariant-loop-place : goal.invariant-loop-place
invariant-loop-place g l = record { read : ReadSoFar g.D.Device.disk l.name l.fn.volume l.place l.all.items l.volume }
