use Rattle.rt11_squeeze.proofs.SqueezeLemmas.{SqueezedSoFar}
use Rattle.rt11_squeeze.proofs.squeezing.squeeze.Given as goal

-- so many files were brought to lower blocks, or not
abbrev pub invariant-loop-i : goal.invariant-loop-i
invariant-loop-i g l = record { squeezed : SqueezedSoFar g.D.Device.disk l.files l.i l.outcomes.items l.fn.volume l.volume }
