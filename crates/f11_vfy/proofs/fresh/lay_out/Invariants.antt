use Rattle.f11_vfy.proofs.LayLemmas.{LaysUpTo}
use Rattle.f11_vfy.proofs.fresh.lay_out.Given as goal

-- the blocks so far were written, but for the home block
abbrev pub invariant-loop-lbn : goal.invariant-loop-lbn
invariant-loop-lbn g l = LaysUpTo l.layout l.lbn (g.D.Device.disk l.fn.device) (g.D.Device.disk l.device)
