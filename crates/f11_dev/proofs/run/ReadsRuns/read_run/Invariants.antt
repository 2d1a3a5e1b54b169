use Rattle.f11_dev.proofs.RunLemmas.{HasRead}
use Rattle.f11_dev.proofs.run.ReadsRuns.read_run.Given as goal

abbrev pub invariant-loop-i : goal.invariant-loop-i
invariant-loop-i g l = HasRead (g.Self.Device.disk l.initial.self) l.lbn l.i l.into (g.Self.Device.disk l.self)
