use Rattle.f11_scan.proofs.SearchLemmas.{HasPassed}
use Rattle.f11_scan.proofs.search.first_from.Given as goal

abbrev pub invariant-loop-lbn : goal.invariant-loop-lbn
invariant-loop-lbn g l = HasPassed (g.D.Device.disk l.initial.device) (g.D.Device.disk l.device) l.from l.lbn
