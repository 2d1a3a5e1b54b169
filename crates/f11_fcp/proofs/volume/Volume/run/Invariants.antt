use Rattle.f11_fcp.proofs.ListLemmas.{ServedUpTo}
use Rattle.f11_fcp.proofs.volume.Volume.run.Given as goal

abbrev pub invariant-loop-call : goal.invariant-loop-call
invariant-loop-call g l = ServedUpTo l.initial.self l.initial.calls l.calls l.call-index l.self
