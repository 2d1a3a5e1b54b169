use Rattle.f11_map.proofs.FewestLemmas.{PutsRuns}
use Rattle.f11_map.proofs.pointer.put_runs.Given as goal

-- the first i pointers are written
abbrev pub invariant-loop-i : goal.invariant-loop-i
invariant-loop-i l = PutsRuns l.lbn l.count l.i l.fn.area l.area
