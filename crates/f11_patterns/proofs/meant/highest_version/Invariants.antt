use Rattle.f11_patterns.proofs.HighestLemmas.{HighestSoFar}
use Rattle.f11_patterns.proofs.meant.highest_version.Given as goal

-- it is the highest of the names so far
abbrev pub invariant-loop-other : goal.invariant-loop-other
invariant-loop-other l = HighestSoFar l.names l.other-index l.name l.highest
