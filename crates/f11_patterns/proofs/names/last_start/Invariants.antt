use Rattle.f11_patterns.proofs.NamingLemmas.{IsLastSoFar}
use Rattle.f11_patterns.proofs.names.last_start.Given as goal

-- where the last part of what was looked at begins
abbrev pub invariant-loop-at : goal.invariant-loop-at
invariant-loop-at l = IsLastSoFar l.path l.at l.start
