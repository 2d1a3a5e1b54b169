use Rattle.f11_patterns.specs.Giving.{is_free}
use Rattle.f11_patterns.proofs.GivingLemmas.{IsBehind}
use Rattle.f11_patterns.proofs.giving.first_candidate.Given as goal

-- it is behind those that were tried
abbrev pub invariant-loop-number : goal.invariant-loop-number
invariant-loop-number g l = IsBehind (is_free g.K.HostNaming.naming l.there l.part) l.number
