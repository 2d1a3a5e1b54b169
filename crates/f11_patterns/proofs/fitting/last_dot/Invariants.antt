use Rattle.std.proofs.Common.{◌≡◌, ◌<◌, IfSome}
use Rattle.std.specs.Path.{rfind_below}
use Rattle.f11_patterns.proofs.fitting.last_dot.Given as goal

-- where the last dot of what was looked at stands
abbrev pub invariant-loop-at : goal.invariant-loop-at
invariant-loop-at l = (l.found ≡ rfind_below 46 l.text l.at) × IfSome l.found (λ k. k < l.at)
