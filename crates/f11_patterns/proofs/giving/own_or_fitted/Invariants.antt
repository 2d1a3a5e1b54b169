use Rattle.std.proofs.Common.{◌≡◌, take}
use Rattle.f11_patterns.specs.Giving.{own_or_fitted}
use Rattle.f11_patterns.proofs.giving.own_or_fitted.Given as goal

-- so many names were put
abbrev pub invariant-loop-at : goal.invariant-loop-at
invariant-loop-at g l = l.names.items ≡ own_or_fitted (take l.at l.owns) (take l.at l.fits)
