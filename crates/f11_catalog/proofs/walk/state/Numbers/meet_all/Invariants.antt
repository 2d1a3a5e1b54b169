use Rattle.f11_catalog.proofs.NumbersLemmas.{MeetsBelow}
use Rattle.std.proofs.Common.{◌-◌}
use Rattle.f11_catalog.proofs.walk.state.Numbers.meet_all.Given as goal

-- those below this number were met that others have met
abbrev pub invariant-loop-number : goal.invariant-loop-number
invariant-loop-number l = MeetsBelow l.others l.initial.self l.self l.grows l.number

abbrev pub decreases-loop-number : goal.decreases-loop-number
decreases-loop-number l = 65536 - l.number
