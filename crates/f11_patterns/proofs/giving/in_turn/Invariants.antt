use Rattle.std.proofs.Common.{map}
use Rattle.f11_patterns.specs.Turns.{GetsIn}
use Rattle.f11_patterns.proofs.GivingLemmas.{GivenSoFar}
use Rattle.f11_patterns.proofs.giving.in_turn.Given as goal

-- the names so far, behind which the others go on
abbrev pub invariant-loop-path : goal.invariant-loop-path
invariant-loop-path g l =
    GivenSoFar (GetsIn l.turn g.K.HostNaming.naming) l.fn.there.items (map (λ path. path.now) l.paths) l.path-index l.there.items
    l.names.items
