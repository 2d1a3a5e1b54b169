use Rattle.std.proofs.Common.{[], take}
use Rattle.f11_patterns.specs.Chosen.{AreThoseBehind, IsChosen}
use Rattle.f11_patterns.specs.Lent.{parts_of}
use Rattle.f11_patterns.proofs.pattern.Pattern.choose.Given as goal

-- those that are chosen of the names so far
abbrev pub invariant-loop-at : goal.invariant-loop-at
invariant-loop-at l = AreThoseBehind (IsChosen l.choice (parts_of l.self) l.names) [] (take l.at l.names) l.those.items
