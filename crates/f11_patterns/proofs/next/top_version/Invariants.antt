use Rattle.std.proofs.Common.{take}
use Rattle.f11_patterns.specs.Next.{IsTop}
use Rattle.f11_patterns.proofs.next.top_version.Given as goal

-- that of the names so far
abbrev pub invariant-loop-one : goal.invariant-loop-one
invariant-loop-one l = IsTop (take l.one-index l.names) l.name l.top
