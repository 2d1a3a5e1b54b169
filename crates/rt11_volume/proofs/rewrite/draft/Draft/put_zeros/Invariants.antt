use Rattle.std.proofs.Common.{replicate}
use Rattle.rt11_volume.specs.Rewriting.Draft.{Puts}
use Rattle.rt11_volume.proofs.rewrite.draft.Draft.put_zeros.Given as goal

-- the zeros so far
abbrev pub invariant-loop : goal.invariant-loop
invariant-loop l = Puts l.initial.self l.self (replicate l.counter 0) l.counter
