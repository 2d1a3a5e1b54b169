use Rattle.std.proofs.Common.{◌≡◌, ℕ, ◌+◌, ◌<◌}
use Rattle.f11_index.specs.Walk.{lbn_due}
use Rattle.f11_index.proofs.blocks.are_due.Given as goal

-- each so far is where it should be
abbrev pub invariant-loop-i : goal.invariant-loop-i
invariant-loop-i l = (k : ℕ) → k < l.i → l.lbn + k ≡ lbn_due l.home (l.place + k)
