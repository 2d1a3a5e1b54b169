use Rattle.std.proofs.Common.{ℕ, ◌≤◌, ◌<◌}
use Rattle.f11_salvage.specs.RtSize.{HasNever}
use Rattle.f11_salvage.proofs.rt_size.first_size.Given as goal

-- no volume of fewer segments has room
abbrev pub invariant-loop-segments : goal.invariant-loop-segments
invariant-loop-segments l = (n : ℕ) → l.from ≤ n → n < l.segments → HasNever l.need n
