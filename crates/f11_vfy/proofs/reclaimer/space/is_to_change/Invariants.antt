use Rattle.std.proofs.Common.{◌≡◌, ℕ, ◌*◌, ◌<◌, ◌≤◌}
use Rattle.f11_vfy.specs.Reclaiming.Steps.{may_be_free}
use Rattle.f11_vfy.specs.Surveying.Bits.{has}
use Rattle.f11_vfy.proofs.reclaimer.space.is_to_change.Given as goal

-- none so far
abbrev pub invariant-loop-lbn : goal.invariant-loop-lbn
invariant-loop-lbn l = record {
  start : 4096 * l.i ≤ l.lbn;
  same : (j : ℕ) → 4096 * l.i ≤ j → j < l.lbn → has l.free j ≡ may_be_free l.named l.unreferenced j;
}
