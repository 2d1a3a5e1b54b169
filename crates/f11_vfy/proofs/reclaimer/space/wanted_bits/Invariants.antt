use Rattle.std.proofs.Common.{◌≡◌, ℕ, ◌+◌, ◌*◌, ◌<◌, ◌≤◌, max}
use Rattle.f11_bytes.specs.Bits.{bit}
use Rattle.f11_vfy.specs.Reclaiming.Steps.{may_be_free}
use Rattle.f11_vfy.proofs.reclaimer.space.wanted_bits.Given as goal

-- the bits so far
abbrev pub invariant-loop-lbn : goal.invariant-loop-lbn
invariant-loop-lbn l = record {
  start : 4096 * l.i ≤ l.lbn;
  bound : l.lbn ≤ max (4096 * l.i) l.size;
  wanted : (j : ℕ) → 4096 * l.i + j < l.lbn → bit l.block j ≡ may_be_free l.named l.unreferenced (4096 * l.i + j);
  past : (j : ℕ) → l.lbn ≤ 4096 * l.i + j → bit l.block j ≡ bit l.last j;
}
