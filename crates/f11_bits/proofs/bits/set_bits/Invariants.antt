use Rattle.std.proofs.Common.{◌≡◌, ℕ, ◌<◌, ◌≤◌}
use Rattle.f11_dev.specs.bytes.Bits.{bit}
use Rattle.f11_bits.proofs.bits.set_bits.Given as goal

abbrev pub invariant-loop-k : goal.invariant-loop-k
invariant-loop-k l = record {
  inside : (j : ℕ) → l.start ≤ j → j < l.k → bit l.block j ≡ l.free;
  before : (j : ℕ) → j < l.start → bit l.block j ≡ bit l.fn.block j;
  after : (j : ℕ) → l.k ≤ j → j < 4096 → bit l.block j ≡ bit l.fn.block j;
}
