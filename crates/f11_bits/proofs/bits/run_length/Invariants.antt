use Rattle.std.proofs.Common.{◌≡◌, ℕ, ◌<◌, ◌≤◌, true}
use Rattle.f11_dev.specs.bytes.Bits.{bit}
use Rattle.f11_bits.proofs.bits.run_length.Given as goal

abbrev pub invariant-loop-k : goal.invariant-loop-k
invariant-loop-k l = (j : ℕ) → l.start ≤ j → j < l.k → bit l.block j ≡ true
