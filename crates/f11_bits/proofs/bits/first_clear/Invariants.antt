use Rattle.std.proofs.Common.{◌≡◌, ℕ, ◌*◌, ◌<◌, ◌≤◌, true}
use Rattle.f11_dev.specs.bytes.Bits.{bit}
use Rattle.f11_bits.proofs.bits.first_clear.Given as goal

abbrev pub invariant-loop-part : goal.invariant-loop-part
invariant-loop-part l = (j : ℕ) → l.start ≤ j → j < 512 * l.part → j < l.end → bit l.block j ≡ true
