use Rattle.std.proofs.Common.{◌≡◌, ◌*◌}
use Rattle.f11_dev.specs.bytes.Bits.{bit}
use Rattle.f11_bits.specs.Bitmap.{count_below}
use Rattle.f11_bits.proofs.bits.count_free.Given as goal

abbrev pub invariant-loop-i : goal.invariant-loop-i
invariant-loop-i l = l.count ≡ count_below (bit l.block) (512 * l.i)
