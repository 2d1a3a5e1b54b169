use Rattle.std.proofs.Common.{◌*◌}
use Rattle.f11_bits.specs.Bits.{bit_below, NoneWithin}
use Rattle.f11_bits.proofs.bits.first_set.Given as goal

abbrev pub invariant-loop-part : goal.invariant-loop-part
invariant-loop-part l = NoneWithin (bit_below l.block 4096) l.from (512 * l.part)
