use Rattle.std.proofs.Common.{◌*◌}
use Rattle.f11_bits.specs.Bits.{bit_below, NoneWithin}
use Rattle.f11_bits.proofs.bits.first_set_by_eights.Given as goal

abbrev pub invariant-loop-eight : goal.invariant-loop-eight
invariant-loop-eight l = NoneWithin (bit_below l.block 4096) l.start (64 * l.eight)
