use Rattle.f11_bits.specs.Bits.{bit_below, NoneWithin}
use Rattle.f11_bits.proofs.bits.first_set_in.Given as goal

abbrev pub invariant-loop-k : goal.invariant-loop-k
invariant-loop-k l = NoneWithin (bit_below l.block 4096) l.start l.k
