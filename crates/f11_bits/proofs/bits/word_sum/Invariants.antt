use Rattle.std.proofs.Common.{◌≡◌, ◌*◌, ◌%◌, sum}
use Rattle.f11_dev.specs.bytes.Words.{word_total}
use Rattle.f11_bits.proofs.bits.word_sum.Given as goal

abbrev pub invariant-loop-i : goal.invariant-loop-i
invariant-loop-i l = sum l.sums % 65536 ≡ word_total l.block (16 * l.i) % 65536
