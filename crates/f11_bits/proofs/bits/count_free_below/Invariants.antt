use Rattle.std.proofs.Common.{◌≡◌, ◌≤◌}
use Rattle.f11_dev.specs.bytes.Bits.{bit}
use Rattle.f11_bits.specs.Bitmap.{count_below}
use Rattle.f11_bits.proofs.bits.count_free_below.Given as goal

abbrev pub invariant-loop-k : goal.invariant-loop-k
invariant-loop-k l = record { so_far : l.count ≡ count_below (bit l.block) l.k; few : l.count ≤ l.k }
