use Rattle.std.proofs.Common.{arith}
use Rattle.f11_bits.proofs.BlockLaneLemmas.{mask-empty, NoneWithin-lanes}
use Rattle.f11_bits.proofs.bits.has_ones.Goals as goal

pub returns : goal.returns
returns c =
    λ none. NoneWithin-lanes c.args.block.now c.bytes_at-lanes.result c.args.i (omega arith) c.bytes_at-lanes.ensures
    (mask-empty c.bytes_at-lanes.result 0 (omega arith) none)
