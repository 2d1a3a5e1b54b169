use Rattle.std.proofs.Common.{arith}
use Rattle.f11_bits.proofs.BlockLaneLemmas.{mask-empty, ones-lanes}
use Rattle.f11_bits.proofs.bits.has_zeros.Goals as goal

pub returns : goal.returns
returns c =
    λ none. ones-lanes c.args.block.now c.bytes_at-lanes.result c.args.i (omega arith) c.bytes_at-lanes.ensures
    (mask-empty c.bytes_at-lanes.result 255 (omega arith) none)
