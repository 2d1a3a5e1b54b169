use Rattle.std.proofs.Common.{◌-◌, ◌*◌, arith}
use Rattle.f11_bits.proofs.BlockLaneLemmas.{part-index}
use Rattle.f11_bits.proofs.lanes.bytes_at.Goals as goal

pub returns : goal.returns
returns c = λ k below. part-index (64 * c.args.i) 64 (512 - 64 * c.args.i) k c.args.block.now below (omega (arith, below, c.requires))
