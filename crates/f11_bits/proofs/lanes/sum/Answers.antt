use Rattle.f11_bits.proofs.LaneLemmas.{sum-wraps}
use Rattle.f11_bits.proofs.lanes.sum.Goals as goal

pub returns : goal.returns
returns c = sum-wraps c.args.lanes
