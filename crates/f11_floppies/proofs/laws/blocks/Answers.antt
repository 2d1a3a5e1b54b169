use Rattle.f11_floppies.proofs.BlockLemmas.{image-whole, put-other, put-outside, put-there, put-writes}
use Rattle.f11_floppies.proofs.laws.blocks.Goals as goal

pub returns : goal.returns
returns c = record { there = put-there; others = put-other; write = put-writes; outside = put-outside; whole = image-whole }
