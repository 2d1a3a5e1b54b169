use Rattle.std.proofs.Common.{◌∙◌}
use Rattle.f11_bits.proofs.BlockLaneLemmas.{words-are}
use Rattle.f11_bits.proofs.lanes.words_at.Goals as goal

pub returns : goal.returns
returns c = λ k below. c.words_of.ensures k below ∙ words-are c.args.block.now c.args.i k c.requires below
