use Rattle.f11_bits.proofs.BlockLaneLemmas.{words-made}
use Rattle.f11_bits.proofs.lanes.words_of.Goals as goal

pub returns : goal.returns
returns c = λ k below. words-made c.args.bytes k c.fits-bytes.0 c.fits-bytes.1 below
