use Rattle.rt11_volume.proofs.Rewriting.Words.{length-words_of}
use Rattle.rt11_volume.proofs.segment.Segment.zeros.Goals as goal

pub returns : goal.returns
returns c = length-words_of _
