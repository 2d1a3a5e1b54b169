use Rattle.rt11_copy.proofs.SegmentLemmas.{entries-have-segments}
use Rattle.rt11_copy.proofs.laws.entries.Goals as goal

pub returns : goal.returns
returns c = record { segments = entries-have-segments }
