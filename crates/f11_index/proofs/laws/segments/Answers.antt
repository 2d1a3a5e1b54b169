use Rattle.f11_index.proofs.ChainLemmas.{same-segment}
use Rattle.f11_index.proofs.SegmentLemmas.{table-bytes}
use Rattle.f11_index.proofs.laws.segments.Goals as goal

pub returns : goal.returns
returns c = record { one = λ t f n m of from same. same-segment of from same; bytes = table-bytes }
