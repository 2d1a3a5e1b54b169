use Rattle.f11_chain.proofs.ChangeLemmas.{ends-with, is-cut}
use Rattle.f11_chain.proofs.laws.cuts.Goals as goal

pub returns : goal.returns
returns c = record { ends = ends-with; cut = λ old new f n left of few stay. is-cut old new f n of few stay left }
