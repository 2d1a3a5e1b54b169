use Rattle.f11_home.proofs.HomeLemmas.{candidate-below, candidates-above}
use Rattle.f11_home.proofs.laws.candidates.Goals as goal

pub returns : goal.returns
returns c = λ k blocks. (λ counted. candidate-below k blocks counted, λ below. candidates-above k blocks below)
