use Rattle.f11_serving.proofs.RunLemmas.{requests-are-answered}
use Rattle.f11_serving.proofs.laws.answers.Goals as goal

pub returns : goal.returns
returns g c = requests-are-answered g.S.Asked.service.serves
