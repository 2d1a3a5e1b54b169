use Rattle.f11_serving.proofs.ServedLemmas.{count-is-of-requests}
use Rattle.f11_serving.proofs.laws.counts.Goals as goal

pub returns : goal.returns
returns g c = count-is-of-requests g.S.Asked.service.serves
