use Rattle.f11_serving.proofs.RunLemmas.{steps-are-run, sound-is-run}
use Rattle.f11_serving.proofs.laws.runs.Goals as goal

pub returns : goal.returns
returns g c = record { steps = steps-are-run; sound = sound-is-run g.S.Asked.service.serves }
