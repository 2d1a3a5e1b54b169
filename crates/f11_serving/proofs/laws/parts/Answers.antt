use Rattle.f11_serving.proofs.PartLemmas.{served-is-in-parts}
use Rattle.f11_serving.proofs.ServedLemmas.{parts-are-served}
use Rattle.f11_serving.proofs.laws.parts.Goals as goal

pub returns : goal.returns
returns g c = record { joined = parts-are-served g.S.Asked.service.serves; parted = served-is-in-parts g.S.Asked.service.serves }
