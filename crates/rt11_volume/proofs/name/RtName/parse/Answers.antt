use Rattle.std.proofs.Common.{◌∙◌, refl}
use Rattle.rt11_volume.proofs.name.RtName.parse.Goals as goal

pub returns-clause-every : goal.returns-clause-every
returns-clause-every c = λ words s. c.ok_or.ensures.value ∙ rw (c.read.ensures.every words s) refl
