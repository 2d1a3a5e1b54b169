use Rattle.f11_image_store.proofs.InstanceLemmas.{fileless-written, file-killed, file-rewritten}
use Rattle.f11_image_store.proofs.laws.header_writes.Goals as goal

pub returns-clause-fileless : goal.returns-clause-fileless
returns-clause-fileless c = fileless-written

pub returns-clause-killed : goal.returns-clause-killed
returns-clause-killed c = file-killed

pub returns-clause-rewritten : goal.returns-clause-rewritten
returns-clause-rewritten c = λ old new home f n block wrote sequence of is. file-rewritten old new home n block wrote sequence f of is
