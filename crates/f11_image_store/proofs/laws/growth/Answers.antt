use Rattle.f11_image_store.proofs.FileLemmas.{file-more, file-linked}
use Rattle.f11_image_store.proofs.StepLemmas.{file-grows}
use Rattle.f11_image_store.proofs.laws.growth.Goals as goal

pub returns-clause-file : goal.returns-clause-file
returns-clause-file c = file-more

pub returns-clause-store : goal.returns-clause-store
returns-clause-store c = file-grows

pub returns-clause-links : goal.returns-clause-links
returns-clause-links c = file-linked
