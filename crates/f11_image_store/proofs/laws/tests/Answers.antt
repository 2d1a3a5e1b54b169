use Rattle.f11_image_store.proofs.StoreLemmas.{first-is-tested}
use Rattle.f11_image_store.proofs.laws.tests.Goals as goal

pub returns : goal.returns
returns c = first-is-tested
