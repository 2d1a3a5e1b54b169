use Rattle.f11_image_store.proofs.FreshStoreLemmas.{fresh-is-stored}
use Rattle.f11_image_store.proofs.laws.fresh_volumes.Goals as goal

pub returns : goal.returns
returns c = fresh-is-stored
