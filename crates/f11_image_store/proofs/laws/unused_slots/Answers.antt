use Rattle.f11_image_store.proofs.StoreLemmas.{unused-is-empty}
use Rattle.f11_image_store.proofs.laws.unused_slots.Goals as goal

pub returns : goal.returns
returns c = unused-is-empty
