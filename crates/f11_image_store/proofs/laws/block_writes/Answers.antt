use Rattle.f11_image_store.proofs.StoreLemmas.{stays, block-stored}
use Rattle.f11_image_store.proofs.laws.block_writes.Goals as goal

pub returns-clause-stays : goal.returns-clause-stays
returns-clause-stays c = stays

pub returns-clause-block : goal.returns-clause-block
returns-clause-block c = block-stored
