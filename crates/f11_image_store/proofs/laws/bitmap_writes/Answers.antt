use Rattle.f11_image_store.proofs.StoreLemmas.{fewer-free, more-free}
use Rattle.f11_image_store.proofs.laws.bitmap_writes.Goals as goal

pub returns-clause-used : goal.returns-clause-used
returns-clause-used c = fewer-free

pub returns-clause-free : goal.returns-clause-free
returns-clause-free c = more-free
