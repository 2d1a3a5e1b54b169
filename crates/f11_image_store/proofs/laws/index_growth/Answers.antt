use Rattle.f11_image_store.proofs.GrowthLemmas.{index-stored, index-more, index-linked}
use Rattle.f11_image_store.proofs.laws.index_growth.Goals as goal

pub returns : goal.returns
returns c = record { any = index-stored; names = index-more; links = index-linked }
