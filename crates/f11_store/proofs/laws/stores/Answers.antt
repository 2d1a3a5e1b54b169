use Rattle.f11_store.proofs.StoreLemmas.{agreeing_are_one}
use Rattle.f11_store.proofs.laws.stores.Goals as goal

pub returns : goal.returns
returns c = agreeing_are_one
