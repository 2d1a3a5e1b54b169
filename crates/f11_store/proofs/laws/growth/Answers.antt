use Rattle.f11_store.proofs.GrowsLemmas.{grows-as-extends, grows-as-index}
use Rattle.f11_store.proofs.laws.growth.Goals as goal

pub returns : goal.returns
returns c = record { extends = grows-as-extends; index = grows-as-index }
