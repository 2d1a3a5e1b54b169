use Rattle.f11_store.proofs.FileLaws.{cut_comes_back_zero}
use Rattle.f11_store.proofs.laws.lengths.Goals as goal

pub returns : goal.returns
returns c = record { zeros = cut_comes_back_zero }
