use Rattle.f11_chain.proofs.ChangeLemmas.{file-stays}
use Rattle.f11_chain.proofs.laws.other_headers.Goals as goal

pub returns : goal.returns
returns c = file-stays
