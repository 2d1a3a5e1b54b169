use Rattle.f11_chain.proofs.FileOneLemmas.{file-one}
use Rattle.f11_chain.proofs.laws.index_file.Goals as goal

pub returns : goal.returns
returns c = file-one
