use Rattle.f11_image_store.proofs.FileLemmas.{file-ends}
use Rattle.f11_image_store.proofs.laws.cuts.Goals as goal

pub returns : goal.returns
returns c = file-ends
