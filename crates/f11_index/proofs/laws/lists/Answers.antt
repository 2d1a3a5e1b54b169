use Rattle.f11_index.proofs.HeadersLemmas.{header-placed, header-listed}
use Rattle.f11_index.proofs.laws.lists.Goals as goal

pub returns : goal.returns
returns c = record { placed = header-placed; listed = header-listed }
