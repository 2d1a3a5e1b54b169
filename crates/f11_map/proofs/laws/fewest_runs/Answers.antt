use Rattle.std.proofs.Common.{refl}
use Rattle.f11_map.proofs.FewestLemmas.{blocks_in-fewest_runs, are-fewest, one-by-one, go-on}
use Rattle.f11_map.proofs.laws.fewest_runs.Goals as goal

pub returns : goal.returns
returns c = record { name = blocks_in-fewest_runs; fewest = are-fewest; join = one-by-one; go_on = go-on; two_pointers = refl }
