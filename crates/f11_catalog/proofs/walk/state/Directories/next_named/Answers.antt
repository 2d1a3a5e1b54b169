use Rattle.f11_catalog.proofs.GoingLemmas.{no-master}
use Rattle.f11_catalog.proofs.walk.state.Directories.next_named.Goals as goal

pub returns-in_default-clause-none : goal.returns-in_default-clause-none
returns-in_default-clause-none g c = no-master _ _ _ _ c.in_default.is
