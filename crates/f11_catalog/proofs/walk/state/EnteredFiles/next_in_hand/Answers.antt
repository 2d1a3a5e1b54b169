use Rattle.f11_catalog.proofs.EnteredLemmas.{stays-none}
use Rattle.f11_catalog.proofs.walk.state.EnteredFiles.next_in_hand.Goals as goal

pub returns-in_default-clause-ended : goal.returns-in_default-clause-ended
returns-in_default-clause-ended g c = (stays-none _ _ _ _, c.in_default.is)
