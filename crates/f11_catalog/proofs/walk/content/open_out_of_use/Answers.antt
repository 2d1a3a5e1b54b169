use Rattle.f11_catalog.proofs.ContentLemmas.{missing-else}
use Rattle.f11_catalog.proofs.walk.content.open_out_of_use.Goals as goal

pub returns-in_ok-why_missing-in-None-clause-holds : goal.returns-in_ok-why_missing-in-None-clause-holds
returns-in_ok-why_missing-in-None-clause-holds g c =
    missing-else _ _ _ _ _ _ _ (rw c.in-None.is at c.in_ok-file.ensures.none) c.in_ok-why_missing-in-None.ensures.tells
