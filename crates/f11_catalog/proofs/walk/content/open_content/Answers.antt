use Rattle.std.proofs.lemmas.Result.{IfOk-weaker, on_err_weaker}
use Rattle.f11_catalog.proofs.ContentLemmas.{holds-else}
use Rattle.f11_catalog.proofs.ListingLemmas.{reads-then}
use Rattle.f11_catalog.proofs.walk.content.open_content.Goals as goal

pub returns-in-None-clause-holds : goal.returns-in-None-clause-holds
returns-in-None-clause-holds g c =
    IfOk-weaker c.open_out_of_use.result _ _ (λ content. holds-else _ _ _ content _ _ _ (rw c.in-None.is at c.in_ok-file.ensures.none))
    c.open_out_of_use.ensures.holds

pub returns-in-None-clause-failed : goal.returns-in-None-clause-failed
returns-in-None-clause-failed g c =
    let none = rw c.in-None.is at c.in_ok-file.ensures.none in
    on_err_weaker c.open_out_of_use.result (reads-then (_, none.looked)) c.open_out_of_use.ensures.failed
