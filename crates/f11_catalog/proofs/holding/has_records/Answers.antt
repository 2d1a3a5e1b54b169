use Rattle.f11_bytes.proofs.ResultLemmas.{OnErr-given}
use Rattle.f11_catalog.proofs.HoldingLemmas.{holds-some}
use Rattle.f11_catalog.proofs.ListingLemmas.{reads-then}
use Rattle.f11_catalog.proofs.holding.has_records.Goals as goal

pub returns-in_err-some-clause-failed : goal.returns-in_err-some-clause-failed
returns-in_err-some-clause-failed g c =
    let opens = rw c.in-Ok.is at c.in_ok-found.ensures.opens in
    OnErr-given _ (reads-then (_, opens.looked) c.in_err-some.ensures.failed)

pub returns-clause-told : goal.returns-clause-told
returns-clause-told g c =
    let opens = rw c.in-Ok.is at c.in_ok-found.ensures.opens in
    holds-some _ _ _ _ _ _ _ _ _ opens c.index_by.ensures c.in_ok-some.ensures.finds
