use Rattle.f11_bytes.proofs.ResultLemmas.{OnErr-given}
use Rattle.f11_catalog.proofs.SearchLemmas.{enters-fails, enters-none, enters-some}
use Rattle.f11_catalog.proofs.search.find.Goals as goal

pub returns-in_err-id-clause-failed : goal.returns-in_err-id-clause-failed
returns-in_err-id-clause-failed g c =
    let found = rw c.in-Ok.is at c.in_ok-found.ensures.opens in
    OnErr-given _ (enters-fails _ _ _ _ c.args.name.now _ _ _ _ found c.index_by.ensures c.in_err-id.ensures.failed)

pub returns-in-Some-clause-found : goal.returns-in-Some-clause-found
returns-in-Some-clause-found g c =
    let found = rw c.in-Ok.is at c.in_ok-found.ensures.opens in
    enters-some _ _ _ _ _ _ _ _ _ found c.index_by.ensures c.in-Some.id (rw c.in-Some.is at c.in_ok-id.ensures.finds)

pub returns-in-None-clause-refused : goal.returns-in-None-clause-refused
returns-in-None-clause-refused g c =
    let found = rw c.in-Ok.is at c.in_ok-found.ensures.opens in
    enters-none _ _ _ _ _ _ _ _ _ found c.index_by.ensures (rw c.in-None.is at c.in_ok-id.ensures.finds)
