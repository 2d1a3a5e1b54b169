use Rattle.f11_catalog.proofs.NamesLemmas.{fails-handed, fails-to-name, names-found}
use Rattle.f11_catalog.proofs.name_list.names.Goals as goal

pub returns-in_err-add_names-clause-failed : goal.returns-in_err-add_names-clause-failed
returns-in_err-add_names-clause-failed g c =
    let opens = rw c.in-Ok.is at c.in_ok-found.ensures.opens in
    fails-handed c.from_residual-in_err-add_names.result _ _ _ c.from_residual-in_err-add_names.ensures.1
    (fails-to-name _ _ _ _ (_, opens.looked) c.in_err-add_names.ensures.failed)

pub returns-clause-named : goal.returns-clause-named
returns-clause-named g c =
    let opens = rw c.in-Ok.is at c.in_ok-found.ensures.opens in
    names-found _ _ _ _ _ _ _ _ _ _ opens c.index_by-by.ensures c.new-names.ensures.items c.in_ok-add_names.ensures.adds
