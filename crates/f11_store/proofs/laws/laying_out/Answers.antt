use Rattle.f11_store.proofs.ContiguousLaws.{blocks-come-lags, laid-out-lags, mark-comes-lags}
use Rattle.f11_store.proofs.LayingLemmas.{run-goes-on, run-under-way}
use Rattle.f11_store.proofs.laws.laying_out.Goals as goal

pub returns : goal.returns
returns c =
    record { blocks = blocks-come-lags; mark = mark-comes-lags; whole = laid-out-lags; more = run-goes-on; under_way = run-under-way }
