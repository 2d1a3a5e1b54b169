use Rattle.f11_store.proofs.GrowsLagLemmas.{growth-cleared-lags}
use Rattle.f11_store.proofs.GrowsLemmas.{cleared-grows, cleared-may-grow}
use Rattle.f11_store.proofs.laws.cleared_marks.Goals as goal

pub returns : goal.returns
returns c = record { may = cleared-may-grow; grows = cleared-grows; lags = growth-cleared-lags }
