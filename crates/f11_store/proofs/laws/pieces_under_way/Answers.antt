use Rattle.f11_store.proofs.GrowsLagLemmas.{growth-lags, growth-taken-lags}
use Rattle.f11_store.proofs.PieceLemmas.{taking-adds}
use Rattle.f11_store.proofs.laws.pieces_under_way.Goals as goal

pub returns : goal.returns
returns c = record { grown = growth-lags; taken = growth-taken-lags; taking_adds = taking-adds }
