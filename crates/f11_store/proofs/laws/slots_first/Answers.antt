use Rattle.f11_store.proofs.SlotsFirst.{gained-is-ready, gaining-lags, ready-lags}
use Rattle.f11_store.proofs.laws.slots_first.Goals as goal

pub returns : goal.returns
returns c = record { ready = gained-is-ready; gaining = gaining-lags; lags = ready-lags }
