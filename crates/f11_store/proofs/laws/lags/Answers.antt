use Rattle.f11_store.proofs.LagLaws.{lags_itself}
use Rattle.f11_store.proofs.StepLags.{step_lags}
use Rattle.f11_store.proofs.laws.lags.Goals as goal

pub returns : goal.returns
returns c = record {
  itself = lags_itself;
  step = step_lags;
}
