use Rattle.f11_store.proofs.WorkedRunLemmas.{run-marks-last}
use Rattle.f11_store.proofs.worked.no_run_lags.Goals as goal

pub returns : goal.returns
returns c = run-marks-last
