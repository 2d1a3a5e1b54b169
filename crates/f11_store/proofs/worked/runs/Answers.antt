use Rattle.f11_store.proofs.WorkedRunLemmas.{run-causes, run-costs, run-in-header, run-mark, run-pointers}
use Rattle.f11_store.proofs.worked.runs.Goals as goal

pub returns : goal.returns
returns c = record { pointers = run-pointers; mark = run-mark; causes = run-causes; costs = run-costs; header = run-in-header }
