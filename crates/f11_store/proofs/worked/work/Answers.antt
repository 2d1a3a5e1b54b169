use Rattle.f11_store.proofs.WorkedLagLemmas.{entered_at_the_end, work_takes_headers}
use Rattle.f11_store.proofs.worked.work.Goals as goal

pub returns : goal.returns
returns c = record { headers = work_takes_headers; entered = entered_at_the_end }
