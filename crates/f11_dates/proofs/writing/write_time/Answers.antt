use Rattle.f11_dates.proofs.LawLemmas.{time_back}
use Rattle.f11_dates.proofs.writing.write_time.Goals as goal

pub returns-clause-reads_back : goal.returns-clause-reads_back
returns-clause-reads_back c = rw c.clock_bytes.ensures.bytes (time_back c.args.time c.clock_bytes.ensures.valid)
