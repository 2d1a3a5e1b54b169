use Rattle.f11_dates.proofs.LawLemmas.{date_back}
use Rattle.f11_dates.proofs.writing.write_date.Goals as goal

pub returns-clause-reads_back : goal.returns-clause-reads_back
returns-clause-reads_back c = rw c.date_bytes.ensures.bytes (date_back c.args.date c.date_bytes.ensures.valid)
