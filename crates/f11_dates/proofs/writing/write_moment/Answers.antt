use Rattle.f11_dates.proofs.LawLemmas.{moment_back}
use Rattle.f11_dates.proofs.writing.write_moment.Goals as goal

pub returns-clause-reads_back : goal.returns-clause-reads_back
returns-clause-reads_back c =
    rw (c.joined.ensures, c.date_bytes.ensures.bytes, c.time_bytes.ensures.bytes)
    (moment_back c.args.moment.now (c.date_bytes.ensures.valid, c.time_bytes.ensures.valid))
