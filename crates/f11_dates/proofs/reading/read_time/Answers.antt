use Rattle.f11_dates.proofs.ClockLemmas.{HoldsClock-clock_held}
use Rattle.f11_dates.proofs.reading.read_time.Goals as goal

pub returns-clause-held : goal.returns-clause-held
returns-clause-held c = rw (c.held.ensures, c.is_blank.ensures, c.time.ensures) (HoldsClock-clock_held c.args.bytes.now)
