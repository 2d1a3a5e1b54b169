use Rattle.f11_dates.proofs.DayLemmas.{HoldsDay-day_held}
use Rattle.f11_dates.proofs.reading.read_date.Goals as goal

pub returns-clause-held : goal.returns-clause-held
returns-clause-held c = rw (c.held.ensures, c.is_blank.ensures, c.date.ensures) (HoldsDay-day_held c.args.bytes.now)
