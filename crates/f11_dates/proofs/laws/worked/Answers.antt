use Rattle.f11_dates.proofs.LawLemmas.{leap_days_work, moment_works, words_refused, words_work, years_work}
use Rattle.f11_dates.proofs.laws.worked.Goals as goal

pub returns-clause-moment : goal.returns-clause-moment
returns-clause-moment c = moment_works

pub returns-clause-years : goal.returns-clause-years
returns-clause-years c = years_work

pub returns-clause-leap_days : goal.returns-clause-leap_days
returns-clause-leap_days c = leap_days_work

pub returns-clause-words : goal.returns-clause-words
returns-clause-words c = words_work

pub returns-clause-refused : goal.returns-clause-refused
returns-clause-refused c = words_refused
