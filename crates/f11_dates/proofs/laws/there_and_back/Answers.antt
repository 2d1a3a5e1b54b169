use Rattle.f11_dates.proofs.LawLemmas.{date_back, moment_back, time_back, word_back}
use Rattle.f11_dates.proofs.laws.there_and_back.Goals as goal

pub returns-clause-date : goal.returns-clause-date
returns-clause-date c = date_back

pub returns-clause-time : goal.returns-clause-time
returns-clause-time c = time_back

pub returns-clause-moment : goal.returns-clause-moment
returns-clause-moment c = moment_back

pub returns-clause-word : goal.returns-clause-word
returns-clause-word c = word_back
