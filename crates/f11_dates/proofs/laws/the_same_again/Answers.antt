use Rattle.f11_dates.proofs.LawLemmas.{date_same, moment_same, time_same, word_same}
use Rattle.f11_dates.proofs.laws.the_same_again.Goals as goal

pub returns-clause-date : goal.returns-clause-date
returns-clause-date c = date_same

pub returns-clause-time : goal.returns-clause-time
returns-clause-time c = time_same

pub returns-clause-moment : goal.returns-clause-moment
returns-clause-moment c = moment_same

pub returns-clause-word : goal.returns-clause-word
returns-clause-word c = word_same
