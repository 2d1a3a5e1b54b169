use Rattle.f11_dates.proofs.LawLemmas.{one_date, one_time, one_word}
use Rattle.f11_dates.proofs.laws.one_answer.Goals as goal

pub returns-clause-date : goal.returns-clause-date
returns-clause-date c = one_date

pub returns-clause-time : goal.returns-clause-time
returns-clause-time c = one_time

pub returns-clause-word : goal.returns-clause-word
returns-clause-word c = one_word
