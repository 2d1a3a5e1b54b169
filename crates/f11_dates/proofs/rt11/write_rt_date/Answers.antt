use Rattle.std.proofs.Common.{◌≤◌, arith}
use Rattle.std.proofs.lemmas.Bool.Decides.{nat_tests}
use Rattle.f11_dates.proofs.LawLemmas.{word_back}
use Rattle.f11_dates.proofs.rt11.write_rt_date.Goals as goal

pub returns-clause-reads_back : goal.returns-clause-reads_back
returns-clause-reads_back c =
    let from : 1972 ≤ c.args.date.year = grind (arith, nat_tests) in
    rw c.word_of.ensures.word (word_back c.args.date c.word_of.ensures.valid from)
