use Rattle.f11_dates.proofs.Rt11Lemmas.{HoldsWord-word_held}
use Rattle.f11_dates.proofs.rt11.read_rt_date.Goals as goal

pub returns-clause-held : goal.returns-clause-held
returns-clause-held c = rw (c.held.ensures, c.spelled.ensures) (HoldsWord-word_held c.args.word)
