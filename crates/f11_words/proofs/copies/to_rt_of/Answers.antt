use Rattle.std.proofs.Common.{inr}
use Rattle.f11_words.proofs.ReadingLemmas.{at-none}
use Rattle.f11_words.proofs.copies.to_rt_of.Goals as goal

pub returns-in_err-uic_of : goal.returns-in_err-uic_of
returns-in_err-uic_of c mode image uic name rt rt_name has =
    at-none _ c.from_residual-in_err-uic_of.result c.from_residual-in_err-uic_of.ensures (inr (c.in_err-uic_of.ensures uic has.1.1.0))
