use Rattle.std.proofs.Common.{inl, inr}
use Rattle.f11_words.proofs.ReadingLemmas.{at-none}
use Rattle.f11_words.proofs.spelled.rights_of.Goals as goal

pub returns-in_err-uic_of : goal.returns-in_err-uic_of
returns-in_err-uic_of c caller owner word has =
    at-none _ c.from_residual.result c.from_residual.ensures (inl (c.in_err-uic_of.ensures caller has.0))

pub returns-in_err-uic_of-2 : goal.returns-in_err-uic_of-2
returns-in_err-uic_of-2 c caller owner word has =
    at-none _ c.from_residual-in_err-uic_of-2.result c.from_residual-in_err-uic_of-2.ensures
    (inr (inl (c.in_err-uic_of-2.ensures owner has.1.0)))
