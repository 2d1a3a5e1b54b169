use Rattle.std.proofs.Common.{inl, inr}
use Rattle.f11_words.proofs.ReadingLemmas.{at-none}
use Rattle.f11_words.proofs.files.prot_of.Goals as goal

pub returns-in_err-directory_of : goal.returns-in_err-directory_of
returns-in_err-directory_of c manner image dir name word has =
    at-none _ c.from_residual-in_err-directory_of.result c.from_residual-in_err-directory_of.ensures
    (inl (c.in_err-directory_of.ensures dir has.1.1.1.0))

pub returns-in_err-word_of : goal.returns-in_err-word_of
returns-in_err-word_of c manner image dir name word has =
    at-none _ c.from_residual-in_err-word_of.result c.from_residual-in_err-word_of.ensures
    (inr (c.in_err-word_of.ensures word has.1.1.1.1.1.0))
