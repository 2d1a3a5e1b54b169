use Rattle.std.proofs.Common.{inr}
use Rattle.f11_words.proofs.ReadingLemmas.{at-none}
use Rattle.f11_words.proofs.host_files.put_file_of.Goals as goal

pub returns-in_err-directory_of : goal.returns-in_err-directory_of
returns-in_err-directory_of c mode image uic name host has =
    at-none _ c.from_residual-in_err-directory_of.result c.from_residual-in_err-directory_of.ensures
    (inr (c.in_err-directory_of.ensures uic has.1.1.1.1.1.1.1.0))
