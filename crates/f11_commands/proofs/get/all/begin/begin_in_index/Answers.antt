use Rattle.f11_commands.proofs.AllLemmas.{begin-fails}
use Rattle.f11_commands.proofs.HandedLemmas.{error-is}
use Rattle.f11_commands.proofs.get.all.begin.begin_in_index.Goals as goal

pub returns-in_err-files-clause-failed : goal.returns-in_err-files-clause-failed
returns-in_err-files-clause-failed g c =
    error-is _ _ _ c.from_residual-in_err-files.ensures.1
    (begin-fails _ _ _ _ c.in_ok-size.ensures.finds.reads c.in_err-files.ensures.failed)
