use Rattle.f11_commands.specs.AllText.{line_lost}
use Rattle.f11_commands.proofs.HandedLemmas.{error-is}
use Rattle.f11_commands.proofs.get.all.state.TakingAll.write_text_file.Goals as goal

pub returns-in_err-write_text_line-in-Ok-clause-failed : goal.returns-in_err-write_text_line-in-Ok-clause-failed
returns-in_err-write_text_line-in-Ok-clause-failed g c =
    error-is _ _ _ c.from_residual.ensures.1 (line_lost c.in-Ok.taken c.in-Ok.ensures.takes)
