use Rattle.f11_commands.proofs.HandedLemmas.{error-is}
use Rattle.f11_commands.proofs.rt_area.write_area.Goals as goal

pub returns-in_err-flush-clause-failed : goal.returns-in_err-flush-clause-failed
returns-in_err-flush-clause-failed g c =
    error-is _ _ _ c.from_residual-in_err-flush.ensures.1 c.in_ok-write_blocks.ensures.takes.looked
