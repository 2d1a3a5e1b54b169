use Rattle.std.proofs.Common.{refl}
use Rattle.f11_commands.specs.GetCommand.{untold_text}
use Rattle.f11_commands.proofs.HandedLemmas.{error-is}
use Rattle.f11_commands.proofs.get.write.write_records.Goals as goal

pub returns-in_err-tell-in-Ok-clause-failed : goal.returns-in_err-tell-in-Ok-clause-failed
returns-in_err-tell-in-Ok-clause-failed g c =
    error-is _ _ _ c.from_residual-in_err-tell-in-Ok.ensures.1
    (untold_text refl c.in-Ok.count (rw c.in-Ok.is at c.in_ok-count.ensures.writes))
