use Rattle.f11_commands.specs.GetCommand.{untaken}
use Rattle.f11_commands.proofs.get.write.write_file.Goals as goal

pub returns-in-Ok-clause-failed : goal.returns-in-Ok-clause-failed
returns-in-Ok-clause-failed g c =
    untaken c.in-Ok.broke _
    (rw c.div_ceil.ensures at (rw c.blocks-2.ensures.count at (rw c.limit-limit.ensures at c.in-Ok.ensures.finds)))
    c.in-Err-write_as.ensures.failed
