use Rattle.std.proofs.lemmas.Result.{IfErr-weaker}
use Rattle.f11_commands.specs.GetCommand.{untold}
use Rattle.f11_commands.proofs.get.write.write_image.Goals as goal

pub returns-clause-failed : goal.returns-clause-failed
returns-clause-failed g c =
    IfErr-weaker c.tell_zeros.result _ _
    (λ _ failed. untold c.in_ok-count.count _ (rw c.end_before-cut.ensures at c.in_ok-count.ensures.writes) failed)
    (rw c.end_before-cut.ensures at c.tell_zeros.ensures.failed)
