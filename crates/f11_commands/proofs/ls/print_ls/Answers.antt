use Rattle.std.proofs.lemmas.Result.{IfErr-weaker, IfOk-weaker}
use Rattle.f11_commands.proofs.AnyVolumeLemmas.{fails-behind-look}
use Rattle.f11_commands.proofs.LsLemmas.{judged-listing}
use Rattle.f11_commands.proofs.ls.print_ls.Goals as goal

pub returns-in-Ok-clause-lists : goal.returns-in-Ok-clause-lists
returns-in-Ok-clause-lists g c =
    IfOk-weaker c.list.result.1 _ _ (λ served all. judged-listing _ _ served _ _ _ _ _ _ _ c.in-Ok.ensures.told all) c.list.ensures.served

pub returns-in-Ok-clause-failed : goal.returns-in-Ok-clause-failed
returns-in-Ok-clause-failed g c =
    IfErr-weaker c.list.result.1 _ _
    (λ failure fails. fails-behind-look failure _ _ _ _ _ _ (_, c.in-Ok.ensures.told.looked.looked) fails) c.list.ensures.failed
