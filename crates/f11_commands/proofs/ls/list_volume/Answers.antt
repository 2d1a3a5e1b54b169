use Rattle.std.proofs.lemmas.Result.{IfErr-weaker, IfOk-weaker}
use Rattle.f11_commands.proofs.LsLemmas.{fails-to-list, volume-lists}
use Rattle.f11_commands.proofs.ls.list_volume.Goals as goal

pub returns-in_ok-wide-in-Ok-clause-lists : goal.returns-in_ok-wide-in-Ok-clause-lists
returns-in_ok-wide-in-Ok-clause-lists g c =
    let found = rw c.in-Ok.is at c.in_ok-index.ensures.found in
    IfOk-weaker c.list_index.result _ _ (λ _ lists. volume-lists _ _ _ _ _ _ _ _ _ _ _ _ found c.in_ok-wide-in-Ok.ensures lists)
    c.list_index.ensures.lists

pub returns-in_ok-wide-in-Ok-clause-failed : goal.returns-in_ok-wide-in-Ok-clause-failed
returns-in_ok-wide-in-Ok-clause-failed g c =
    let found = rw c.in-Ok.is at c.in_ok-index.ensures.found in
    IfErr-weaker c.list_index.result _ _ (λ _ failed. fails-to-list _ _ _ _ _ _ _ (_, found.looked) failed)
    c.list_index.ensures.failed
