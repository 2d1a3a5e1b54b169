use Rattle.std.proofs.lemmas.Result.{IfErr-weaker, IfOk-weaker}
use Rattle.f11_commands.proofs.AllLemmas.{all-behind, not-begun-behind}
use Rattle.f11_commands.proofs.AnyVolumeLemmas.{fault-behind, verified-first}
use Rattle.f11_commands.proofs.get.all.begin.begin_all.Goals as goal

pub returns-in-Ok-clause-begins : goal.returns-in-Ok-clause-begins
returns-in-Ok-clause-begins g c =
    let tells = c.in-Ok.ensures.told in
    IfOk-weaker c.begin.result _ _ (λ all is.
    (is.0, verified-first _ _ _ _ tells is.1, is.2, all-behind _ _ _ (_, tells.looked.looked) _ _ _ _ _ is.3))
    c.begin.ensures.begins

pub returns-in-Ok-clause-told : goal.returns-in-Ok-clause-told
returns-in-Ok-clause-told g c =
    let tells = c.in-Ok.ensures.told in
    IfErr-weaker c.begin.result _ _ (λ told so. IfOk-weaker told.1 _ _ (λ served is.
    (verified-first _ _ _ _ tells is.0, fault-behind _ _ _ _ _ _ _ (_, tells.looked.looked) is.1)) so)
    c.begin.ensures.told

pub returns-in-Ok-clause-failed : goal.returns-in-Ok-clause-failed
returns-in-Ok-clause-failed g c =
    IfErr-weaker c.begin.result _ _ (λ told so. IfErr-weaker told.1 _ _ (λ failure fails.
    not-begun-behind _ _ _ (_, c.in-Ok.ensures.told.looked.looked) failure _ _ fails) so)
    c.begin.ensures.failed
