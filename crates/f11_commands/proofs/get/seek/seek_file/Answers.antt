use Rattle.std.proofs.lemmas.Result.{IfErr-weaker, IfOk-weaker}
use Rattle.f11_commands.proofs.AnyVolumeLemmas.{verified-first}
use Rattle.f11_commands.proofs.GetLemmas.{sought-behind, unsought-behind, why-not-behind}
use Rattle.f11_commands.proofs.get.seek.seek_file.Goals as goal

pub returns-in-Ok-clause-found : goal.returns-in-Ok-clause-found
returns-in-Ok-clause-found g c =
    let tells = c.in-Ok.ensures.told in
    IfOk-weaker c.seek_verified.result _ _ (λ answer so. IfOk-weaker answer _ _ (λ found is.
    (is.0, verified-first _ _ _ _ tells is.1, sought-behind _ _ _ _ _ (_, tells.looked.looked) _ _ _ _ _ _ _ is.2)) so)
    c.seek_verified.ensures.found

pub returns-in-Ok-clause-none : goal.returns-in-Ok-clause-none
returns-in-Ok-clause-none g c =
    let tells = c.in-Ok.ensures.told in
    IfOk-weaker c.seek_verified.result _ _ (λ answer so. IfErr-weaker answer _ _ (λ told is.
    (verified-first _ _ _ _ tells is.0, why-not-behind _ _ _ _ _ (_, tells.looked.looked) _ _ _ _ _ is.1)) so)
    c.seek_verified.ensures.none

pub returns-in-Ok-clause-failed : goal.returns-in-Ok-clause-failed
returns-in-Ok-clause-failed g c =
    IfErr-weaker c.seek_verified.result _ _
    (λ failed fails. unsought-behind _ _ _ _ _ (_, c.in-Ok.ensures.told.looked.looked) failed.1 _ _ fails) c.seek_verified.ensures.failed
