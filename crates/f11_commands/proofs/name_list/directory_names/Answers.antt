use Rattle.f11_commands.proofs.LookingLemmas.{failure-handed, looks-fail, looks-of-volume}
use Rattle.f11_commands.proofs.name_list.directory_names.Goals as goal

pub returns-in_err-names-clause-failed : goal.returns-in_err-names-clause-failed
returns-in_err-names-clause-failed g c =
    let both = rw c.in-Ok.is at c.in_ok-both.ensures.found in
    failure-handed c.from_residual-in_err-names.result _ _ _ c.from_residual-in_err-names.ensures.1
    (looks-fail _ _ _ _ (_, both.found.looked) c.in_err-names.ensures.failed)

pub returns-in-Ok-2-clause-told : goal.returns-in-Ok-2-clause-told
returns-in-Ok-2-clause-told g c =
    let both = rw c.in-Ok.is at c.in_ok-both.ensures.found in
    looks-of-volume _ _ _ _ _ _ _ both (rw c.in-Ok-2.is at c.in_ok-names.ensures.told)

pub returns-clause-none : goal.returns-clause-none
returns-clause-none g c =
    let both = rw c.in-Ok.is at c.in_ok-both.ensures.found in
    looks-of-volume _ _ _ _ _ _ _ both (rw c.in-Err-2.is at c.in_ok-names.ensures.refused)
