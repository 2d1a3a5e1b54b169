use Rattle.f11_catalog.proofs.NamesLemmas.{fails-to-name}
use Rattle.f11_commands.proofs.LookingLemmas.{looks-id, looks-names, looks-no-id, looks-no-names, looks-refused, looks-then}
use Rattle.f11_commands.proofs.name_list.names_under.Goals as goal

pub returns-in-Err-clause-refused : goal.returns-in-Err-clause-refused
returns-in-Err-clause-refused g c =
    looks-refused _ _ _ _ _ _ _ (looks-no-id _ _ _ _ _ _ _ (rw c.in-Err.is at c.in_ok-id.ensures.refused))

pub returns-in-Ok-Ok-clause-told : goal.returns-in-Ok-Ok-clause-told
returns-in-Ok-Ok-clause-told g c =
    let found = rw c.in-Ok.is at c.in_ok-id.ensures.found in
    looks-then _ _ _ _ _ _ _ _ _ (looks-id _ _ _ _ _ _ _ found)
    (looks-names _ _ _ _ _ _ (rw c.in-Ok-Ok.field-0-is at c.in-Ok-Ok.ensures.named))

pub returns-in-Ok-Err-clause-refused : goal.returns-in-Ok-Err-clause-refused
returns-in-Ok-Err-clause-refused g c =
    let found = rw c.in-Ok.is at c.in_ok-id.ensures.found in
    looks-then _ _ _ _ _ _ _ _ _ (looks-id _ _ _ _ _ _ _ found)
    (looks-no-names _ _ _ _ _ _ (rw c.in-Ok-Err.field-0-is at c.in-Ok-Err.ensures.refused))

pub returns-in-Err-names-clause-failed : goal.returns-in-Err-names-clause-failed
returns-in-Err-names-clause-failed g c =
    let found = rw c.in-Ok.is at c.in_ok-id.ensures.found in
    fails-to-name _ _ _ _ found.reads c.in-Err-names.ensures.failed
