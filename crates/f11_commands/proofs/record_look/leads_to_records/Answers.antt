use Rattle.f11_catalog.proofs.ListingLemmas.{reads-then}
use Rattle.f11_commands.proofs.LookingLemmas.{looks-of-volume}
use Rattle.f11_commands.proofs.record_look.leads_to_records.Goals as goal

pub returns-in-Ok-Ok-clause-told : goal.returns-in-Ok-Ok-clause-told
returns-in-Ok-Ok-clause-told g c =
    let both = rw c.in-Ok.is at c.in_ok-both.ensures.found in
    looks-of-volume _ _ _ _ _ _ _ both (rw c.in-Ok-Ok.field-0-is at c.in-Ok-Ok.ensures.told)

pub returns-in-Ok-Err-clause-none : goal.returns-in-Ok-Err-clause-none
returns-in-Ok-Err-clause-none g c =
    let both = rw c.in-Ok.is at c.in_ok-both.ensures.found in
    looks-of-volume _ _ _ _ _ _ _ both (rw c.in-Ok-Err.field-0-is at c.in-Ok-Err.ensures.refused)

pub returns-clause-failed : goal.returns-clause-failed
returns-clause-failed g c =
    let both = rw c.in-Ok.is at c.in_ok-both.ensures.found in
    reads-then (_, both.found.looked) c.in-Err-records_under.ensures.failed
