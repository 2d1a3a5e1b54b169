use Rattle.f11_bytes.proofs.ResultLemmas.{OnErr-given}
use Rattle.f11_catalog.proofs.ListingLemmas.{reads-then}
use Rattle.f11_commands.proofs.LookingLemmas.{looks-id, looks-no-id, looks-no-some, looks-refused, looks-some, looks-then}
use Rattle.f11_commands.proofs.record_look.records_under.Goals as goal

pub returns-in-Err-clause-refused : goal.returns-in-Err-clause-refused
returns-in-Err-clause-refused g c =
    looks-refused _ _ _ _ _ _ _ (looks-refused _ _ _ _ _ _ _ (looks-no-id _ _ _ _ _ _ _ (rw c.in-Err.is at c.in_ok-id.ensures.refused)))

pub returns-in_err-id-2-clause-failed : goal.returns-in_err-id-2-clause-failed
returns-in_err-id-2-clause-failed g c =
    let dir = rw c.in-Ok.is at c.in_ok-id.ensures.found in OnErr-given _ (reads-then dir.reads c.in_err-id-2.ensures.failed)

pub returns-in-Err-2-clause-refused : goal.returns-in-Err-2-clause-refused
returns-in-Err-2-clause-refused g c =
    let dir = rw c.in-Ok.is at c.in_ok-id.ensures.found in
    looks-refused _ _ _ _ _ _ _
    (looks-then _ _ _ _ _ _ _ _ _ (looks-id _ _ _ _ _ _ _ dir)
    (looks-no-id _ _ _ _ _ _ _ (rw c.in-Err-2.is at c.in_ok-id-2.ensures.refused)))

pub returns-in-Ok-Ok-clause-told : goal.returns-in-Ok-Ok-clause-told
returns-in-Ok-Ok-clause-told g c =
    let dir = rw c.in-Ok.is at c.in_ok-id.ensures.found in
    let id = rw c.in-Ok-2.is at c.in_ok-id-2.ensures.found in
    looks-then _ _ _ _ _ _ _ _ _ (looks-then _ _ _ _ _ _ _ _ _ (looks-id _ _ _ _ _ _ _ dir) (looks-id _ _ _ _ _ _ _ id))
    (looks-some _ _ _ _ _ _ (rw c.in-Ok-Ok.field-0-is at c.in-Ok-Ok.ensures.told))

pub returns-in-Ok-Err-clause-refused : goal.returns-in-Ok-Err-clause-refused
returns-in-Ok-Err-clause-refused g c =
    let dir = rw c.in-Ok.is at c.in_ok-id.ensures.found in
    let id = rw c.in-Ok-2.is at c.in_ok-id-2.ensures.found in
    looks-then _ _ _ _ _ _ _ _ _ (looks-then _ _ _ _ _ _ _ _ _ (looks-id _ _ _ _ _ _ _ dir) (looks-id _ _ _ _ _ _ _ id))
    (looks-no-some _ _ _ _ _ _ (rw c.in-Ok-Err.field-0-is at c.in-Ok-Err.ensures.refused))

pub returns-in-Err-has_records-clause-failed : goal.returns-in-Err-has_records-clause-failed
returns-in-Err-has_records-clause-failed g c =
    let dir = rw c.in-Ok.is at c.in_ok-id.ensures.found in
    let id = rw c.in-Ok-2.is at c.in_ok-id-2.ensures.found in
    reads-then dir.reads (reads-then id.reads c.in-Err-has_records.ensures.failed)
