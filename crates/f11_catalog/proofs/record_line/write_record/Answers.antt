use Rattle.std.proofs.lemmas.Result.{IfErr-weaker, on_ok_weaker}
use Rattle.f11_catalog.proofs.LineLemmas.{breaks-behind, empty-line, found-line, other-line}
use Rattle.f11_catalog.proofs.record_line.write_record.Goals as goal

pub returns-then-is_empty-clause-writes : goal.returns-then-is_empty-clause-writes
returns-then-is_empty-clause-writes g c = λ bytes is.
    empty-line bytes _ is _ _ _ _ _ _ _ c.is_empty.ensures c.if-is_empty.true

pub returns-in-Ok-Some-clause-writes : goal.returns-in-Ok-Some-clause-writes
returns-in-Ok-Some-clause-writes g c =
    on_ok_weaker c.write_found.result (λ writes bytes is.
    found-line bytes _ is _ _ _ _ _ _ c.is_empty.ensures c.if-is_empty.false c.name-name.ensures _ _ _ _ _ c.in-Ok-Some.file
    (rw c.in-Ok-Some.field-0-is at c.in-Ok-Some.ensures.opens) writes) c.write_found.ensures.writes

pub returns-in-Ok-Some-clause-failed : goal.returns-in-Ok-Some-clause-failed
returns-in-Ok-Some-clause-failed g c =
    let opens = rw c.in-Ok-Some.field-0-is at c.in-Ok-Some.ensures.opens in
    IfErr-weaker c.write_found.result _ _ (λ fault breaks. breaks-behind fault _ _ _ (_, opens.looked) breaks) c.write_found.ensures.failed

pub returns-in-Ok-None-clause-writes : goal.returns-in-Ok-None-clause-writes
returns-in-Ok-None-clause-writes g c =
    on_ok_weaker c.write_out_of_use.result (λ writes bytes is.
    other-line bytes _ is _ _ _ _ _ _ c.is_empty.ensures c.if-is_empty.false c.name-name.ensures _ _ _ _ _
    (rw c.in-Ok-None.field-0-is at c.in-Ok-None.ensures.none) writes) c.write_out_of_use.ensures.writes

pub returns-in-Ok-None-clause-failed : goal.returns-in-Ok-None-clause-failed
returns-in-Ok-None-clause-failed g c =
    let none = rw c.in-Ok-None.field-0-is at c.in-Ok-None.ensures.none in
    IfErr-weaker c.write_out_of_use.result _ _ (λ fault breaks. breaks-behind fault _ _ _ (_, none.looked) breaks)
    c.write_out_of_use.ensures.failed
