use Rattle.std.proofs.lemmas.Result.{IfErr-weaker, on_ok_weaker}
use Rattle.f11_catalog.proofs.LineLemmas.{breaks-behind, no-file-line, out-of-use-line}
use Rattle.f11_catalog.proofs.record_line.write_out_of_use.Goals as goal

pub returns-in-Ok-Some-clause-writes : goal.returns-in-Ok-Some-clause-writes
returns-in-Ok-Some-clause-writes g c =
    on_ok_weaker c.write_found.result (λ writes.
    out-of-use-line _ _ _ _ _ _ _ _ c.in-Ok-Some.file _ _ (rw c.in-Ok-Some.field-0-is at c.in-Ok-Some.ensures.opens) writes)
    c.write_found.ensures.writes

pub returns-in-Ok-Some-clause-failed : goal.returns-in-Ok-Some-clause-failed
returns-in-Ok-Some-clause-failed g c =
    let opens = rw c.in-Ok-Some.field-0-is at c.in-Ok-Some.ensures.opens in
    IfErr-weaker c.write_found.result _ _ (λ fault breaks. breaks-behind fault _ _ _ (_, opens.looked) breaks) c.write_found.ensures.failed

pub returns-in-Ok-clause-writes : goal.returns-in-Ok-clause-writes
returns-in-Ok-clause-writes g c =
    no-file-line _ _ _ _ _ _ _ _ _ (rw c.in-Ok-None.field-0-is at c.in-Ok-None.ensures.none) c.in-Ok.ensures
