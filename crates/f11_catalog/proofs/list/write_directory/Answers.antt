use Rattle.std.proofs.lemmas.Result.{IfErr-weaker, on_ok_weaker}
use Rattle.f11_catalog.proofs.LineLemmas.{breaks-behind}
use Rattle.f11_catalog.proofs.DirectoryLemmas.{directory-listed, no-directory}
use Rattle.f11_catalog.proofs.list.write_directory.Goals as goal

pub returns-in-Ok-Err-clause-writes : goal.returns-in-Ok-Err-clause-writes
returns-in-Ok-Err-clause-writes g c =
    no-directory _ _ _ _ _ _ _ _ _ _ (rw c.in-Ok-Err.field-0-is at c.in-Ok-Err.ensures.refused)

pub returns-clause-writes : goal.returns-clause-writes
returns-clause-writes g c =
    on_ok_weaker c.write_records.result
    (directory-listed _ _ _ _ _ _ _ _ _ _ _ _ _ _ (rw c.in-Ok-Ok.field-0-is at c.in-Ok-Ok.ensures.opens) c.index_by-by.ensures
    c.in-Ok.ensures.bytes)
    c.write_records.ensures.writes

pub returns-clause-failed : goal.returns-clause-failed
returns-clause-failed g c =
    let opens = rw c.in-Ok-Ok.field-0-is at c.in-Ok-Ok.ensures.opens in
    IfErr-weaker c.write_records.result _ _ (λ fault. breaks-behind fault _ _ _ (_, opens.looked)) c.write_records.ensures.failed
