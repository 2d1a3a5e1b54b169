use Rattle.std.proofs.lemmas.Result.{on_ok_weaker}
use Rattle.f11_vfy.proofs.Directory.Judging.{knows-nexts, keeps-table}
use Rattle.f11_vfy.proofs.Scanning.Contiguous.{last-found}
use Rattle.f11_vfy.proofs.findings.reading.Reading.add_last_notes.Goals as goal

pub returns : goal.returns
returns c =
    on_ok_weaker c.add_apart.result
    (λ found. λ image v is.
    last-found image v c.args.self.now is _ _ (found v.table (keeps-table v c.args.self.now is) (knows-nexts v c.args.self.now is)))
    (rw (c.deref.ensures.value, c.deref-2.ensures.value) at c.add_apart.ensures)
