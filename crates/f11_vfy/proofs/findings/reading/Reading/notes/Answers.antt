use Rattle.f11_vfy.proofs.Scanning.Exact.{notes-found, all-notes}
use Rattle.f11_vfy.proofs.findings.reading.Reading.notes.Goals as goal

pub returns : goal.returns
returns c = record {
  exact = λ image v is. all-notes v c.args.self.now is image _ (notes-found v c.args.self.now is _ _ _ _ _
      (rw c.new-found.ensures at c.in_ok-add_lost.ensures) (rw c.deref.ensures.value at c.in_ok-add_headers.ensures)
      (rw c.deref-2.ensures.value at c.in_ok-add_headers-2.ensures)
      (rw c.deref-3.ensures.value at c.in_ok-add_headers-3.ensures) (rw c.deref-4.ensures.value at c.in_ok-add_headers-4.ensures));
}
