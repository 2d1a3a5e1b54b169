use Rattle.f11_vfy.proofs.Surveying.Common.{common-found}
use Rattle.f11_vfy.proofs.Scanning.Exact.{faults-found, all-faults}
use Rattle.f11_vfy.proofs.findings.reading.Reading.faults.Goals as goal

pub returns : goal.returns
returns c = record {
  exact = λ v is. all-faults v c.args.self.now is c.args.self.now.whole _ (faults-found v c.args.self.now is _ _ _ _ _ _ _ _
      (rw (c.new-found.ensures, c.deref.ensures.value) at c.in_ok-add_headers.ensures) c.in_ok-add_each.ensures c.in_ok-add_marked.ensures
      (common-found _ _ _ _ _ _ c.in_ok-named_free.ensures c.in_ok-add_marked-2.ensures)
      (rw c.deref-2.ensures.value at c.in_ok-add_headers-2.ensures) c.in_ok-add_marked-3.ensures
      (rw c.deref-3.ensures.value at c.in_ok-add_headers-3.ensures) (rw c.deref-4.ensures.value at c.in_ok-add_headers-4.ensures));
}
