use Rattle.std.proofs.Common.{Err, ap}
use Rattle.f11_chain.proofs.AlongLemmas.{along-behind, break-behind, last-behind}
use Rattle.f11_files.proofs.Finding.Locate.{reads-first, fails-last}
use Rattle.f11_files.proofs.structure.Structure.find_end.Goals as goal

pub returns-in-Err-clause-refused : goal.returns-in-Err-clause-refused
returns-in-Err-clause-refused g c =
    let found = c.in_ok-read_first.ensures.found in
    let first = reads-first _ _ _ _ _ found in
    let last = c.in-Err.ensures in
    rw c.refusal_for.ensures (fails-last c.args.self.now c.args.f _ _ _ c.requires.is_for found.holds c.in-Err.fault
    (λ is. last.no_end (ap Err is)) (λ is. break-behind _ _ _ _ first.looked _ (last.damaged (ap Err is)))
    (λ is. along-behind _ _ _ _ first.looked _ _ (last.failed (ap Err is))))

pub returns-in-Ok-clause-end : goal.returns-in-Ok-clause-end
returns-in-Ok-clause-end g c =
    let found = c.in_ok-read_first.ensures.found in
    record { holds = found.holds; ends = last-behind _ _ _ _ found.looked _ _ _ c.in-Ok.ensures.reads }
