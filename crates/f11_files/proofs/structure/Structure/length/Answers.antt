use Rattle.std.proofs.Common.{Err, ap}
use Rattle.f11_chain.proofs.AlongLemmas.{along-behind, break-behind, last-behind}
use Rattle.f11_files.proofs.Finding.Locate.{reads-first, fails-last, counts-last}
use Rattle.f11_files.proofs.Bounded.{bounded-behind, bounded-fault}
use Rattle.f11_files.proofs.structure.Structure.length.Goals as goal

pub returns-in-Ok-clause-counts : goal.returns-in-Ok-clause-counts
returns-in-Ok-clause-counts g c =
    let found = c.in_ok-read_first.ensures.found in
    counts-last c.args.self.now c.args.f _ _ _ c.requires.is_for found.holds c.requires.own c.in-Ok.last _
    (last-behind _ _ _ _ found.looked _ _ _ c.in-Ok.ensures.reads)

pub returns-in-Err-clause-refused : goal.returns-in-Err-clause-refused
returns-in-Err-clause-refused g c =
    let found = c.in_ok-read_first.ensures.found in
    let first = reads-first _ _ _ _ _ found in
    let last = c.in-Err.ensures in
    rw c.refusal_for.ensures (fails-last c.args.self.now c.args.f _ _ _ c.requires.is_for found.holds c.in-Err.fault
    (λ is. last.no_end (ap Err is)) (λ is. break-behind _ _ _ _ first.looked _ (last.damaged (ap Err is)))
    (λ is. along-behind _ _ _ _ first.looked _ _ (last.failed (ap Err is))))

pub returns-in-Ok-clause-bounded : goal.returns-in-Ok-clause-bounded
returns-in-Ok-clause-bounded g c =
    bounded-behind _ _ (g.D.Device.disk c.args.device.now) _ _ c.in_ok-read_first.ensures.bounded 0 c.in-Ok.ensures.reads.looked

pub returns-in-Err-clause-bounded : goal.returns-in-Err-clause-bounded
returns-in-Err-clause-bounded g c =
    let last = c.in-Err.ensures in
    bounded-fault _ _ (g.D.Device.disk c.args.device.now) _ _ c.in_ok-read_first.ensures.bounded c.in-Err.fault
    (λ is. absurd (last.no_end (ap Err is)))
    (λ is. (last.damaged (ap Err is)).looked) (λ is. last.failed (ap Err is))
