use Rattle.std.proofs.Common.{◌≡◌, ◌+◌, ◌-◌, ap, Err, arith}
use Rattle.f11_chain.proofs.AlongLemmas.{along-behind, end-behind, break-behind, damage-break, seeks-behind}
use Rattle.f11_files.proofs.Bounded.{bounded-behind, bounded-fault}
use Rattle.f11_files.proofs.Finding.Locate.{fails-walk}
use Rattle.f11_files.proofs.Finding.Named.{is-file}
use Rattle.f11_files.proofs.structure.Structure.reach_first.Goals as goal

pub returns-in-Ok-clause-reached : goal.returns-in-Ok-clause-reached
returns-in-Ok-clause-reached g c =
    let found = c.in_ok-read_first.ensures.found in
    record {
      there = is-file c.args.self.now c.args.f _ _ c.requires.is_for found.holds;
      seeks = seeks-behind _ _ _ _ found.looked _ _ _ _ c.in-Ok.ensures.seeks;
    }

pub returns-in-Err-clause-refused : goal.returns-in-Err-clause-refused
returns-in-Err-clause-refused g c =
    let old = g.D.Device.disk c.args.device.now in
    let found = c.in_ok-read_first.ensures.found in
    let vbn : c.args.vbn - 1 + 1 ≡ c.args.vbn = omega (arith, c.requires.some) in
    let seek = c.in-Err.ensures in
    rw c.refusal_for.ensures
    (fails-walk c.args.self.now c.args.f old _ c.requires.is_for (is-file c.args.self.now c.args.f _ _ c.requires.is_for found.holds)
    c.requires.own c.args.vbn c.in-Err.fault
    (λ is. rw vbn at (end-behind _ _ _ _ found.looked _ _ (seek.end (ap Err is))))
    (λ is. damage-break _ _ _ _ (break-behind _ _ _ _ found.looked _ (seek.damaged (ap Err is))))
    (λ is. along-behind _ _ _ _ found.looked _ _ (seek.failed (ap Err is))))

pub returns-in-Ok-clause-bounded : goal.returns-in-Ok-clause-bounded
returns-in-Ok-clause-bounded g c =
    bounded-behind _ _ (g.D.Device.disk c.args.device.now) _ _ c.in_ok-read_first.ensures.bounded 0 c.in-Ok.ensures.seeks.looked

pub returns-in-Err-clause-bounded : goal.returns-in-Err-clause-bounded
returns-in-Err-clause-bounded g c =
    let seek = c.in-Err.ensures in
    bounded-fault _ _ (g.D.Device.disk c.args.device.now) _ _ c.in_ok-read_first.ensures.bounded c.in-Err.fault
    (λ is. (seek.end (ap Err is)).looked)
    (λ is. (seek.damaged (ap Err is)).looked) (λ is. seek.failed (ap Err is))
