use Rattle.std.proofs.Common.{◌≡◌, ◌+◌, ◌-◌, ℕ, Err, ap, arith}
use Rattle.f11_chain.proofs.AlongLemmas.{along-behind, end-behind, break-behind, damage-break}
use Rattle.f11_files.proofs.Removing.Kept.{keeps-none, keeps-some}
use Rattle.f11_files.proofs.Finding.Locate.{reads-first, fails-walk}
use Rattle.f11_files.proofs.Finding.Named.{is-file}
use Rattle.f11_files.proofs.structure.Structure.last_kept.Goals as goal

pub returns-then-to-eq0-clause-found : goal.returns-then-to-eq0-clause-found
returns-then-to-eq0-clause-found g c =
    keeps-none c.args.self.now c.args.f _ _ _ c.requires.is_for c.requires.own c.in_ok-read_first.ensures.found _ c.if-to-eq0.true

pub returns-in-Ok-clause-found : goal.returns-in-Ok-clause-found
returns-in-Ok-clause-found g c =
    keeps-some c.args.self.now c.args.f _ _ _ c.requires.is_for c.requires.own c.in_ok-read_first.ensures.found _ _ c.in-Ok.place _ _
    (omega (arith, c.if-to-eq0.false)) c.in-Ok.ensures.seeks (ap (λ (n : ℕ). n + 1) c.min.ensures)

pub returns-in-Err-clause-refused : goal.returns-in-Err-clause-refused
returns-in-Err-clause-refused g c =
    let old = g.D.Device.disk c.args.device.now in
    let found = c.in_ok-read_first.ensures.found in
    let first = reads-first _ _ _ _ _ found in
    let to : c.args.to - 1 + 1 ≡ c.args.to = omega (arith, c.if-to-eq0.false) in
    let seek = c.in-Err.ensures in
    rw c.refusal_for.ensures
    (fails-walk c.args.self.now c.args.f old _ c.requires.is_for (is-file _ _ _ _ c.requires.is_for found.holds) c.requires.own c.args.to
    c.in-Err.fault
    (λ is. rw to at (end-behind _ _ _ _ first.looked _ _ (seek.end (ap Err is))))
    (λ is. damage-break _ _ _ _ (break-behind _ _ _ _ first.looked _ (seek.damaged (ap Err is))))
    (λ is. along-behind _ _ _ _ first.looked _ _ (seek.failed (ap Err is))))
