use Rattle.std.proofs.Common.{◌≡◌, ℕ, ◌+◌, ◌-◌, ap, subst, Err, arith}
use Rattle.f11_chain.specs.Calls.{FindsBreak, FindsEnd, LooksAlongFile, Seeks}
use Rattle.f11_files.specs.Structure.{index_in}
use Rattle.f11_chain.proofs.AlongLemmas.{damage-break}
use Rattle.f11_files.proofs.Finding.Locate.{fails-walk}
use Rattle.f11_files.proofs.Finding.Reached.{seen-at, seen-file}
use Rattle.f11_files.proofs.structure.Structure.reach_on.Goals as goal

pub seek_on-requires-clause-is_at : goal.seek_on-requires-clause-is_at
seek_on-requires-clause-is_at g c =
    seen-at c.args.self.now c.args.f c.args.vbn c.args.at.now _ c.requires.is_for c.requires.before c.requires.seen

pub returns-in-Ok-clause-reached : goal.returns-in-Ok-clause-reached
returns-in-Ok-clause-reached g c = record {
  there = seen-file c.args.self.now c.args.f c.args.vbn c.args.at.now _ c.requires.is_for c.requires.before c.requires.seen;
  seeks =
      subst (λ (n : ℕ). Seeks (index_in c.args.self.now) n 0 (c.args.vbn - 1) c.in-Ok.place c.seek_on.new.block
      (g.D.Device.disk c.args.device.now) (g.D.Device.disk c.seek_on.new.device)) c.requires.before.file c.in-Ok.ensures.seeks;
}

pub returns-in-Err-clause-refused : goal.returns-in-Err-clause-refused
returns-in-Err-clause-refused g c =
    let s = c.args.self.now in
    let old = g.D.Device.disk c.args.device.now in
    let new = g.D.Device.disk c.seek_on.new.device in
    let file = c.requires.before.file in
    let vbn : c.args.vbn - 1 + 1 ≡ c.args.vbn = omega (arith, c.requires.before.before) in
    let seek = c.in-Err.ensures in
    rw c.refusal_for.ensures
    (fails-walk s c.args.f old new c.requires.is_for
    (seen-file s c.args.f c.args.vbn c.args.at.now _ c.requires.is_for c.requires.before c.requires.seen) c.requires.own c.args.vbn
    c.in-Err.fault
    (λ is. rw vbn at (subst (λ (n : ℕ). FindsEnd (index_in s) n 0 (c.args.vbn - 1 + 1) old new) file (seek.end (ap Err is))))
    (λ is. damage-break _ _ _ _ (subst (λ (n : ℕ). FindsBreak (index_in s) n 0 old new) file (seek.damaged (ap Err is))))
    (λ is. subst (λ (n : ℕ). LooksAlongFile (index_in s) n 0 old new 1) file (seek.failed (ap Err is))))
