use Rattle.std.proofs.Common.{refl, sym, subst, List, ℕ}
use Rattle.f11_index.proofs.InUseLemmas.{in_use-slot}
use Rattle.f11_files.specs.Extending.Mark.{ClearsMark}
use Rattle.f11_files.specs.Structure.{index_in}
use Rattle.f11_files.proofs.Extending.Clear.{clear-order, clears-mark, clears-none, fails-clear, unclear-order}
use Rattle.f11_files.proofs.Finding.First.{place-within}
use Rattle.f11_files.proofs.Confining.Parts.{only-failed, only-wrote}
use Rattle.f11_files.proofs.structure.Structure.clear_mark.Goals as goal

pub returns-then-not-clear_contiguous-clause-clears : goal.returns-then-not-clear_contiguous-clause-clears
returns-then-not-clear_contiguous-clause-clears g c =
    let s = c.args.self.now in
    let old = g.D.Device.disk c.args.device.now in
    let none = c.if-not-clear_contiguous.true in
    subst (λ (b : List ℕ). ClearsMark s c.args.f c.args.first.now b old old) (sym (c.clear_contiguous.ensures.unchanged none))
    (clears-none s c.args.f c.args.first.now old c.requires.is_for c.requires.holds (c.clear_contiguous.ensures.none none))

pub lbn_of_header-requires-clause-slot : goal.lbn_of_header-requires-clause-slot
lbn_of_header-requires-clause-slot g c = in_use-slot (index_in c.args.self.now) c.args.f.number c.requires.holds.header.in_use

pub write-requires : goal.write-requires
write-requires g c =
    place-within c.args.self.now c.args.f.number _ _ _ c.requires.is_for c.requires.holds.header.in_use refl c.lbn_of_header.ensures

pub returns-in-Ok-clause-clears : goal.returns-in-Ok-clause-clears
returns-in-Ok-clause-clears g c =
    clears-mark c.args.self.now c.args.f c.args.first.now (g.D.Device.disk c.args.device.now) c.requires.is_for c.requires.holds
    c.requires.own _ (c.clear_contiguous.ensures.cleared c.if-not-clear_contiguous.false)
    _ _ c.lbn_of_header.ensures c.in-Ok.ensures.writes.ok

pub returns-in-Err-clause-failed : goal.returns-in-Err-clause-failed
returns-in-Err-clause-failed g c =
    fails-clear c.args.self.now c.args.f c.args.first.now (g.D.Device.disk c.args.device.now) c.requires.is_for c.requires.holds
    c.requires.own _ (c.clear_contiguous.ensures.cleared c.if-not-clear_contiguous.false)
    _ _ c.lbn_of_header.ensures c.in-Err.ensures.writes.err

pub returns-in-Ok-clause-confined : goal.returns-in-Ok-clause-confined
returns-in-Ok-clause-confined g c =
    only-wrote c.args.self.now c.args.f.number _ _ _ _ c.requires.holds.header.in_use c.lbn_of_header.ensures c.in-Ok.ensures.writes.ok
    (clear-order c.args.self.now c.args.f c.args.first.now (g.D.Device.disk c.args.device.now) c.requires.is_for c.requires.holds
    c.requires.own _ (c.clear_contiguous.ensures.cleared c.if-not-clear_contiguous.false)
    _ _ c.lbn_of_header.ensures c.in-Ok.ensures.writes.ok)

pub returns-in-Err-clause-confined : goal.returns-in-Err-clause-confined
returns-in-Err-clause-confined g c =
    only-failed c.args.self.now c.args.f.number _ _ _ _ c.requires.holds.header.in_use c.lbn_of_header.ensures c.in-Err.ensures.writes.err
    (unclear-order c.args.self.now c.args.f c.args.first.now (g.D.Device.disk c.args.device.now) c.requires.is_for c.requires.holds
    c.requires.own _ (c.clear_contiguous.ensures.cleared c.if-not-clear_contiguous.false)
    _ _ c.lbn_of_header.ensures c.in-Err.ensures.writes.err)
