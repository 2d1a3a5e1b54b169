use Rattle.std.proofs.Common.{◌≡◌, ◌+◌, ◌-◌, arith}
use Rattle.f11_chain.proofs.AlongLemmas.{break-first, damage-break, failed-first, handed-on, along-behind, end-behind, break-behind}
use Rattle.f11_chain.proofs.AlongLemmas.{seeks-behind}
use Rattle.f11_chain.proofs.AlongLemmas.{locates, damage-outside}
use Rattle.f11_chain.proofs.blocks.locate.Goals as goal

pub returns-in_err-first-clause-damaged : goal.returns-in_err-first-clause-damaged
returns-in_err-first-clause-damaged g c =
    λ is. damage-break _ _ _ _
    (break-first _ _ _ _ c.requires.slot.0 (c.in_err-first.ensures.damaged (handed-on _ _ _ c.from_residual.ensures.1 is)))

pub returns-in_err-first-clause-failed : goal.returns-in_err-first-clause-failed
returns-in_err-first-clause-failed g c =
    λ is. failed-first _ _ _ _ c.requires.slot.0 (c.in_err-first.ensures.failed (handed-on _ _ _ c.from_residual.ensures.1 is))

pub returns-in_err-place-clause-end : goal.returns-in_err-place-clause-end
returns-in_err-place-clause-end g c = λ is.
    let vbn : c.args.vbn - 1 + 1 ≡ c.args.vbn = omega (arith, c.requires.some) in
    rw vbn at (end-behind _ _ _ _ c.in_ok-first.ensures.reads.looked _ _
    (c.in_err-place.ensures.end (handed-on _ _ _ c.from_residual-in_err-place.ensures.1 is)))

pub returns-in_err-place-clause-damaged : goal.returns-in_err-place-clause-damaged
returns-in_err-place-clause-damaged g c = λ is.
    damage-break _ _ _ _ (break-behind _ _ _ _ c.in_ok-first.ensures.reads.looked _
    (c.in_err-place.ensures.damaged (handed-on _ _ _ c.from_residual-in_err-place.ensures.1 is)))

pub returns-in_err-place-clause-failed : goal.returns-in_err-place-clause-failed
returns-in_err-place-clause-failed g c = λ is.
    along-behind _ _ _ _ c.in_ok-first.ensures.reads.looked _ _
    (c.in_err-place.ensures.failed (handed-on _ _ _ c.from_residual-in_err-place.ensures.1 is))

pub returns-in-Some-clause-locates : goal.returns-in-Some-clause-locates
returns-in-Some-clause-locates g c =
    locates _ _ _ _ _ _ _ (seeks-behind _ _ _ _ c.in_ok-first.ensures.reads.looked _ _ _ _ c.in_ok-place.ensures.seeks) _
    (rw c.blocks-2.ensures.count at c.in-Some.ensures)

pub returns-in-None-clause-damaged : goal.returns-in-None-clause-damaged
returns-in-None-clause-damaged g c = λ _.
    damage-outside _ _ _ _ _ _ _ (seeks-behind _ _ _ _ c.in_ok-first.ensures.reads.looked _ _ _ _ c.in_ok-place.ensures.seeks)
    (rw c.blocks-2.ensures.count at c.in-None.ensures)
