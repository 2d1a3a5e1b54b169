use Rattle.std.proofs.Common.{◌≡◌, arith, subst}
use Rattle.std.proofs.lemmas.Result.{IfErr-weaker, IfOk-weaker, err_from_is_err_and}
use Rattle.f11_making.specs.Asking.{who_asks}
use Rattle.f11_flx.specs.Copies.{CopiesText, FailsToCopyText}
use Rattle.f11_flx.specs.Filling.{FailsToFinish, FinishesBlocks, out_of}
use Rattle.f11_flx.proofs.ToRt.CopiesLemmas.{TextSoFar, text-denied, text-fails, text-finishes, text-more, text-start, text-unfinished}
use Rattle.f11_flx.proofs.copies.copy_text.Goals as goal

pub loop-k-init : goal.loop-k-init
loop-k-init g c =
    text-start g.S.Asked.service g.T.Takes.took g.T.Takes.refused (who_asks c.args.by.now.task c.args.by.now.uic) c.args.by.now.lun
    c.args.name.now c.args.text
    (out_of c.new-out.result) c.args.service.now c.args.target.now c.new-out.ensures.place c.new-out.ensures.to c.requires.begins

pub returns-in-Err-clause-fails : goal.returns-in-Err-clause-fails
returns-in-Err-clause-fails g c =
    text-denied g.S.Asked.service g.T.Takes.took g.T.Takes.refused (who_asks c.args.by.now.task c.args.by.now.uic) c.args.by.now.lun
    c.args.name.now c.args.text
    c.loop-k.text c.loop-k.k c.args.count c.read.new.block (out_of c.loop-k.out) c.in-Err.refusal c.args.service.now c.loop-k.service
    c.read.new.service c.args.target.now c.loop-k.target
    c.loop-k.invariant c.in-Err.ensures.denied c.loop-k-test.true

pub returns-in_err-pour-clause-fails : goal.returns-in_err-pour-clause-fails
returns-in_err-pour-clause-fails g c =
    let p = err_from_is_err_and c.from_residual.result c.from_residual.ensures.1 in rw (p.1, p.2)
    (text-fails g.S.Asked.service g.T.Takes.took g.T.Takes.refused (who_asks c.args.by.now.task c.args.by.now.uic) c.args.by.now.lun
    c.args.name.now c.args.text
    c.loop-k.text c.loop-k.k c.read.new.block (out_of c.loop-k.out) c.args.service.now c.loop-k.service c.read.new.service c.args.target.now
    c.loop-k.target
    c.loop-k.invariant c.in-Ok.ensures.granted c.read.ensures.size c.args.count _ c.pour.new.target c.loop-k-test.true
    c.in_err-pour.ensures.fails)

pub loop-k-preserved : goal.loop-k-preserved
loop-k-preserved g c =
    text-more g.S.Asked.service g.T.Takes.took g.T.Takes.refused (who_asks c.args.by.now.task c.args.by.now.uic) c.args.by.now.lun
    c.args.name.now c.args.text
    c.loop-k.text c.loop-k.k c.read.new.block (out_of c.loop-k.out) c.args.service.now c.loop-k.service c.read.new.service c.args.target.now
    c.loop-k.target
    c.loop-k.invariant c.in-Ok.ensures.granted c.read.ensures.size c.pour.new.text (out_of c.pour.new.out) c.pour.new.target
    c.in_ok-pour.ensures.pours c.in_ok-pour.ensures.room

pub returns-clause-copied : goal.returns-clause-copied
returns-clause-copied g c =
    let who = who_asks c.args.by.now.task c.args.by.now.uic in
    let all : c.loop-k.k ≡ c.args.count = omega (arith, c.loop-k.auto.k-end, c.loop-k-test.false) in
    let h = subst (λ k. TextSoFar g.S.Asked.service g.T.Takes.took who c.args.by.now.lun c.args.name.now c.args.text c.loop-k.text k
    (out_of c.loop-k.out) c.args.service.now c.loop-k.service c.args.target.now c.loop-k.target) all c.loop-k.invariant in
    IfOk-weaker c.finish.result
    (λ blocks. FinishesBlocks g.T.Takes.took c.args.name.now (out_of c.loop-k.out) blocks c.loop-k.target c.finish.new.target)
    (λ blocks. CopiesText g.S.Asked.service g.T.Takes.took who c.args.by.now.lun c.args.name.now c.args.text c.args.count blocks
    c.args.service.now c.loop-k.service c.args.target.now c.finish.new.target)
    (λ blocks f. text-finishes g.S.Asked.service g.T.Takes.took g.T.Takes.refused who c.args.by.now.lun c.args.name.now c.args.text
    c.loop-k.text c.args.count (out_of c.loop-k.out) c.args.service.now c.loop-k.service c.args.target.now c.loop-k.target h
    c.requires.whole c.finish.ensures.size blocks c.finish.new.target f)
    c.finish.ensures.finishes

pub returns-clause-fails : goal.returns-clause-fails
returns-clause-fails g c =
    let who = who_asks c.args.by.now.task c.args.by.now.uic in
    let all : c.loop-k.k ≡ c.args.count = omega (arith, c.loop-k.auto.k-end, c.loop-k-test.false) in
    let h = subst (λ k. TextSoFar g.S.Asked.service g.T.Takes.took who c.args.by.now.lun c.args.name.now c.args.text c.loop-k.text k
    (out_of c.loop-k.out) c.args.service.now c.loop-k.service c.args.target.now c.loop-k.target) all c.loop-k.invariant in
    IfErr-weaker c.finish.result
    (λ e. FailsToFinish g.T.Takes.refused c.args.name.now (out_of c.loop-k.out) e c.loop-k.target c.finish.new.target)
    (λ e. FailsToCopyText g.S.Asked.service g.T.Takes.took g.T.Takes.refused who c.args.by.now.lun c.args.name.now c.args.text c.args.count
    e c.args.service.now c.loop-k.service c.args.target.now c.finish.new.target)
    (λ e f. text-unfinished g.S.Asked.service g.T.Takes.took g.T.Takes.refused who c.args.by.now.lun c.args.name.now c.args.text
    c.loop-k.text c.args.count (out_of c.loop-k.out) c.args.service.now c.loop-k.service c.args.target.now c.loop-k.target h
    c.requires.whole c.finish.ensures.size e c.finish.new.target f)
    c.finish.ensures.refused
