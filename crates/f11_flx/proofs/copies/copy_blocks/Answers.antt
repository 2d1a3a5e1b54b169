use Rattle.std.proofs.lemmas.Result.{err_from_is_err_and}
use Rattle.f11_making.specs.Asking.{who_asks}
use Rattle.f11_flx.proofs.ToRt.CopiesLemmas.{blocks-denied, blocks-more, blocks-refused, blocks-start}
use Rattle.f11_flx.proofs.copies.copy_blocks.Goals as goal

pub loop-k-init : goal.loop-k-init
loop-k-init g c =
    blocks-start g.S.Asked.service g.T.Takes.took g.T.Takes.refused (who_asks c.args.by.now.task c.args.by.now.uic) c.args.by.now.lun
    c.args.name.now c.args.service.now c.args.target.now

pub returns-in-Err-clause-fails : goal.returns-in-Err-clause-fails
returns-in-Err-clause-fails g c =
    blocks-denied g.S.Asked.service g.T.Takes.took g.T.Takes.refused (who_asks c.args.by.now.task c.args.by.now.uic) c.args.by.now.lun
    c.args.name.now c.loop-k.k
    c.args.count c.read.new.block c.in-Err.refusal c.args.service.now c.loop-k.service c.read.new.service c.args.target.now c.loop-k.target
    c.loop-k.invariant c.in-Err.ensures.denied c.loop-k-test.true

pub returns-in_err-take-clause-fails : goal.returns-in_err-take-clause-fails
returns-in_err-take-clause-fails g c =
    let p = err_from_is_err_and c.from_residual.result c.from_residual.ensures.1 in rw (p.1, p.2)
    (blocks-refused g.S.Asked.service g.T.Takes.took g.T.Takes.refused (who_asks c.args.by.now.task c.args.by.now.uic) c.args.by.now.lun
    c.args.name.now c.loop-k.k
    c.args.count c.read.new.block _ c.args.service.now c.loop-k.service c.read.new.service c.args.target.now
    c.loop-k.target c.take.new.self c.loop-k.invariant
    c.in-Ok.ensures.granted c.in_err-take.ensures.refused c.loop-k-test.true)

pub loop-k-preserved : goal.loop-k-preserved
loop-k-preserved g c =
    blocks-more g.S.Asked.service g.T.Takes.took g.T.Takes.refused (who_asks c.args.by.now.task c.args.by.now.uic) c.args.by.now.lun
    c.args.name.now c.loop-k.k
    c.read.new.block c.args.service.now c.loop-k.service c.read.new.service c.args.target.now c.loop-k.target c.take.new.self
    c.loop-k.invariant
    c.in-Ok.ensures.granted c.in_ok-take.ensures.took c.read.ensures.size
