use Rattle.std.proofs.Common.{Ok, Err, arith}
use Rattle.std.proofs.lemmas.Result.{err_from_is_err_and}
use Rattle.f11_flx.proofs.RtFiles.TargetLemmas.{fails-making, makes, transfers}
use Rattle.f11_flx.proofs.target.make_file.Goals as goal

pub returns-clause-made : goal.returns-clause-made
returns-clause-made g c =
    let e = c.in_ok-create.ensures in
    makes g.E.Device.disk c.args.rt.now c.create.new.self c.args.name.now c.args.blocks c.args.date _ (Ok tt) c.words.ensures.name
    (omega (arith, c.if-blocks-from.false, c.from.ensures)) e.answers e.went e.created

pub returns-in_err-create-clause-refused : goal.returns-in_err-create-clause-refused
returns-in_err-create-clause-refused g c =
    let e = c.in_err-create.ensures in
    let p = err_from_is_err_and c.from_residual.result c.from_residual.ensures.1 in rw (p.1, p.2)
    (fails-making g.E.Device.disk c.args.rt.now c.create.new.self c.args.name.now c.args.blocks _ _ (Err _)
    (omega (arith, c.if-blocks-from.false, c.from.ensures)) e.answers e.went e.refused e.kept)

pub returns-in_err-create-clause-went : goal.returns-in_err-create-clause-went
returns-in_err-create-clause-went g c =
    let p = err_from_is_err_and c.from_residual.result c.from_residual.ensures.1 in rw (p.1, p.2)
    (transfers _ c.in_err-create.ensures.went)
