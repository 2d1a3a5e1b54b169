use Rattle.std.proofs.lemmas.Result.{err_from_is_err_and}
use Rattle.f11_flx.proofs.RtFiles.RtSourceLemmas.{finds-file, finds-no-file}
use Rattle.f11_flx.proofs.rt_source.find.Goals as goal

pub returns-clause-found : goal.returns-clause-found
returns-clause-found g c =
    let e = rw c.in_ok-blocks.was at c.find.ensures in
    finds-file g.E.Device.disk c.args.name.now _ _ _ c.args.rt.now c.find.new.self e.answers e.looked e.found
    (g.met.E.Device.is_image c.args.rt.now.device)

pub returns-in_err-blocks-clause-refused : goal.returns-in_err-blocks-clause-refused
returns-in_err-blocks-clause-refused g c =
    let e = rw c.in_err-blocks.was at c.find.ensures in
    let p = err_from_is_err_and c.from_residual.result c.from_residual.ensures.1 in rw (p.1, p.2)
    (finds-no-file g.E.Device.disk c.args.name.now _ _ c.args.rt.now c.find.new.self e.answers e.looked e.refused)
