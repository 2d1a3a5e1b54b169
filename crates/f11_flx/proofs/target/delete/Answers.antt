use Rattle.f11_flx.proofs.RtFiles.TargetLemmas.{deletes, fails-deleting}
use Rattle.f11_flx.proofs.target.delete.Goals as goal

pub returns-clause-deleted : goal.returns-clause-deleted
returns-clause-deleted g c =
    deletes g.E.Device.disk c.args.rt.now c.delete.new.self c.args.name.now _ c.delete.result c.delete.ensures.answers
    c.delete.ensures.went c.delete.ensures.deleted

pub returns-clause-refused : goal.returns-clause-refused
returns-clause-refused g c =
    fails-deleting g.E.Device.disk c.args.rt.now c.delete.new.self c.args.name.now _ _ c.delete.result c.delete.ensures.answers
    c.delete.ensures.went c.delete.ensures.refused c.delete.ensures.kept
