use Rattle.f11_flx.proofs.RtFiles.TargetLemmas.{fails-putting, puts}
use Rattle.f11_flx.proofs.target.put.Goals as goal

pub returns-clause-put : goal.returns-clause-put
returns-clause-put g c =
    puts g.E.Device.disk c.args.rt.now c.write.new.self c.args.name.now c.args.place c.args.block.now _ c.write.result
    c.write.ensures.answers
    c.write.ensures.went c.write.ensures.written

pub returns-clause-refused : goal.returns-clause-refused
returns-clause-refused g c =
    fails-putting g.E.Device.disk c.args.rt.now c.write.new.self c.args.name.now c.args.place _ _ _ c.write.result c.write.ensures.answers
    c.write.ensures.went c.write.ensures.refused c.write.ensures.kept
