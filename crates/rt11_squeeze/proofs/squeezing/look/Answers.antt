use Rattle.rt11_squeeze.proofs.SqueezeLemmas.{unfound-early}
use Rattle.rt11_squeeze.proofs.squeezing.look.Goals as goal

pub returns-in-Err-clause-refused : goal.returns-in-Err-clause-refused
returns-in-Err-clause-refused g c =
    unfound-early g.D.Device.disk c.args.file.now c.in-Err.refusal c.args.volume.now c.find.new.self c.in-Err.ensures.answers
    c.requires.fresh c.in-Err.ensures.refused
