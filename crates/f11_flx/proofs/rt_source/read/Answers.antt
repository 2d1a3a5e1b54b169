use Rattle.f11_flx.proofs.RtFiles.RtSourceLemmas.{fails-to-read-place, reads-place}
use Rattle.f11_flx.proofs.rt_source.read.Goals as goal

pub returns-clause-read : goal.returns-clause-read
returns-clause-read g c =
    reads-place g.E.Device.disk c.args.name.now c.args.place _ c.read.new.into c.read.result c.args.rt.now c.read.new.self c.read.array_long
    c.read.ensures.answers c.read.ensures.looked
    c.read.ensures.read

pub returns-clause-refused : goal.returns-clause-refused
returns-clause-refused g c =
    fails-to-read-place g.E.Device.disk c.args.name.now c.args.place _ c.read.result c.args.rt.now c.read.new.self c.read.ensures.answers
    c.read.ensures.looked c.read.ensures.refused
