use Rattle.f11_vfy.proofs.Directory.Walk.{known-taken, read-taken}
use Rattle.f11_vfy.proofs.directories.gathered.Gathered.take_at.Goals as goal

pub returns-then-is_in-clause-takes : goal.returns-then-is_in-clause-takes
returns-then-is_in-clause-takes g c =
    known-taken c.args.slots.now c.args.dir c.args.at c.args.lbn (g.D.Device.disk c.args.device.now) c.args.self.now
    (c.is_in.ensures.0 c.if-is_in.true).1

pub returns-clause-takes : goal.returns-clause-takes
returns-clause-takes g c =
    read-taken c.args.slots.now c.args.dir c.args.at c.args.lbn (g.D.Device.disk c.args.device.now) c.read.new.into c.args.self.now
    c.take_block.new.self c.add_blank.new.blank c.in_ok-read.ensures.reads.gives c.in_ok-take_block.ensures c.add_blank.ensures
