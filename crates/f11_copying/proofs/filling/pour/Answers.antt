use Rattle.std.proofs.Common.{◌+◌, ◌-◌, arith}
use Rattle.f11_making.specs.Asking.{who_asks}
use Rattle.f11_copying.specs.Copies.{pours}
use Rattle.f11_copying.specs.Courses.{both}
use Rattle.f11_copying.proofs.CourseLemmas.{pour-ends, pour-none, pour-off, pour-on}
use Rattle.f11_copying.proofs.filling.pour.Goals as goal

pub returns-then-not-next : goal.returns-then-not-next
returns-then-not-next g c = record {
  runs = pour-none g.S.Asked.service g.B.Blocks.gives (who_asks c.args.by.now.task c.args.by.now.uic) c.args.by.now.lun c.loop-place.place
      (c.args.blocks - c.loop-place.place) (c.args.blocks - (c.loop-place.place + 1)) (pours c.args.by.now.lun 0 c.args.blocks)
      (both c.args.service.now c.args.source.now) c.loop-place.service c.loop-place.source c.next.new.self
      (omega (arith, c.loop-place-test.true)) c.loop-place.invariant (rw c.if-not-next.true at c.next.ensures.gives);
}

pub returns-in-Err : goal.returns-in-Err
returns-in-Err g c = record {
  runs = pour-off g.S.Asked.service g.B.Blocks.gives (who_asks c.args.by.now.task c.args.by.now.uic) c.args.by.now.lun c.loop-place.place
      (c.loop-place.place + 1) (c.args.blocks - c.loop-place.place) (c.args.blocks - (c.loop-place.place + 1)) c.next.new.block
      c.in-Err.refusal (pours c.args.by.now.lun 0 c.args.blocks) (both c.args.service.now c.args.source.now) c.loop-place.service
      c.write.new.service c.loop-place.source c.next.new.self (omega arith) (omega (arith, c.loop-place-test.true))
      c.loop-place.invariant (rw c.if-not-next.false at c.next.ensures.gives) c.in-Err.ensures.denied;
}

pub loop-place-preserved : goal.loop-place-preserved
loop-place-preserved g c =
    pour-on g.S.Asked.service g.B.Blocks.gives (who_asks c.args.by.now.task c.args.by.now.uic) c.args.by.now.lun c.loop-place.place
    (c.loop-place.place + 1) (c.args.blocks - c.loop-place.place) (c.args.blocks - (c.loop-place.place + 1)) c.next.new.block
    (pours c.args.by.now.lun 0 c.args.blocks) (both c.args.service.now c.args.source.now) c.loop-place.service c.write.new.service
    c.loop-place.source c.next.new.self (omega arith) (omega (arith, c.loop-place-test.true)) c.loop-place.invariant
    (rw c.if-not-next.false at c.next.ensures.gives) c.in-Ok.ensures.granted

pub returns : goal.returns
returns g c = record {
  runs = pour-ends g.S.Asked.service g.B.Blocks.gives (who_asks c.args.by.now.task c.args.by.now.uic) c.args.by.now.lun c.loop-place.place
      (c.args.blocks - c.loop-place.place) (pours c.args.by.now.lun 0 c.args.blocks) (both c.args.service.now c.args.source.now)
      (both c.loop-place.service c.loop-place.source) (omega (arith, c.loop-place-test.false)) c.loop-place.invariant;
}
