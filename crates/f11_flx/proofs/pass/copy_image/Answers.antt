use Rattle.std.proofs.Common.{arith, subst, ap, ◌≡◌, ◌+◌}
use Rattle.f11_making.specs.Asking.{Who, who_asks}
use Rattle.f11_flx.specs.Passes.{CopiesImage}
use Rattle.f11_flx.proofs.FromRt.PassedLemmas.{image-copies, image-more, image-refused, image-stops}
use Rattle.f11_flx.proofs.pass.copy_image.Goals as goal

pub returns-in-Err-clause-fails : goal.returns-in-Err-clause-fails
returns-in-Err-clause-fails g c =
    let l = c.loop-place in
    let who : Who = who_asks c.args.by.now.task c.args.by.now.uic in
    image-stops g.S.Asked.service g.E.Device.disk who c.args.by.now.lun c.args.name.now c.args.many l.place c.in-Err.refusal
    c.args.rt.now l.rt c.read.new.rt c.args.service.now l.service l.invariant c.in-Err.ensures.refused c.loop-place-test.true

pub returns-in-Err-write-clause-fails : goal.returns-in-Err-write-clause-fails
returns-in-Err-write-clause-fails g c =
    let l = c.loop-place in
    let who : Who = who_asks c.args.by.now.task c.args.by.now.uic in
    image-refused g.S.Asked.service g.E.Device.disk who c.args.by.now.lun c.args.name.now c.args.many l.place _ c.read.new.into _
    c.args.rt.now l.rt c.read.new.rt c.args.service.now l.service c.write.new.service
    l.invariant c.in-Ok.ensures.read (ap (λ n. n + 1) c.from.ensures) c.in-Err-write.ensures.denied

pub loop-place-preserved : goal.loop-place-preserved
loop-place-preserved g c =
    let l = c.loop-place in
    let who : Who = who_asks c.args.by.now.task c.args.by.now.uic in
    image-more g.S.Asked.service g.E.Device.disk who c.args.by.now.lun c.args.name.now l.place _ c.read.new.into c.args.rt.now l.rt
    c.read.new.rt c.args.service.now l.service c.write.new.service
    l.invariant c.in-Ok.ensures.read (ap (λ n. n + 1) c.from.ensures) c.in-Ok-write.ensures.granted

pub returns-clause-copied : goal.returns-clause-copied
returns-clause-copied g c =
    let l = c.loop-place in
    let who : Who = who_asks c.args.by.now.task c.args.by.now.uic in
    let all : l.place ≡ c.args.many = omega (arith, c.loop-place-test.false, l.auto.place-end) in
    image-copies g.S.Asked.service g.E.Device.disk who c.args.by.now.lun c.args.name.now c.args.many c.args.rt.now l.rt c.args.service.now
    l.service
    (subst (λ n. CopiesImage g.S.Asked.service g.E.Device.disk who c.args.by.now.lun c.args.name.now n c.args.rt.now l.rt c.args.service.now
    l.service) all l.invariant)
