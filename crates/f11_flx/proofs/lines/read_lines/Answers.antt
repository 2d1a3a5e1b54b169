use Rattle.std.proofs.Common.{arith}
use Rattle.std.proofs.lemmas.Result.{err_from_is_err_and}
use Rattle.f11_making.specs.Asking.{Who, who_asks}
use Rattle.f11_flx.specs.Filling.{out_of}
use Rattle.f11_flx.proofs.FromRt.PassLemmas.{lines-fail, lines-few, lines-more, lines-none, lines-unread}
use Rattle.f11_flx.proofs.lines.read_lines.Goals as goal

pub loop-place-init : goal.loop-place-init
loop-place-init g c =
    let who : Who = who_asks c.args.by.now.task c.args.by.now.uic in
    record {
      held = lines-none g.S.Asked.service g.E.Device.disk who c.args.by.now.lun c.args.name.now c.args.lines.now (out_of c.args.out.now)
          c.args.rt.now c.args.service.now;
      room = omega (arith, c.requires.to);
    }

pub returns-in-Err-clause-fails : goal.returns-in-Err-clause-fails
returns-in-Err-clause-fails g c =
    let l = c.loop-place in
    let who : Who = who_asks c.args.by.now.task c.args.by.now.uic in
    lines-unread g.S.Asked.service g.E.Device.disk who c.args.by.now.lun c.args.name.now l.place c.args.many _ c.args.lines.now l.lines
    (out_of c.args.out.now) (out_of l.out) c.args.rt.now l.rt c.read.new.rt
    c.args.service.now l.service c.requires.place l.invariant.held c.in-Err.ensures.refused c.loop-place-test.true

pub write_lines-requires-clause-few : goal.write_lines-requires-clause-few
write_lines-requires-clause-few g c =
    let l = c.loop-place in
    let who : Who = who_asks c.args.by.now.task c.args.by.now.uic in
    lines-few g.S.Asked.service g.E.Device.disk who c.args.by.now.lun c.args.name.now l.place c.args.many c.read.new.into c.args.lines.now
    l.lines (out_of c.args.out.now) (out_of l.out) c.args.rt.now l.rt
    c.args.service.now l.service c.requires.begins c.requires.to c.requires.place l.invariant.held c.loop-place-test.true
    (omega (arith, c.ranges.many.fits)) c.in-Ok.ensures.read.size

pub returns-in_err-write_lines-clause-fails : goal.returns-in_err-write_lines-clause-fails
returns-in_err-write_lines-clause-fails g c =
    let l = c.loop-place in
    let who : Who = who_asks c.args.by.now.task c.args.by.now.uic in
    let p = err_from_is_err_and c.from_residual.result c.from_residual.ensures.1 in rw (p.1, p.2)
    (lines-fail g.S.Asked.service g.E.Device.disk who c.args.by.now.lun c.args.name.now _ l.place c.args.many c.read.new.into
    c.args.lines.now l.lines (out_of c.args.out.now) (out_of l.out) c.args.rt.now l.rt c.read.new.rt
    c.args.service.now l.service c.write_lines.new.service l.invariant.held c.in-Ok.ensures.read c.in_err-write_lines.ensures.fails
    c.loop-place-test.true)

pub loop-place-preserved : goal.loop-place-preserved
loop-place-preserved g c =
    let l = c.loop-place in
    let who : Who = who_asks c.args.by.now.task c.args.by.now.uic in
    record {
      held =
          lines-more g.S.Asked.service g.E.Device.disk who c.args.by.now.lun c.args.name.now l.place c.read.new.into c.args.lines.now
          l.lines c.write_lines.new.lines (out_of c.args.out.now) (out_of l.out) (out_of c.write_lines.new.out)
          c.args.rt.now l.rt c.read.new.rt c.args.service.now l.service c.write_lines.new.service l.invariant.held c.in-Ok.ensures.read
          c.in_ok-write_lines.ensures.writes;
      room = c.in_ok-write_lines.ensures.room;
    }
