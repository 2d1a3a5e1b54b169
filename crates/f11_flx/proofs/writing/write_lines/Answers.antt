use Rattle.std.proofs.Common.{◌≡◌, drop, arith, refl}
use Rattle.std.proofs.lemmas.List.{take_rest}
use Rattle.f11_making.specs.Asking.{Who, who_asks}
use Rattle.f11_flx.specs.Filling.{Out, out_of}
use Rattle.f11_flx.proofs.Texts.WritingLemmas.{fewer-to-come, within-more, writes-ends-at, writes-few-blocks, writes-gave, writes-read}
use Rattle.f11_flx.proofs.Texts.WritingLemmas.{writes-refused}
use Rattle.f11_flx.proofs.writing.write_lines.Goals as goal

pub returns-then-out-lt-BLOCK_SIZE-clause-writes : goal.returns-then-out-lt-BLOCK_SIZE-clause-writes
returns-then-out-lt-BLOCK_SIZE-clause-writes g c =
    let l = c.loop-read in
    let who : Who = who_asks c.args.by.now.task c.args.by.now.uic in
    let o : Out = record { block = c.convert.new.target; to = c.in-Ok.to; place = l.out.place } in
    let e = rw (take_rest c.args.source.now l.used) at c.in-Ok.ensures in
    let now = writes-read g.S.Asked.service who c.args.by.now.lun c.args.lines.now l.lines c.convert.new.self c.args.source.now l.used
    c.in-Ok.read _ (out_of c.args.out.now) (out_of l.out) o c.args.service.now l.service l.invariant.held e.converts e.puts refl refl in
    writes-ends-at g.S.Asked.service who c.args.by.now.lun c.args.lines.now c.convert.new.self c.args.source.now l.used c.in-Ok.read
    (out_of c.args.out.now) o c.args.service.now l.service now e.stops l.invariant.within c.if-out-lt-BLOCK_SIZE.true

pub give-requires : goal.give-requires
give-requires g c =
    let l = c.loop-read in
    let who : Who = who_asks c.args.by.now.task c.args.by.now.uic in
    writes-few-blocks g.S.Asked.service who c.args.by.now.lun c.args.lines.now l.lines c.args.source.now (drop l.used c.args.source.now)
    (out_of c.args.out.now) (out_of l.out) c.args.service.now l.service l.invariant.held c.requires.few

pub loop-read-smaller : goal.loop-read-smaller
loop-read-smaller g c =
    let l = c.loop-read in
    let e = rw (take_rest c.args.source.now l.used) at c.in-Ok.ensures in
    fewer-to-come l.lines c.convert.new.self c.args.source.now l.used c.in-Ok.read _ c.convert.new.target l.out.to c.in-Ok.to e.converts
    (omega (arith, e.room, c.if-out-lt-BLOCK_SIZE.false)) c.give.ensures.size l.invariant.room refl

pub loop-read-preserved : goal.loop-read-preserved
loop-read-preserved g c =
    let l = c.loop-read in
    let who : Who = who_asks c.args.by.now.task c.args.by.now.uic in
    let o : Out = record { block = c.convert.new.target; to = c.in-Ok.to; place = l.out.place } in
    let e = rw (take_rest c.args.source.now l.used) at c.in-Ok.ensures in
    let full : c.in-Ok.to ≡ 512 = omega (arith, e.room, c.if-out-lt-BLOCK_SIZE.false) in
    let now = writes-read g.S.Asked.service who c.args.by.now.lun c.args.lines.now l.lines c.convert.new.self c.args.source.now l.used
    c.in-Ok.read _ (out_of c.args.out.now) (out_of l.out) o c.args.service.now l.service l.invariant.held e.converts e.puts refl refl in
    record {
      held = writes-gave g.S.Asked.service who c.args.by.now.lun c.args.lines.now c.convert.new.self c.args.source.now _
          (out_of c.args.out.now) o (out_of c.give.new.out) c.args.service.now l.service c.give.new.service now c.in-Ok-give.ensures.written
          full c.give.ensures.size;
      room = omega (arith, c.in-Ok-give.ensures.written.empty);
      within = within-more c.args.source.now l.used c.in-Ok.read l.invariant.within e.converts.within;
    }

pub returns-in-Err-give-clause-fails : goal.returns-in-Err-give-clause-fails
returns-in-Err-give-clause-fails g c =
    let l = c.loop-read in
    let who : Who = who_asks c.args.by.now.task c.args.by.now.uic in
    let o : Out = record { block = c.convert.new.target; to = c.in-Ok.to; place = l.out.place } in
    let e = rw (take_rest c.args.source.now l.used) at c.in-Ok.ensures in
    let full : c.in-Ok.to ≡ 512 = omega (arith, e.room, c.if-out-lt-BLOCK_SIZE.false) in
    let now = writes-read g.S.Asked.service who c.args.by.now.lun c.args.lines.now l.lines c.convert.new.self c.args.source.now l.used
    c.in-Ok.read _ (out_of c.args.out.now) (out_of l.out) o c.args.service.now l.service l.invariant.held e.converts e.puts refl refl in
    writes-refused g.S.Asked.service who c.args.by.now.lun c.args.lines.now c.convert.new.self c.args.source.now _ (out_of c.args.out.now) o
    _ c.args.service.now l.service c.give.new.service now full c.give.ensures.size c.in-Err-give.ensures.refused
