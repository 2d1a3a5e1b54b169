use Rattle.std.proofs.Common.{arith, refl}
use Rattle.f11_making.specs.Asking.{Who, who_asks}
use Rattle.f11_flx.specs.Filling.{Out, out_of}
use Rattle.f11_flx.proofs.FromRt.PassLemmas.{flush-last}
use Rattle.f11_flx.proofs.lines.flush.Goals as goal

pub returns-clause-flushes : goal.returns-clause-flushes
returns-clause-flushes g c =
    let who : Who = who_asks c.args.by.now.task c.args.by.now.uic in
    let p : Out = record { block = c.clear.new.block; to = c.args.out.now.to; place = c.args.out.now.place } in
    flush-last g.S.Asked.service who c.args.by.now.lun (out_of c.args.out.now) p (out_of c.give.new.out) _ c.args.service.now
    c.give.new.service c.give.ensures.size (omega (arith, c.if-out-eq0.false)) c.requires.room
    c.clear.ensures refl refl c.in_ok-give.ensures.written
