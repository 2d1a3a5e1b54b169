use Rattle.std.proofs.Common.{refl}
use Rattle.std.proofs.lemmas.Result.{err_from_is_err_and}
use Rattle.f11_making.specs.Asking.{Who, who_asks}
use Rattle.f11_flx.specs.Filling.{out_of}
use Rattle.f11_flx.proofs.FromRt.PassLemmas.{end-fails, end-few, ends-lines, stops-at-last}
use Rattle.f11_flx.proofs.lines.end_lines.Goals as goal

pub returns-in_err-write_lines-clause-fails : goal.returns-in_err-write_lines-clause-fails
returns-in_err-write_lines-clause-fails g c =
    let who : Who = who_asks c.args.by.now.task c.args.by.now.uic in
    let p = err_from_is_err_and c.from_residual.result c.from_residual.ensures.1 in rw (p.1, p.2)
    (end-fails g.S.Asked.service who c.args.by.now.lun _ c.args.lines.now c.finish.new.self (out_of c.args.out.now) c.args.service.now
    c.write_lines.new.service c.in-Ok.ensures.ends c.in_err-write_lines.ensures.fails)

pub flush-requires-clause-few : goal.flush-requires-clause-few
flush-requires-clause-few g c =
    let who : Who = who_asks c.args.by.now.task c.args.by.now.uic in
    end-few g.S.Asked.service who c.args.by.now.lun c.args.lines.now c.finish.new.self c.write_lines.new.lines (out_of c.args.out.now)
    (out_of c.write_lines.new.out) c.args.service.now c.write_lines.new.service
    c.in-Ok.ensures.ends c.in_ok-write_lines.ensures.writes c.in_ok-write_lines.ensures.room c.requires.few

pub returns-in-Ok-flush-clause-ends : goal.returns-in-Ok-flush-clause-ends
returns-in-Ok-flush-clause-ends g c =
    let who : Who = who_asks c.args.by.now.task c.args.by.now.uic in
    ends-lines g.S.Asked.service who c.args.by.now.lun c.args.lines.now c.finish.new.self c.write_lines.new.lines (out_of c.args.out.now)
    (out_of c.write_lines.new.out) (out_of c.flush.new.out) _ _ _ c.args.service.now
    c.write_lines.new.service c.flush.new.service c.in-Ok.ensures.ends c.in_ok-write_lines.ensures.writes c.in_ok-write_lines.ensures.idle
    c.in-Ok-flush.ensures.flushes refl c.longest.ensures

pub returns-in-Err-flush-clause-fails : goal.returns-in-Err-flush-clause-fails
returns-in-Err-flush-clause-fails g c =
    let who : Who = who_asks c.args.by.now.task c.args.by.now.uic in
    stops-at-last g.S.Asked.service who c.args.by.now.lun c.args.lines.now c.finish.new.self c.write_lines.new.lines (out_of c.args.out.now)
    (out_of c.write_lines.new.out) _ c.args.service.now
    c.write_lines.new.service c.flush.new.service c.in-Ok.ensures.ends c.in_ok-write_lines.ensures.writes c.in_ok-write_lines.ensures.idle
    c.in-Err-flush.ensures.fails
