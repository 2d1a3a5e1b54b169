use Rattle.std.proofs.Common.{arith}
use Rattle.std.proofs.lemmas.Result.{IfErr-weaker, IfOk-weaker, err_from_is_err_and}
use Rattle.f11_making.specs.Asking.{Who, who_asks}
use Rattle.f11_flx.specs.Filling.{out_of}
use Rattle.f11_flx.specs.Passes.{BeginsLines}
use Rattle.f11_flx.proofs.FromRt.PassedLemmas.{text-copies, text-end-fails, text-fails, text-few}
use Rattle.f11_flx.proofs.pass.copy_lines.Goals as goal

pub returns-in_err-read_lines-clause-fails : goal.returns-in_err-read_lines-clause-fails
returns-in_err-read_lines-clause-fails g c =
    let who : Who = who_asks c.args.by.now.task c.args.by.now.uic in
    let n = c.new-lines in
    let begins : BeginsLines n.result = record { bytes = n.ensures.bytes; longest = n.ensures.longest; long = n.ensures.long } in
    let p = err_from_is_err_and c.from_residual.result c.from_residual.ensures.1 in rw (p.1, p.2)
    (text-fails g.S.Asked.service g.E.Device.disk who c.args.by.now.lun c.args.name.now c.args.many _ n.result (out_of c.new-out.result)
    c.args.rt.now c.read_lines.new.rt c.args.service.now c.read_lines.new.service
    begins c.new-out.ensures.to c.new-out.ensures.place c.in_err-read_lines.ensures.fails)

pub end_lines-requires-clause-few : goal.end_lines-requires-clause-few
end_lines-requires-clause-few g c =
    let who : Who = who_asks c.args.by.now.task c.args.by.now.uic in
    let n = c.new-lines in
    let begins : BeginsLines n.result = record { bytes = n.ensures.bytes; longest = n.ensures.longest; long = n.ensures.long } in
    text-few g.S.Asked.service g.E.Device.disk who c.args.by.now.lun c.args.name.now c.args.many n.result c.read_lines.new.lines
    (out_of c.new-out.result) (out_of c.read_lines.new.out) c.args.rt.now c.read_lines.new.rt
    c.args.service.now c.read_lines.new.service begins c.new-out.ensures.to c.new-out.ensures.place c.in_ok-read_lines.ensures.reads
    (omega (arith, c.ranges.many.fits))

pub returns-clause-copied : goal.returns-clause-copied
returns-clause-copied g c =
    let who : Who = who_asks c.args.by.now.task c.args.by.now.uic in
    let n = c.new-lines in
    let begins : BeginsLines n.result = record { bytes = n.ensures.bytes; longest = n.ensures.longest; long = n.ensures.long } in
    IfOk-weaker c.end_lines.result _ _ (λ extent ends. text-copies g.S.Asked.service g.E.Device.disk who c.args.by.now.lun
    c.args.name.now c.args.many n.result c.read_lines.new.lines (out_of c.new-out.result) (out_of c.read_lines.new.out) _ _ _ c.args.rt.now
    c.read_lines.new.rt c.args.service.now c.read_lines.new.service c.end_lines.new.service begins c.new-out.ensures.to
    c.new-out.ensures.place c.in_ok-read_lines.ensures.reads ends)
    c.end_lines.ensures.ends

pub returns-clause-fails : goal.returns-clause-fails
returns-clause-fails g c =
    let who : Who = who_asks c.args.by.now.task c.args.by.now.uic in
    let n = c.new-lines in
    let begins : BeginsLines n.result = record { bytes = n.ensures.bytes; longest = n.ensures.longest; long = n.ensures.long } in
    IfErr-weaker c.end_lines.result _ _ (λ e fails. text-end-fails g.S.Asked.service g.E.Device.disk who c.args.by.now.lun
    c.args.name.now c.args.many _ n.result c.read_lines.new.lines (out_of c.new-out.result) (out_of c.read_lines.new.out) c.args.rt.now
    c.read_lines.new.rt c.args.service.now c.read_lines.new.service c.end_lines.new.service begins c.new-out.ensures.to
    c.new-out.ensures.place c.in_ok-read_lines.ensures.reads fails)
    c.end_lines.ensures.fails
