use Rattle.std.proofs.lemmas.Result.{IfErr-weaker, IfOk-weaker, err_from_is_err_and}
use Rattle.f11_making.specs.Asking.{Who, who_asks}
use Rattle.f11_flx.specs.Filling.{out_of}
use Rattle.f11_flx.specs.Passes.{BeginsLines}
use Rattle.f11_host.proofs.TextLemmas.{text-copies, text-end-fails, text-fails, text-few}
use Rattle.f11_host.proofs.text.copy_text.Goals as goal

pub returns-in_err-read_text-clause-fails : goal.returns-in_err-read_text-clause-fails
returns-in_err-read_text-clause-fails g c =
    let who : Who = who_asks c.args.by.now.task c.args.by.now.uic in
    let n = c.new-lines in
    let begins : BeginsLines n.result = record { bytes = n.ensures.bytes; longest = n.ensures.longest; long = n.ensures.long } in
    let k = c.in_err-read_text.ensures.fails in
    let p = err_from_is_err_and c.from_residual.result c.from_residual.ensures.1 in rw (p.1, p.2) (
      k.0,
      text-fails g.S.Asked.service who c.args.by.now.lun c.args.bytes k.0 _ _ n.result (out_of c.new-out.result) begins c.new-out.ensures.to
          c.new-out.ensures.place _ c.args.service.now c.read_text.new.service k.1,
    )

pub end_lines-requires-clause-few : goal.end_lines-requires-clause-few
end_lines-requires-clause-few g c =
    let who : Who = who_asks c.args.by.now.task c.args.by.now.uic in
    let n = c.new-lines in
    let begins : BeginsLines n.result = record { bytes = n.ensures.bytes; longest = n.ensures.longest; long = n.ensures.long } in
    let k = c.in_ok-read_text.ensures.reads in
    text-few g.S.Asked.service who c.args.by.now.lun c.args.bytes k.0 _ _ n.result (out_of c.new-out.result) begins c.new-out.ensures.to
    c.new-out.ensures.place c.read_text.new.lines (out_of c.read_text.new.out) c.args.service.now c.read_text.new.service k.1 c.requires.few

pub returns-clause-copied : goal.returns-clause-copied
returns-clause-copied g c =
    let who : Who = who_asks c.args.by.now.task c.args.by.now.uic in
    let n = c.new-lines in
    let begins : BeginsLines n.result = record { bytes = n.ensures.bytes; longest = n.ensures.longest; long = n.ensures.long } in
    let k = c.in_ok-read_text.ensures.reads in
    IfOk-weaker c.end_lines.result _ _ (λ extent ends. (
      k.0,
      text-copies g.S.Asked.service who c.args.by.now.lun c.args.bytes k.0 _ _ n.result (out_of c.new-out.result) begins
          c.new-out.ensures.to c.new-out.ensures.place c.read_text.new.lines (out_of c.read_text.new.out) c.args.service.now
          c.read_text.new.service k.1 _ _ _ c.end_lines.new.service ends,
    ))
    c.end_lines.ensures.ends

pub returns-clause-fails : goal.returns-clause-fails
returns-clause-fails g c =
    let who : Who = who_asks c.args.by.now.task c.args.by.now.uic in
    let n = c.new-lines in
    let begins : BeginsLines n.result = record { bytes = n.ensures.bytes; longest = n.ensures.longest; long = n.ensures.long } in
    let k = c.in_ok-read_text.ensures.reads in
    IfErr-weaker c.end_lines.result _ _ (λ e fails. (
      k.0,
      text-end-fails g.S.Asked.service who c.args.by.now.lun c.args.bytes k.0 _ _ n.result (out_of c.new-out.result) begins
          c.new-out.ensures.to c.new-out.ensures.place c.read_text.new.lines (out_of c.read_text.new.out) c.args.service.now
          c.read_text.new.service k.1 e c.end_lines.new.service fails,
    ))
    c.end_lines.ensures.fails
