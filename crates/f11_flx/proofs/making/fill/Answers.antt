use Rattle.std.proofs.Common.{inl, refl}
use Rattle.std.proofs.lemmas.Result.{err_from_is_err_and}
use Rattle.f11_store.specs.declared.requests.Request.TheVariants as request
use Rattle.f11_making.specs.Asking.{Who, who_asks}
use Rattle.f11_flx.proofs.FromRt.MakingLemmas.{fills, not-copied, not-extended, not-given}
use Rattle.f11_making.proofs.AskingLemmas.{granted-told}
use Rattle.f11_flx.proofs.making.fill.Goals as goal

pub returns-in-Err-clause-fails : goal.returns-in-Err-clause-fails
returns-in-Err-clause-fails g c =
    let who : Who = who_asks c.args.by.now.task c.args.by.now.uic in
    not-extended g.S.Asked.service who c.args.by.now.lun g.E.Device.disk c.args.mode c.args.name.now c.args.plan.now.source
    c.args.plan.now.blocks _ c.args.rt.now c.args.service.now c.extend.new.service c.in-Err.ensures.denied

pub returns-in_err-copy_file-clause-fails : goal.returns-in_err-copy_file-clause-fails
returns-in_err-copy_file-clause-fails g c =
    let who : Who = who_asks c.args.by.now.task c.args.by.now.uic in
    let p = err_from_is_err_and c.from_residual.result c.from_residual.ensures.1 in rw (p.1, p.2)
    (not-copied g.S.Asked.service who c.args.by.now.lun g.E.Device.disk c.args.mode c.args.name.now c.args.plan.now.source
    c.args.plan.now.blocks _ c.args.rt.now c.copy_file.new.rt c.args.service.now c.extend.new.service
    c.copy_file.new.service c.in-Ok.ensures.granted c.in_err-copy_file.ensures.fails)

pub returns-in-Ok-ask-clause-fills : goal.returns-in-Ok-ask-clause-fills
returns-in-Ok-ask-clause-fills g c =
    let who : Who = who_asks c.args.by.now.task c.args.by.now.uic in
    let k = c.in_ok-copy_file.ensures.copied in
    fills g.S.Asked.service who c.args.by.now.lun g.E.Device.disk c.args.mode c.args.name.now c.args.plan.now.source c.args.plan.now.blocks
    k.0 k.1 c.args.rt.now c.copy_file.new.rt c.args.service.now c.extend.new.service
    c.copy_file.new.service c.ask.new.service c.in-Ok.ensures.granted k.2 (
      c.ask.new.service,
      granted-told g.S.Asked.service who (request.Deaccess c.args.by.now.lun) _ c.copy_file.new.service c.ask.new.service
          c.in-Ok-ask.ensures.granted,
      refl,
    )

pub returns-in-Err-ask-clause-fails : goal.returns-in-Err-ask-clause-fails
returns-in-Err-ask-clause-fails g c =
    let who : Who = who_asks c.args.by.now.task c.args.by.now.uic in
    let k = c.in_ok-copy_file.ensures.copied in
    not-given g.S.Asked.service who c.args.by.now.lun g.E.Device.disk c.args.mode c.args.name.now c.args.plan.now.source
    c.args.plan.now.blocks k.0 k.1 _ c.args.rt.now c.copy_file.new.rt c.args.service.now c.extend.new.service
    c.copy_file.new.service c.ask.new.service c.in-Ok.ensures.granted k.2 (inl c.in-Err-ask.ensures.denied)
