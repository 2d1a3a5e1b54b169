use Rattle.std.proofs.Common.{[], inl, refl}
use Rattle.std.proofs.lemmas.Result.{err_from_is_err_and}
use Rattle.f11_store.specs.declared.requests.Request.TheVariants as request
use Rattle.f11_making.specs.Asking.{Who, who_asks}
use Rattle.f11_making.proofs.AskingLemmas.{granted-told}
use Rattle.f11_host.proofs.TextFillLemmas.{text-filled, text-not-extended, text-not-given, text-not-written}
use Rattle.f11_host.proofs.text_making.fill_text.Goals as goal

pub returns-in-Err-clause-fails : goal.returns-in-Err-clause-fails
returns-in-Err-clause-fails g c =
    let who : Who = who_asks c.args.by.now.task c.args.by.now.uic in (
      [],
      text-not-extended g.S.Asked.service who c.args.by.now.lun c.args.bytes c.args.plan.now _ c.args.service.now c.in-Err.refusal
          c.extend.new.service c.in-Err.ensures.denied,
    )

pub returns-in_err-copy_again-clause-fails : goal.returns-in_err-copy_again-clause-fails
returns-in_err-copy_again-clause-fails g c =
    let who : Who = who_asks c.args.by.now.task c.args.by.now.uic in
    let k = c.in_err-copy_again.ensures.fails in
    let p = err_from_is_err_and c.from_residual.result c.from_residual.ensures.1 in rw (p.1, p.2) (
      k.0,
      text-not-written g.S.Asked.service who c.args.by.now.lun c.args.bytes c.args.plan.now _ c.args.service.now c.extend.new.service
          c.in-Ok.ensures.granted _ _ k.0 c.copy_again.new.service k.1,
    )

pub returns-in-Err-ask-clause-fails : goal.returns-in-Err-ask-clause-fails
returns-in-Err-ask-clause-fails g c =
    let who : Who = who_asks c.args.by.now.task c.args.by.now.uic in
    let k = c.in_ok-copy_again.ensures.copied in (
      k.0,
      text-not-given g.S.Asked.service who c.args.by.now.lun c.args.bytes c.args.plan.now _ c.args.service.now c.extend.new.service
          c.in-Ok.ensures.granted c.in-Err-ask.refusal _ k.0 c.copy_again.new.service c.ask.new.service k.1
          (inl c.in-Err-ask.ensures.denied),
    )

pub returns-in-Ok-ask-clause-fills : goal.returns-in-Ok-ask-clause-fills
returns-in-Ok-ask-clause-fills g c =
    let who : Who = who_asks c.args.by.now.task c.args.by.now.uic in
    let k = c.in_ok-copy_again.ensures.copied in (
      k.0,
      text-filled g.S.Asked.service who c.args.by.now.lun c.args.bytes c.args.plan.now _ c.args.service.now c.extend.new.service
          c.in-Ok.ensures.granted _ k.0 c.copy_again.new.service c.ask.new.service k.1 (
            c.ask.new.service,
            granted-told g.S.Asked.service who (request.Deaccess c.args.by.now.lun) _ c.copy_again.new.service c.ask.new.service
                c.in-Ok-ask.ensures.granted,
            refl,
          ),
    )
