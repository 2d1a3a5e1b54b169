use Rattle.std.proofs.Common.{◌≡◌, [], arith, inl, refl, subst}
use Rattle.std.proofs.lemmas.Result.{err_from_is_err_and}
use Rattle.f11_store.specs.declared.requests.Request.TheVariants as request
use Rattle.f11_making.specs.Asking.{BreaksOffAsking, Granted, Who, who_asks}
use Rattle.f11_making.specs.Making.{extension}
use Rattle.f11_making.proofs.AskingLemmas.{granted-told}
use Rattle.f11_host.specs.Pieces.{blocks_for}
use Rattle.f11_host.proofs.FillLemmas.{filled, not-extended, not-given, not-written}
use Rattle.f11_host.proofs.filling.fill.Goals as goal

pub returns-in-Err-clause-fails : goal.returns-in-Err-clause-fails
returns-in-Err-clause-fails g c =
    let who : Who = who_asks c.args.by.now.task c.args.by.now.uic in
    let count : c.div_ceil-blocks.result ≡ blocks_for c.args.bytes = omega (arith, c.div_ceil-blocks.ensures) in (
      [],
      not-extended g.S.Asked.service who c.args.by.now.lun c.args.bytes _ c.args.service.now c.in-Err.refusal c.extend.new.service
          (subst (λ n. BreaksOffAsking g.S.Asked.service who (extension c.args.by.now.lun n) c.in-Err.refusal c.args.service.now
          c.extend.new.service) count c.in-Err.ensures.denied),
    )

pub returns-in_err-write_bytes-clause-fails : goal.returns-in_err-write_bytes-clause-fails
returns-in_err-write_bytes-clause-fails g c =
    let who : Who = who_asks c.args.by.now.task c.args.by.now.uic in
    let count : c.div_ceil-blocks.result ≡ blocks_for c.args.bytes = omega (arith, c.div_ceil-blocks.ensures) in
    let k = c.in_err-write_bytes.ensures.fails in
    let p = err_from_is_err_and c.from_residual.result c.from_residual.ensures.1 in rw (p.1, p.2) (
      k.0,
      not-written g.S.Asked.service who c.args.by.now.lun c.args.bytes _ c.args.service.now c.extend.new.service
          (subst (λ n. Granted g.S.Asked.service who (extension c.args.by.now.lun n) c.args.service.now c.extend.new.service) count
          c.in-Ok.ensures.granted) _ _ k.0 c.write_bytes.new.service k.1,
    )

pub returns-in-Err-ask-clause-fails : goal.returns-in-Err-ask-clause-fails
returns-in-Err-ask-clause-fails g c =
    let who : Who = who_asks c.args.by.now.task c.args.by.now.uic in
    let count : c.div_ceil-blocks.result ≡ blocks_for c.args.bytes = omega (arith, c.div_ceil-blocks.ensures) in
    let k = c.in_ok-write_bytes.ensures.writes in (
      k.0,
      not-given g.S.Asked.service who c.args.by.now.lun c.args.bytes _ c.args.service.now c.extend.new.service
          (subst (λ n. Granted g.S.Asked.service who (extension c.args.by.now.lun n) c.args.service.now c.extend.new.service) count
          c.in-Ok.ensures.granted) c.in-Err-ask.refusal _ k.0 c.write_bytes.new.service c.ask.new.service k.1
          (inl c.in-Err-ask.ensures.denied),
    )

pub returns-in-Ok-ask-clause-fills : goal.returns-in-Ok-ask-clause-fills
returns-in-Ok-ask-clause-fills g c =
    let who : Who = who_asks c.args.by.now.task c.args.by.now.uic in
    let count : c.div_ceil-blocks.result ≡ blocks_for c.args.bytes = omega (arith, c.div_ceil-blocks.ensures) in
    let k = c.in_ok-write_bytes.ensures.writes in (
      k.0,
      filled g.S.Asked.service who c.args.by.now.lun c.args.bytes _ c.args.service.now c.extend.new.service
          (subst (λ n. Granted g.S.Asked.service who (extension c.args.by.now.lun n) c.args.service.now c.extend.new.service) count
          c.in-Ok.ensures.granted) _ k.0 c.write_bytes.new.service c.ask.new.service k.1 (
            c.ask.new.service,
            granted-told g.S.Asked.service who (request.Deaccess c.args.by.now.lun) _ c.write_bytes.new.service c.ask.new.service
                c.in-Ok-ask.ensures.granted,
            refl,
          ),
    )
