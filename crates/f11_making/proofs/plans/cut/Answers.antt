use Rattle.std.proofs.Common.{Ok, Err, refl}
use Rattle.f11_store.specs.declared.files.Mode.TheVariants as mode
use Rattle.f11_store.specs.declared.requests.Request.TheVariants as request
use Rattle.f11_making.specs.Asking.{who_asks}
use Rattle.f11_making.specs.FilesPlan.{done, on_err, on_ok, one, or_undone}
use Rattle.f11_making.specs.Plans.{cuts_held, shortens}
use Rattle.f11_making.proofs.PlanLemmas.{goes-then}
use Rattle.f11_making.proofs.plans.cut.Goals as goal

pub returns-in-Err : goal.returns-in-Err
returns-in-Err g c =
    let S = g.S.Asked.service in
    let who = who_asks c.args.by.now.task c.args.by.now.uic in
    let lun = c.args.by.now.lun in
    let id = c.args.id in
    let attr = c.args.attr.now in
    record {
      goes = goes-then S who (one (done (request.Access id mode.Write lun))) (on_ok (λ x. cuts_held lun id attr)) (Ok tt) _
          c.args.service.now c.ask_done.new.service _ c.in_ok-ask_done.ensures.goes
          (goes-then S who (or_undone (request.Deaccess lun) (shortens lun id attr)) (on_ok (λ x. one (done (request.Deaccess lun))))
          (Err c.undo.result) _ c.ask_done.new.service c.undo.new.service _
          (goes-then S who (shortens lun id attr) (on_err (request.Deaccess lun)) (Err c.in-Err.refusal) _ c.ask_done.new.service
          c.shorten.new.service _ c.in-Err.ensures.goes c.undo.ensures.goes) (refl, refl));
    }
