use Rattle.std.proofs.Common.{Ok, Err, refl}
use Rattle.f11_store.specs.declared.files.Change.TheVariants as change
use Rattle.f11_store.specs.declared.requests.Request.TheVariants as request
use Rattle.f11_making.specs.Asking.{who_asks}
use Rattle.f11_making.specs.FilesPlan.{done, on_err, on_ok, one, or_undone}
use Rattle.f11_making.specs.Plans.{with_name}
use Rattle.f11_making.proofs.PlanLemmas.{goes-then}
use Rattle.f11_making.proofs.plans.retitle.Goals as goal

pub returns-in-Ok : goal.returns-in-Ok
returns-in-Ok g c =
    let S = g.S.Asked.service in
    let who = who_asks c.args.by.now.task c.args.by.now.uic in
    let id = c.args.id in
    let ident = c.args.ident in
    let rest = one (done (request.Remove c.args.dir c.args.old.now)) in
    let back = request.WriteAttr id (change.Ident ident) in
    record {
      goes = goes-then S who (one (done (request.WriteAttr id (change.Ident (with_name c.args.new.now ident)))))
          (on_ok (λ x. or_undone back rest)) (Ok tt) _ c.args.service.now c.ask_done.new.service _
          (rw c.with_name.ensures at c.in_ok-ask_done.ensures.goes)
          (goes-then S who rest (on_err back) (Ok tt) _ c.ask_done.new.service c.ask_done-2.new.service _ c.in-Ok.ensures.goes
          (refl, refl));
    }

pub returns-in-Err : goal.returns-in-Err
returns-in-Err g c =
    let S = g.S.Asked.service in
    let who = who_asks c.args.by.now.task c.args.by.now.uic in
    let id = c.args.id in
    let ident = c.args.ident in
    let rest = one (done (request.Remove c.args.dir c.args.old.now)) in
    let back = request.WriteAttr id (change.Ident ident) in
    record {
      goes = goes-then S who (one (done (request.WriteAttr id (change.Ident (with_name c.args.new.now ident)))))
          (on_ok (λ x. or_undone back rest)) (Ok tt) _ c.args.service.now c.ask_done.new.service _
          (rw c.with_name.ensures at c.in_ok-ask_done.ensures.goes)
          (goes-then S who rest (on_err back) (Err c.in-Err.refusal) _ c.ask_done.new.service c.ask_done-2.new.service _
          c.in-Err.ensures.goes c.undo.ensures.goes);
    }
