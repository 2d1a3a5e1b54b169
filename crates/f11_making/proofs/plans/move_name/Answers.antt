use Rattle.std.proofs.Common.{Ok, Err, refl}
use Rattle.f11_store.specs.declared.requests.Request.TheVariants as request
use Rattle.f11_making.specs.Asking.{who_asks}
use Rattle.f11_making.specs.FilesPlan.{done, on_err, on_ok, one, or_undone}
use Rattle.f11_making.specs.Plans.{retitles}
use Rattle.f11_making.proofs.PlanLemmas.{goes-then}
use Rattle.f11_making.proofs.plans.move_name.Goals as goal

pub returns-in-Ok : goal.returns-in-Ok
returns-in-Ok g c =
    let S = g.S.Asked.service in
    let who = who_asks c.args.by.now.task c.args.by.now.uic in
    let rest = retitles c.args.dir c.args.old.now c.args.new.now c.args.id c.args.ident in
    let back = request.Remove c.args.to c.args.new.now in
    record {
      goes = goes-then S who (one (done (request.Enter c.args.to c.args.new.now c.args.id))) (on_ok (λ x. or_undone back rest)) (Ok tt) _
          c.args.service.now c.ask_done.new.service _ c.in_ok-ask_done.ensures.goes
          (goes-then S who rest (on_err back) (Ok tt) _ c.ask_done.new.service c.retitle.new.service _ c.in-Ok.ensures.goes (refl, refl));
    }

pub returns-in-Err : goal.returns-in-Err
returns-in-Err g c =
    let S = g.S.Asked.service in
    let who = who_asks c.args.by.now.task c.args.by.now.uic in
    let rest = retitles c.args.dir c.args.old.now c.args.new.now c.args.id c.args.ident in
    let back = request.Remove c.args.to c.args.new.now in
    record {
      goes = goes-then S who (one (done (request.Enter c.args.to c.args.new.now c.args.id))) (on_ok (λ x. or_undone back rest)) (Ok tt) _
          c.args.service.now c.ask_done.new.service _ c.in_ok-ask_done.ensures.goes
          (goes-then S who rest (on_err back) (Err c.in-Err.refusal) _ c.ask_done.new.service c.retitle.new.service _
          c.in-Err.ensures.goes c.undo.ensures.goes);
    }
