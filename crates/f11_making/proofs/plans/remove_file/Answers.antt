use Rattle.std.proofs.Common.{Ok, Err, if◌then◌else◌, ◌∙◌, subst, sym}
use Rattle.f11_store.specs.declared.requests.Request.TheVariants as request
use Rattle.f11_making.specs.Asking.{who_asks}
use Rattle.f11_making.specs.FilesPlan.{Carried, done, on_ok, one, undoing}
use Rattle.f11_making.specs.Plan.{and_then, gives}
use Rattle.f11_making.specs.Plans.{unless_gone}
use Rattle.f11_making.proofs.PlanLemmas.{goes-then}
use Rattle.f11_making.proofs.plans.remove_file.Goals as goal

pub returns-else-is_gone : goal.returns-else-is_gone
returns-else-is_gone g c =
    let who = who_asks c.args.by.now.task c.args.by.now.uic in
    let id = c.args.id in
    let e = c.in-Err.refusal in
    let back = request.Enter c.args.dir c.args.name.now id in
    record {
      goes = goes-then g.S.Asked.service who (one (done (request.Remove c.args.dir c.args.name.now)))
          (on_ok (λ x. and_then (one (done (request.Delete id))) (unless_gone back))) (Ok tt) _ c.args.service.now
          c.ask_done.new.service _ c.in_ok-ask_done.ensures.goes
          (goes-then g.S.Asked.service who (one (done (request.Delete id))) (unless_gone back) (Err e) _ c.ask_done.new.service
          c.ask_done-2.new.service _ c.in-Err.ensures.goes
          (subst (λ b. Carried g.S.Asked.service who (if b then gives (Ok (tt {0})) else undoing {T = Unit {0}} back e) (Err c.undo.result)
          c.ask_done-2.new.service c.undo.new.service) (sym (sym c.is_gone.ensures ∙ c.if-is_gone.false)) c.undo.ensures.goes));
    }
