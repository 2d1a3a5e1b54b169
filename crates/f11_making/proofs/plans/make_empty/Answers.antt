use Rattle.std.proofs.Common.{Ok, Err}
use Rattle.f11_store.specs.Ident.{ident_with}
use Rattle.f11_store.specs.declared.requests.Request.TheVariants as request
use Rattle.f11_making.specs.Asking.{who_asks}
use Rattle.f11_making.specs.Plans.{enters}
use Rattle.f11_making.specs.FilesPlan.{names_for, on_err, on_ok, one, or_undone}
use Rattle.f11_making.proofs.PlanLemmas.{goes-then}
use Rattle.f11_making.proofs.plans.make_empty.Goals as goal

pub returns-in-Err : goal.returns-in-Err
returns-in-Err g c = record {
  goes = goes-then g.S.Asked.service (who_asks c.args.by.now.task c.args.by.now.uic)
      (one (names_for c.args.owner (request.Create 0 (ident_with c.args.name.now) c.args.attr)))
      (on_ok (λ id. or_undone (request.Delete id) (enters c.args.dir c.args.name.now c.args.protection id))) (Ok c.in_ok-id.id) _
      c.args.service.now c.ask_file_for.new.service _ (rw c.ident_with.ensures at c.in_ok-id.ensures.goes)
      (goes-then g.S.Asked.service (who_asks c.args.by.now.task c.args.by.now.uic)
      (enters c.args.dir c.args.name.now c.args.protection c.in_ok-id.id) (on_err (request.Delete c.in_ok-id.id)) (Err c.in-Err.refusal) _
      c.ask_file_for.new.service c.enter.new.service _ c.in-Err.ensures.goes c.undo.ensures.goes);
}
