use Rattle.std.proofs.Common.{sym, subst}
use Rattle.f11_store.specs.declared.requests.Request.TheVariants as request
use Rattle.f11_making.specs.Actions.{plan_of, within}
use Rattle.f11_making.specs.Asking.{who_asks}
use Rattle.f11_making.specs.FilesPlan.{Carried, names, one}
use Rattle.f11_making.specs.Plans.{renames}
use Rattle.f11_making.specs.declared.action.Action.{Action}
use Rattle.f11_making.proofs.PlanLemmas.{refused-first}
use Rattle.f11_making.proofs.plans.act.Goals as goal

pub returns-in_err-dir-in-Rename : goal.returns-in_err-dir-in-Rename
returns-in_err-dir-in-Rename g c =
    let a = c.in-Rename in
    record {
      goes =
          subst (λ (x : Action). Carried g.S.Asked.service (who_asks c.args.by.now.task c.args.by.now.uic)
          (plan_of c.args.by.now.lun c.args.master x)
          c.from_residual-in_err-dir-in-Rename.result c.args.service.now c.ask_file-in-Rename.new.service) (sym a.is)
          (refused-first g.S.Asked.service (who_asks c.args.by.now.task c.args.by.now.uic)
          (one (names (request.Find c.args.master a.directory)))
          (λ dir. within c.args.master a.to (λ into. renames dir a.name into a.new)) c.from_residual-in_err-dir-in-Rename.result
          c.in_err-dir-in-Rename.field-0.0 c.args.service.now c.ask_file-in-Rename.new.service c.in_err-dir-in-Rename.ensures.goes
          c.from_residual-in_err-dir-in-Rename.ensures.1);
    }

pub returns-in-MakeDirectory : goal.returns-in-MakeDirectory
returns-in-MakeDirectory g c = record {
  goes = subst (λ (x : Action). Carried g.S.Asked.service (who_asks c.args.by.now.task c.args.by.now.uic)
      (plan_of c.args.by.now.lun c.args.master x) c.make_directory.result c.args.service.now c.make_directory.new.service)
      (sym c.in-MakeDirectory.is) c.make_directory.ensures.goes;
}
