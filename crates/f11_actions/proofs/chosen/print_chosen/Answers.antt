use Rattle.std.proofs.Common.{List, refl, subst}
use Rattle.f11_making.specs.declared.action.Action.{Action}
use Rattle.f11_store.specs.declared.refusals.Refusal.{Refusal}
use Rattle.f11_actions.specs.Chosen.{EndsNone}
use Rattle.f11_actions.specs.Chosen.EndsByChoice.{acts, failed, refused, unreadable}
use Rattle.f11_actions.specs.Command.{EndsActions}
use Rattle.f11_actions.proofs.chosen.print_chosen.Goals as goal

pub returns-in-Ok-Ok : goal.returns-in-Ok-Ok
returns-in-Ok-Ok g c =
    record {
      ends =
          acts c.in-Ok-Ok.actions.items _ (rw c.in-Ok-Ok.field-0-is at c.in-Ok-Ok.ensures.chosen)
          (subst
          (λ (xs : List Action). EndsActions c.args.behind xs c.print_actions.result.1 (g.D.Device.disk c.chosen_actions.new.device)
          (g.D.Device.disk c.print_actions.result.0) g.W.Write.contents c.args.writer.now c.print_actions.new.writer)
          c.deref.ensures.value c.print_actions.ensures.ends);
    }

pub returns-in-Ok-Err-Refused : goal.returns-in-Ok-Err-Refused
returns-in-Ok-Err-Refused g c =
    let none = rw c.in-Ok-Err-Refused.field-0-is at c.in-Ok-Err-Refused.ensures.none in
    record {
      ends =
          refused c.in-Ok-Err-Refused.refusal _ (rw c.in-Ok-Err-Refused.field-0-0-is at none)
          (subst
          (λ (e : Refusal). EndsNone e c.leave_all.result.1 (g.D.Device.disk c.chosen_actions.new.device)
          (g.D.Device.disk c.leave_all.result.0) g.W.Write.contents c.args.writer.now c.leave_all.new.writer)
          c.in-Ok-Err-Refused.refusal-is c.leave_all.ensures.ends);
    }

pub returns-in-Ok-Err-Unreadable : goal.returns-in-Ok-Err-Unreadable
returns-in-Ok-Err-Unreadable g c =
    let none = rw c.in-Ok-Err-Unreadable.field-0-is at c.in-Ok-Err-Unreadable.ensures.none in
    record { ends = unreadable _ (rw c.in-Ok-Err-Unreadable.field-0-0-is at none) c.print_actions-in-Ok-Err-Unreadable.ensures.ends }

pub returns-in-Err : goal.returns-in-Err
returns-in-Err g c = record { ends = failed c.in-Err.failure c.in-Err.ensures.failed refl refl }
