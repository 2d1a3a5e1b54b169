use Rattle.std.proofs.Common.{List, refl, subst}
use Rattle.f11_making.specs.declared.action.Action.{Action}
use Rattle.f11_store.specs.declared.refusals.Refusal.{Refusal}
use Rattle.f11_actions.specs.Chosen.{EndsNone}
use Rattle.f11_actions.specs.Chosen.EndsByChoice.{acts, failed, refused, unreadable}
use Rattle.f11_actions.specs.Would.{TellsWould}
use Rattle.f11_actions.proofs.WouldLemmas.{would-only}
use Rattle.f11_actions.proofs.would.print_would.Goals as goal

pub returns-in-Ok-Ok-clause-ends : goal.returns-in-Ok-Ok-clause-ends
returns-in-Ok-Ok-clause-ends g c =
    acts c.in-Ok-Ok.actions.items _ (rw c.in-Ok-Ok.field-0-is at c.in-Ok-Ok.ensures.chosen)
    (subst
    (λ (xs : List Action). TellsWould xs c.print_would_act.result.1 (g.D.Device.disk c.chosen_actions.new.device)
    (g.D.Device.disk c.print_would_act.result.0) g.W.Write.contents c.args.writer.now c.print_would_act.new.writer)
    c.deref.ensures.value c.print_would_act.ensures.ends)

pub returns-in-Ok-Ok-clause-reads : goal.returns-in-Ok-Ok-clause-reads
returns-in-Ok-Ok-clause-reads g c = would-only _ _ _ _ _ _ _ _ _ (returns-in-Ok-Ok-clause-ends g c)

pub returns-in-Ok-Err-Refused-clause-ends : goal.returns-in-Ok-Err-Refused-clause-ends
returns-in-Ok-Err-Refused-clause-ends g c =
    let none = rw c.in-Ok-Err-Refused.field-0-is at c.in-Ok-Err-Refused.ensures.none in
    refused c.in-Ok-Err-Refused.refusal _ (rw c.in-Ok-Err-Refused.field-0-0-is at none)
    (subst
    (λ (e : Refusal). EndsNone e c.leave_all.result.1 (g.D.Device.disk c.chosen_actions.new.device)
    (g.D.Device.disk c.leave_all.result.0) g.W.Write.contents c.args.writer.now c.leave_all.new.writer)
    c.in-Ok-Err-Refused.refusal-is c.leave_all.ensures.ends)

pub returns-in-Ok-Err-Refused-clause-reads : goal.returns-in-Ok-Err-Refused-clause-reads
returns-in-Ok-Err-Refused-clause-reads g c = would-only _ _ _ _ _ _ _ _ _ (returns-in-Ok-Err-Refused-clause-ends g c)

pub returns-in-Ok-Err-Unreadable-clause-ends : goal.returns-in-Ok-Err-Unreadable-clause-ends
returns-in-Ok-Err-Unreadable-clause-ends g c =
    let none = rw c.in-Ok-Err-Unreadable.field-0-is at c.in-Ok-Err-Unreadable.ensures.none in
    unreadable _ (rw c.in-Ok-Err-Unreadable.field-0-0-is at none) c.print_would_act-in-Ok-Err-Unreadable.ensures.ends

pub returns-in-Ok-Err-Unreadable-clause-reads : goal.returns-in-Ok-Err-Unreadable-clause-reads
returns-in-Ok-Err-Unreadable-clause-reads g c = would-only _ _ _ _ _ _ _ _ _ (returns-in-Ok-Err-Unreadable-clause-ends g c)

pub returns-in-Err-clause-ends : goal.returns-in-Err-clause-ends
returns-in-Err-clause-ends g c = failed c.in-Err.failure c.in-Err.ensures.failed refl refl

pub returns-in-Err-clause-reads : goal.returns-in-Err-clause-reads
returns-in-Err-clause-reads g c = would-only _ _ _ _ _ _ _ _ _ (returns-in-Err-clause-ends g c)
