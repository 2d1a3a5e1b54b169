use Rattle.std.proofs.Common.{refl, subst}
use Rattle.f11_store.specs.declared.refusals.Refusal.{Refusal}
use Rattle.f11_actions.specs.Taking.{RefusesFiles}
use Rattle.f11_actions.specs.Taking.HasNoneMeant.{failed, refused, unreadable}
use Rattle.f11_actions.proofs.taking.begin.Goals as goal

pub returns-in-Ok-Err-Refused-clause-none : goal.returns-in-Ok-Err-Refused-clause-none
returns-in-Ok-Err-Refused-clause-none g c =
    let none = rw c.in-Ok-Err-Refused.field-0-is at c.in-Ok-Err-Refused.ensures.none in
    refused c.in-Ok-Err-Refused.refusal (rw c.in-Ok-Err-Refused.field-0-0-is at none)
    (subst
    (λ (e : Refusal). RefusesFiles e c.args.faulty c.refuse-in-Ok-Err-Refused.result g.W.Write.contents c.args.writer.now
    c.refuse-in-Ok-Err-Refused.new.writer)
    c.in-Ok-Err-Refused.refusal-is c.refuse-in-Ok-Err-Refused.ensures)

pub returns-in-Ok-Err-Unreadable-clause-none : goal.returns-in-Ok-Err-Unreadable-clause-none
returns-in-Ok-Err-Unreadable-clause-none g c =
    let none = rw c.in-Ok-Err-Unreadable.field-0-is at c.in-Ok-Err-Unreadable.ensures.none in
    unreadable _ (rw c.in-Ok-Err-Unreadable.field-0-0-is at none) (c.print_ls.ensures.lists, c.print_ls.ensures.failed)

pub returns-in-Err-clause-none : goal.returns-in-Err-clause-none
returns-in-Err-clause-none g c = failed c.in-Err.failure c.in-Err.ensures.failed refl refl
