use Rattle.std.proofs.Common.{sym, ◌∙◌, subst, if◌then◌else◌, Err}
use Rattle.f11_making.specs.Asking.{who_asks}
use Rattle.f11_making.proofs.AskingLemmas.{granted-told}
use Rattle.f11_making.specs.FilesPlan.{Carried, undoing}
use Rattle.f11_making.proofs.PlanLemmas.{undone-granted, undone-denied}
use Rattle.f11_making.proofs.steps.undo.Goals as goal

pub returns-in-Ok : goal.returns-in-Ok
returns-in-Ok g c = record {
  goes =
      undone-granted g.S.Asked.service (who_asks c.args.by.now.task c.args.by.now.uic) (Unit {0}) c.args.request c.args.refusal
      c.args.service.now
      c.ask.new.service (sym c.is_fatal.ensures ∙ c.if-is_fatal.false)
      (granted-told g.S.Asked.service (who_asks c.args.by.now.task c.args.by.now.uic) c.args.request _ c.args.service.now c.ask.new.service
      c.in-Ok.ensures.granted);
}

pub returns-then-is_fatal-2 : goal.returns-then-is_fatal-2
returns-then-is_fatal-2 g c = record {
  goes =
      subst (λ b. Carried g.S.Asked.service (who_asks c.args.by.now.task c.args.by.now.uic)
      (undoing {T = Unit {0}} c.args.request c.args.refusal)
      (Err (if b then c.in-Err.other else c.args.refusal)) c.args.service.now c.ask.new.service)
      (sym c.is_fatal-in-Err.ensures ∙ c.if-is_fatal-2.true)
      (undone-denied g.S.Asked.service (who_asks c.args.by.now.task c.args.by.now.uic) (Unit {0}) c.args.request c.args.refusal
      c.in-Err.other
      c.args.service.now c.ask.new.service (sym c.is_fatal.ensures ∙ c.if-is_fatal.false) c.in-Err.ensures.denied);
}

pub returns-else-is_fatal-2 : goal.returns-else-is_fatal-2
returns-else-is_fatal-2 g c = record {
  goes =
      subst (λ b. Carried g.S.Asked.service (who_asks c.args.by.now.task c.args.by.now.uic)
      (undoing {T = Unit {0}} c.args.request c.args.refusal)
      (Err (if b then c.in-Err.other else c.args.refusal)) c.args.service.now c.ask.new.service)
      (sym c.is_fatal-in-Err.ensures ∙ c.if-is_fatal-2.false)
      (undone-denied g.S.Asked.service (who_asks c.args.by.now.task c.args.by.now.uic) (Unit {0}) c.args.request c.args.refusal
      c.in-Err.other
      c.args.service.now c.ask.new.service (sym c.is_fatal.ensures ∙ c.if-is_fatal.false) c.in-Err.ensures.denied);
}
