use Rattle.std.proofs.Common.{refl, sym, ap, ◌∙◌, Ok, Err, if◌then◌else◌}
use Rattle.f11_making.specs.Asking.{who_asks}
use Rattle.f11_copying.specs.declared.fault.CopyFault.TheVariants.{Files}
use Rattle.f11_copying.proofs.CourseLemmas.{undoing-asked}
use Rattle.f11_copying.proofs.steps.undo.Goals as goal

pub returns-in-Ok : goal.returns-in-Ok
returns-in-Ok g c = record {
  runs = undoing-asked g.S.Asked.service g.B.Blocks.gives (who_asks c.args.by.now.task c.args.by.now.uic) (Unit {0}) c.args.request
      c.args.fault c.args.fault (Ok tt) c.args.service.now c.ask_done.new.service c.args.source.now
      (sym c.is_lethal.ensures ∙ c.if-is_lethal.false) c.in-Ok.ensures.goes refl;
}

pub returns-then-is_fatal : goal.returns-then-is_fatal
returns-then-is_fatal g c = record {
  runs = undoing-asked g.S.Asked.service g.B.Blocks.gives (who_asks c.args.by.now.task c.args.by.now.uic) (Unit {0}) c.args.request
      c.args.fault (Files c.in-Err.other) (Err c.in-Err.other) c.args.service.now c.ask_done.new.service c.args.source.now
      (sym c.is_lethal.ensures ∙ c.if-is_lethal.false) c.in-Err.ensures.goes
      (sym (ap (λ b. if b then Files c.in-Err.other else c.args.fault) (sym c.is_fatal.ensures ∙ c.if-is_fatal.true)));
}

pub returns-else-is_fatal : goal.returns-else-is_fatal
returns-else-is_fatal g c = record {
  runs = undoing-asked g.S.Asked.service g.B.Blocks.gives (who_asks c.args.by.now.task c.args.by.now.uic) (Unit {0}) c.args.request
      c.args.fault c.args.fault (Err c.in-Err.other) c.args.service.now c.ask_done.new.service c.args.source.now
      (sym c.is_lethal.ensures ∙ c.if-is_lethal.false) c.in-Err.ensures.goes
      (sym (ap (λ b. if b then Files c.in-Err.other else c.args.fault) (sym c.is_fatal.ensures ∙ c.if-is_fatal.false)));
}
