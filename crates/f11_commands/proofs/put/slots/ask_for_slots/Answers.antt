use Rattle.std.proofs.Common.{sym, ◌∙◌}
use Rattle.f11_making.specs.Volume.{of_volume}
use Rattle.f11_commands.proofs.PutSlotsLemmas.{asked-refused}
use Rattle.f11_commands.proofs.put.slots.ask_for_slots.Goals as goal

pub returns-else-is_fatal-clause-asked : goal.returns-else-is_fatal-clause-asked
returns-else-is_fatal-clause-asked g c =
    asked-refused of_volume c.args.slots c.in-Err.refusal c.args.volume.now c.grow.new.volume c.if-slots-eq0.false
    (sym c.is_fatal.ensures ∙ c.if-is_fatal.false) c.in-Err.ensures.denied
