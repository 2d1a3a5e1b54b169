use Rattle.std.proofs.Common.{inr, refl}
use Rattle.f11_commands.proofs.UpdateLemmas.{tells-again, updates-nothing}
use Rattle.f11_commands.proofs.update.print_same.Goals as goal

pub returns-in-Ok : goal.returns-in-Ok
returns-in-Ok g c = record {
  ends =
      updates-nothing _ _ _ _ c.write_accepted.result c.requires.reclaimed
      (tells-again _ _ _ _ _ _ c.write_accepted.result c.requires.verified c.in-Ok.ensures c.write_accepted.ensures.lines
      c.write_accepted.ensures.answer c.write_accepted.ensures.failed);
}

pub returns-in-Err : goal.returns-in-Err
returns-in-Err g c = record { ends = updates-nothing _ _ _ _ _ c.requires.reclaimed (inr (refl, refl)) }
