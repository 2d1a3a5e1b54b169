use Rattle.std.proofs.Common.{inr}
use Rattle.f11_commands.proofs.UpdateLemmas.{fails-unchanged, reclaimed-already}
use Rattle.f11_commands.proofs.update.print_unchanged.Goals as goal

pub print_same-requires-clause-verified : goal.print_same-requires-clause-verified
print_same-requires-clause-verified g c = rw c.in-Ok.ensures.synced c.requires.verified

pub print_same-requires-clause-reclaimed : goal.print_same-requires-clause-reclaimed
print_same-requires-clause-reclaimed g c =
    rw c.in-Ok.ensures.synced
    (reclaimed-already c.reclaiming.ensures.none _ _ (g.met.D.Device.is_image c.args.device) c.requires.verified c.requires.none)

pub returns-in-Ok : goal.returns-in-Ok
returns-in-Ok g c = record { ends = rw c.in-Ok.ensures.synced at c.print_same.ensures.ends }

pub returns-in-Err : goal.returns-in-Err
returns-in-Err g c = record {
  ends =
      inr (fails-unchanged _ _ _ _
      (reclaimed-already c.reclaiming.ensures.none _ _ (g.met.D.Device.is_image c.args.device) c.requires.verified c.requires.none)
      c.in-Err.ensures.failed);
}
