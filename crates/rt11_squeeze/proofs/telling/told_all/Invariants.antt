use Rattle.std.proofs.Common.{◌*◌}
use Rattle.f11_dev.specs.Looked.{Looked}
use Rattle.rt11_squeeze.proofs.TellLemmas.{AllTold, TellsSoFar}
use Rattle.rt11_squeeze.proofs.telling.told_all.Given as goal

-- those of so many entries
abbrev pub invariant-loop-i : goal.invariant-loop-i
invariant-loop-i g l = record {
  looked : Looked (g.D.Device.disk l.fn.device) (g.D.Device.disk l.device) (2 * l.i) 0;
  told : AllTold l.entries (g.D.Device.disk l.fn.device) l.files.items;
  exact : TellsSoFar l.entries l.i (g.D.Device.disk l.fn.device) l.files.items;
}
