use Rattle.std.proofs.Common.{◌≡◌, false}
use Rattle.rt11_volume.specs.Calls.{has_failed}
use Rattle.rt11_squeeze.specs.Kept.{volume_disk}
use Rattle.rt11_copy.proofs.CopiesLemmas.{CopiedSoFar}
use Rattle.rt11_copy.proofs.copies.copy_all.Given as goal

-- so many files were copied, or not
abbrev pub invariant-loop-i : goal.invariant-loop-i
invariant-loop-i g l = record {
  fresh : has_failed l.volume ≡ false;
  copied : CopiedSoFar l.entries l.i l.outcomes.items (g.D.Device.disk l.fn.from) (g.D.Device.disk l.from)
      (volume_disk g.E.Device.disk l.fn.volume) (volume_disk g.E.Device.disk l.volume);
}
