use Rattle.std.proofs.Common.{◌-◌}
use Rattle.f11_dev.specs.Went.{Went}
use Rattle.rt11_volume.specs.Fresh.{MayStand}
use Rattle.rt11_volume.proofs.FreshLemmas.{ClearsUpTo}
use Rattle.rt11_volume.proofs.fresh.write_fresh.Given as goal

-- the directory's blocks so far, behind its first
abbrev pub invariant-loop-lbn : goal.invariant-loop-lbn
invariant-loop-lbn g l =
    let old = g.D.Device.disk l.fn.device in
    let now = g.D.Device.disk l.device in
    record {
      clears : ClearsUpTo l.lbn old.image now.image;
      went : Went (MayStand l.fn.segments old.image) old now (l.lbn - 7) 0;
    }
