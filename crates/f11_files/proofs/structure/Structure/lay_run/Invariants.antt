use Rattle.std.proofs.Common.{◌-◌}
use Rattle.std.specs.List.{range_with_len}
use Rattle.f11_files.specs.Extending.Tail.{GrowthStandsWithin, ConfinesGrowth}
use Rattle.f11_files.proofs.LayingOut.Lay.{LaidUpTo}
use Rattle.f11_files.proofs.structure.Structure.lay_run.Given as goal

-- the blocks so far are the file's
abbrev pub invariant-loop-left : goal.invariant-loop-left
invariant-loop-left g l = record {
  laid : LaidUpTo l.fn.self l.self l.fn.tail l.tail l.lbn l.n (l.n - l.left) l.left (g.D.Device.disk l.fn.device)
      (g.D.Device.disk l.device);
  confined : ConfinesGrowth l.fn.self l.fn.tail (range_with_len l.lbn l.n) (g.D.Device.disk l.fn.device) (g.D.Device.disk l.device);
  places : GrowthStandsWithin l.fn.self l.fn.tail (range_with_len l.lbn l.n) l.self l.tail;
}

abbrev pub decreases-loop-left : goal.decreases-loop-left
decreases-loop-left g l = l.left
