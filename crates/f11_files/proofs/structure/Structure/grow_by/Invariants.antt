use Rattle.std.proofs.Common.{IsTrue}
use Rattle.f11_volume.specs.Volume.{volume_of}
use Rattle.f11_image_store.specs.Allocation.{free_list}
use Rattle.f11_files.specs.Structure.{home_of}
use Rattle.f11_files.specs.Extending.Tail.{GrowthStandsWithin, ConfinesGrowth}
use Rattle.f11_files.proofs.Extending.GrowBy.{GrowingOn}
use Rattle.f11_files.proofs.structure.Structure.grow_by.Given as goal

-- the runs so far are the file's
abbrev pub invariant-loop-left : goal.invariant-loop-left
invariant-loop-left g l = record {
  growing : GrowingOn l.fn.self l.self l.fn.tail l.tail l.n l.from l.left (g.D.Device.disk l.fn.device) (g.D.Device.disk l.device);
  confined : IsTrue (g.D.Device.disk l.fn.device).honest
      → ConfinesGrowth l.fn.self l.fn.tail (free_list (volume_of (g.D.Device.disk l.fn.device).image (home_of l.fn.self)))
      (g.D.Device.disk l.fn.device) (g.D.Device.disk l.device);
  places : IsTrue (g.D.Device.disk l.fn.device).honest
      → GrowthStandsWithin l.fn.self l.fn.tail (free_list (volume_of (g.D.Device.disk l.fn.device).image (home_of l.fn.self))) l.self
      l.tail;
}

abbrev pub decreases-loop-left : goal.decreases-loop-left
decreases-loop-left g l = l.left
