use Rattle.std.proofs.Common.{drop}
use Rattle.f11_header.specs.Fields.{map_area}
use Rattle.f11_map.specs.HeaderBlock.{blocks_named}
use Rattle.f11_map.specs.MapArea.{blocks_in, runs_of}
use Rattle.f11_image_store.specs.Confines.{no_header}
use Rattle.f11_files.specs.Structure.{StandsAlike, WritesParts}
use Rattle.f11_files.proofs.Removing.Giving.{Giving}
use Rattle.f11_files.proofs.structure.Structure.give_from.Given as goal

-- the blocks of the pointers so far are free, and those of the others are still to be marked
abbrev pub invariant-loop-i : goal.invariant-loop-i
invariant-loop-i g l = record {
  giving :
      Giving l.fn.self l.self (drop l.keep (blocks_named l.block)) (drop l.left (blocks_in (drop l.i (runs_of (map_area l.block))))) l.i
      (g.D.Device.disk l.fn.device) (g.D.Device.disk l.device);
  confined : WritesParts l.fn.self no_header (g.D.Device.disk l.fn.device) (g.D.Device.disk l.device);
  places : StandsAlike l.fn.self l.self;
}
