use Rattle.std.proofs.Common.{take}
use Rattle.f11_header.specs.Fields.{map_area}
use Rattle.f11_map.specs.MapArea.{runs_of, blocks_in}
use Rattle.f11_vfy.specs.Surveying.Extent.{LieAs}
use Rattle.f11_vfy.proofs.survey.extent.extent_of.Given as goal

-- so lie the blocks of the pointers so far
abbrev pub invariant-loop-i : goal.invariant-loop-i
invariant-loop-i l = LieAs (blocks_in (take l.i (runs_of (map_area l.block)))) l.extent
