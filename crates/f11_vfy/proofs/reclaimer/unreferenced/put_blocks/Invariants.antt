use Rattle.std.proofs.Common.{take}
use Rattle.std.specs.Prelude.{Contains}
use Rattle.f11_header.specs.Fields.{map_area}
use Rattle.f11_map.specs.MapArea.{runs_of, blocks_in}
use Rattle.f11_vfy.specs.Frames.Earlier.{Puts}
use Rattle.f11_vfy.proofs.reclaimer.unreferenced.put_blocks.Given as goal

-- the blocks that the pointers so far name
abbrev pub invariant-loop-i : goal.invariant-loop-i
invariant-loop-i l = Puts (Contains (blocks_in (take l.i (runs_of (map_area l.block))))) l.initial.unreferenced l.unreferenced
