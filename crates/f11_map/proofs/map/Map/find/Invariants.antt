use Rattle.std.proofs.Common.{◌≡◌, ◌+◌, length, take}
use Rattle.f11_map.specs.MapArea.{runs_of, blocks_in}
use Rattle.f11_map.specs.Map.{area_of}
use Rattle.f11_map.proofs.map.Map.find.Given as goal

-- the block looked for is this many behind the pointers so far
abbrev pub invariant-loop-i : goal.invariant-loop-i
invariant-loop-i l = l.place ≡ length (blocks_in (take l.i (runs_of (area_of l.self)))) + l.left
