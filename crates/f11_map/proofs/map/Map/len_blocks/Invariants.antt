use Rattle.std.proofs.Common.{◌≡◌, ◌*◌, ◌≤◌, length, take}
use Rattle.f11_map.specs.MapArea.{runs_of, blocks_in}
use Rattle.f11_map.specs.Map.{area_of}
use Rattle.f11_map.proofs.map.Map.len_blocks.Given as goal

abbrev pub invariant-loop-i : goal.invariant-loop-i
invariant-loop-i l = record {
  so_far : l.blocks ≡ length (blocks_in (take l.i (runs_of (area_of l.self))));
  few : l.blocks ≤ 256 * l.i;
}
