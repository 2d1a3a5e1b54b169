use Rattle.std.proofs.Common.{◌+◌, ◌*◌, ◌≤◌, take}
use Rattle.f11_map.specs.header.Fields.{map_area}
use Rattle.f11_index.specs.Walk.{AddsTo, FitFrom}
use Rattle.f11_map.specs.MapArea.{runs_of, blocks_in}
use Rattle.f11_index.proofs.blocks.Blocks.add.Given as goal

-- the blocks of the pointers so far fit, and were added
abbrev pub invariant-loop-i : goal.invariant-loop-i
invariant-loop-i l =
    let lbns = blocks_in (take l.i (runs_of (map_area l.block))) in
    record {
      adds : AddsTo l.home lbns l.fn.self l.self;
      fit : FitFrom l.home l.end l.fn.self.places lbns;
      few : l.self.places ≤ l.fn.self.places + 256 * l.i;
    }
