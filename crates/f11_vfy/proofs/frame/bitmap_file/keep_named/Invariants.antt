use Rattle.std.proofs.Common.{◌≡◌, ◌≤◌, ◌<◌, ◌++◌, take}
use Rattle.std.specs.Prelude.{All, vec_capacity}
use Rattle.f11_header.specs.Fields.{map_area}
use Rattle.f11_map.specs.MapArea.{runs_of, blocks_in}
use Rattle.f11_vfy.specs.Frames.Parts.{needed}
use Rattle.f11_vfy.proofs.frame.bitmap_file.keep_named.Given as goal

-- the blocks of the pointers so far are on the device, and were kept
abbrev pub invariant-loop-i : goal.invariant-loop-i
invariant-loop-i l =
    let blocks = blocks_in (take l.i (runs_of (map_area l.block))) in
    record {
      keeps : All (λ lbn. lbn < l.end) blocks × (l.kept.items ≡ needed (l.fn.kept.items ++ blocks));
      room : 127 ≤ vec_capacity l.kept;
    }
