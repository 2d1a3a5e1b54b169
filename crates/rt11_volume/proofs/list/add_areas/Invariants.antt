use Rattle.std.proofs.Common.{◌≡◌, ◌≤◌, ◌*◌, ◌+◌, ◌++◌, map, get_or, []}
use Rattle.std.specs.List.{range_with_len}
use Rattle.rt11_volume.specs.Listing.{shown_words}
use Rattle.rt11_volume.specs.Segment.{segment_with, area_start}
use Rattle.rt11_volume.proofs.list.add_areas.Given as goal

-- the areas so far
abbrev pub invariant-loop-i : goal.invariant-loop-i
invariant-loop-i l =
    let seg = segment_with 0 l.segment in
    record {
      start : l.start ≡ area_start seg l.i;
      low : l.start ≤ 65535 * (l.i + 1);
      added : l.areas.items ≡ l.initial.areas.items ++ map (λ i. shown_words (get_or seg.entries i []) (area_start seg i))
          (range_with_len 0 l.i);
    }
