use Rattle.std.proofs.Common.{◌≡◌, ◌≤◌, ◌*◌, ◌+◌, ◌++◌, map}
use Rattle.std.specs.List.{range_with_len}
use Rattle.rt11_volume.specs.AnyDirectory.{entry_of_segment}
use Rattle.rt11_volume.specs.Segment.{segment_with, area_start}
use Rattle.rt11_volume.proofs.any_entries.add_entries.Given as goal

-- the entries so far
abbrev pub invariant-loop-i : goal.invariant-loop-i
invariant-loop-i l =
    let seg = segment_with l.number l.segment in
    record {
      start : l.start ≡ area_start seg l.i;
      low : l.start ≤ 65535 * (l.i + 1);
      added : l.entries.items ≡ l.initial.entries.items ++ map (entry_of_segment seg) (range_with_len 0 l.i);
    }
