use Rattle.std.proofs.Common.{◌≡◌, ◌+◌, ◌*◌, ◌≤◌, sum_by, take}
use Rattle.rt11_volume.specs.Entry.{area_length}
use Rattle.rt11_volume.specs.Segment.{extra_bytes, first_block, entries}
use Rattle.rt11_volume.proofs.segment.Segment.area_start.Given as goal

-- the end of the areas so far
abbrev pub invariant-loop-j : goal.invariant-loop-j
invariant-loop-j l = record {
  start : l.start ≡ first_block l.self + sum_by area_length (take l.j (entries (extra_bytes l.self) l.self));
  low : l.start ≤ 65535 * (l.j + 1);
}
