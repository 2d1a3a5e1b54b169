use Rattle.std.proofs.Common.{◌≡◌, ◌+◌, ◌*◌, ◌≤◌}
use Rattle.f11_findings.specs.Found.{Finds, FoundOfEach}
use Rattle.rt11_volume.specs.Verifying.Scans.{EntryFaults}
use Rattle.rt11_volume.specs.Segment.{segment_with, area_start}
use Rattle.rt11_volume.proofs.verifier.faults.add_entry_faults.Given as goal

-- the faults of the entries so far, and where their areas end
abbrev pub invariant-loop-i : goal.invariant-loop-i
invariant-loop-i l = record {
  end : l.end ≡ area_start (segment_with l.fn.number l.fn.segment) l.i;
  low : l.end ≤ 65535 * (l.i + 1);
  found : Finds (FoundOfEach (EntryFaults l.fn.blocks (segment_with l.fn.number l.fn.segment)) l.i) l.fn.faults l.faults;
}
