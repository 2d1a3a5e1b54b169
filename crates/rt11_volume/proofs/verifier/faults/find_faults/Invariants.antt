use Rattle.std.proofs.Common.{◌≡◌, [], length}
use Rattle.f11_dev.specs.Image.{Image}
use Rattle.f11_findings.specs.Found.{Finds, FoundOfEach}
use Rattle.rt11_volume.specs.InHand.{visits}
use Rattle.rt11_volume.specs.Verifying.Scans.{number_at, SegmentFaults}
use Rattle.rt11_volume.proofs.verifier.faults.find_faults.Given as goal

-- the faults of the segments so far
abbrev pub invariant-loop-j : goal.invariant-loop-j
invariant-loop-j l = (image : Image) → l.visited ≡ visits image → l.blocks ≡ length image → Finds
    (FoundOfEach (λ j. SegmentFaults image j (number_at image j)) l.j) [] l.faults
