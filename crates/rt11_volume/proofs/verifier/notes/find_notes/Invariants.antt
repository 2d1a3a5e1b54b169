use Rattle.std.proofs.Common.{◌≡◌, []}
use Rattle.f11_dev.specs.Image.{Image}
use Rattle.f11_findings.specs.Found.{Finds, FoundOfEach}
use Rattle.rt11_volume.specs.InHand.{visits}
use Rattle.rt11_volume.specs.Verifying.Names.{KnowsNames}
use Rattle.rt11_volume.specs.Verifying.Scans.{number_at, SegmentNotes}
use Rattle.rt11_volume.proofs.verifier.notes.find_notes.Given as goal

-- the notes of the segments so far, whose names are taken
abbrev pub invariant-loop-j : goal.invariant-loop-j
invariant-loop-j l = (image : Image) → l.visited ≡ visits image →
    Finds (FoundOfEach (λ j. SegmentNotes image j (number_at image j)) l.j) [] l.notes × KnowsNames image l.j 0 l.names
