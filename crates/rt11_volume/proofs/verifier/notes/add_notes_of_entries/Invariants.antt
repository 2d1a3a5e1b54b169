use Rattle.std.proofs.Common.{◌≡◌}
use Rattle.f11_dev.specs.Image.{Image}
use Rattle.f11_findings.specs.Found.{Finds, FoundOfEach}
use Rattle.rt11_volume.specs.InHand.{visits}
use Rattle.rt11_volume.specs.Verifying.Names.{KnowsNames}
use Rattle.rt11_volume.specs.Verifying.Scans.{number_at, EntryNotes}
use Rattle.rt11_volume.proofs.verifier.notes.add_notes_of_entries.Given as goal

-- the notes of the entries so far, whose names are taken
abbrev pub invariant-loop-i : goal.invariant-loop-i
invariant-loop-i l = (image : Image) → l.visited ≡ visits image → KnowsNames image l.j 0 l.fn.names →
    Finds (FoundOfEach (EntryNotes image l.j (number_at image l.j)) l.i) l.fn.notes l.notes × KnowsNames image l.j l.i l.names
