use Rattle.std.proofs.Common.{◌≡◌, ◌+◌, false}
use Rattle.f11_findings.specs.Finding.{finding}
use Rattle.f11_vfy.specs.Surveying.Bits.{has}
use Rattle.f11_findings.specs.Found.{Finds, FoundAmong}
use Rattle.f11_vfy.specs.Scanning.Scans.{IsFileSlot}
use Rattle.f11_vfy.specs.Surveying.Slot.{kept_slot}
use Rattle.f11_vfy.proofs.directories.notes.add_unentered.Given as goal

abbrev pub invariant-loop-k : goal.invariant-loop-k
invariant-loop-k l =
    Finds (FoundAmong (λ k. IsFileSlot (kept_slot l.slots k) × (has l.entered (k + 1) ≡ false)) (λ k. finding 6 (k + 1) 0) l.k)
    l.initial.found l.found
