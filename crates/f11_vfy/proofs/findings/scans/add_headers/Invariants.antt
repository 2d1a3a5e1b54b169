use Rattle.std.proofs.Common.{◌+◌, get_or}
use Rattle.f11_findings.specs.Finding.{finding}
use Rattle.f11_vfy.specs.Surveying.Bits.{has}
use Rattle.f11_vfy.specs.Scanning.Scans.{Holds, code_of}
use Rattle.f11_vfy.specs.Surveying.Slot.{kept_slot}
use Rattle.f11_findings.specs.Found.{Finds, FoundAmong}
use Rattle.f11_vfy.proofs.findings.scans.add_headers.Given as goal

abbrev pub invariant-loop-k : goal.invariant-loop-k
invariant-loop-k l =
    Finds (FoundAmong (λ k. Holds l.kind (kept_slot l.slots k) (has l.chains.in_file (k + 1)) (get_or l.chains.nexts.items k 0))
    (λ k. finding (code_of l.kind) (k + 1) 0) l.k) l.initial.found l.found
