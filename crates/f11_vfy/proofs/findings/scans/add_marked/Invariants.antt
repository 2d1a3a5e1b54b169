use Rattle.std.proofs.Common.{◌≡◌, ◌*◌, true, min}
use Rattle.f11_findings.specs.Finding.{finding}
use Rattle.f11_vfy.specs.Surveying.Bits.{has, limit_of}
use Rattle.f11_findings.specs.Found.{Finds, FoundAmong}
use Rattle.f11_vfy.proofs.findings.scans.add_marked.Given as goal

abbrev pub invariant-loop-i : goal.invariant-loop-i
invariant-loop-i l =
    Finds (FoundAmong (λ k. has l.marks k ≡ true) (λ k. finding l.code k 0) (min (64 * l.i) (limit_of l.marks))) l.initial.found l.found
