use Rattle.std.proofs.Common.{get_or}
use Rattle.f11_findings.specs.Finding.{finding}
use Rattle.f11_findings.specs.Found.{Finds, FoundAmong}
use Rattle.f11_vfy.proofs.findings.scans.add_each.Given as goal

abbrev pub invariant-loop-i : goal.invariant-loop-i
invariant-loop-i l = Finds (FoundAmong (λ _. Unit) (λ i. get_or l.more i (finding 0 0 0)) l.i) l.initial.found l.found
