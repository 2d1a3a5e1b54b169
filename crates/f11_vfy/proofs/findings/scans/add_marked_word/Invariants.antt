use Rattle.std.proofs.Common.{◌≡◌, ◌≤◌, ◌*◌, true}
use Rattle.f11_findings.specs.Finding.{finding}
use Rattle.f11_vfy.specs.Surveying.Bits.{has}
use Rattle.f11_findings.specs.Found.{Finds, FoundAmong}
use Rattle.f11_vfy.proofs.findings.scans.add_marked_word.Given as goal

abbrev pub invariant-loop-k : goal.invariant-loop-k
invariant-loop-k l = Finds (FoundAmong (λ k. (64 * l.i ≤ k) × (has l.marks k ≡ true)) (λ k. finding l.code k 0) l.k) l.initial.found l.found
