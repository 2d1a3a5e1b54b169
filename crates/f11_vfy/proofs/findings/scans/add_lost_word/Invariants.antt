use Rattle.std.proofs.Common.{◌≡◌, ◌≤◌, ◌*◌, true}
use Rattle.f11_findings.specs.Finding.{finding}
use Rattle.f11_vfy.specs.Scanning.Scans.{is_lost, ends_lost, start_of}
use Rattle.f11_findings.specs.Found.{Finds, FoundAmong}
use Rattle.f11_vfy.proofs.findings.scans.add_lost_word.Given as goal

abbrev pub invariant-loop-k : goal.invariant-loop-k
invariant-loop-k l = record {
  start : l.start ≡ start_of (is_lost l.named l.free) l.k;
  found : Finds (FoundAmong (λ k. (64 * l.i ≤ k) × (ends_lost l.named l.free k ≡ true))
      (λ k. finding 1 (start_of (is_lost l.named l.free) k) k) l.k) l.fn.found l.found;
}
