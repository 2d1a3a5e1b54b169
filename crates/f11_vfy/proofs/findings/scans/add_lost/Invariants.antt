use Rattle.std.proofs.Common.{◌≡◌, ◌*◌, true, min}
use Rattle.f11_findings.specs.Finding.{finding}
use Rattle.f11_vfy.specs.Surveying.Bits.{limit_of}
use Rattle.f11_vfy.specs.Scanning.Scans.{is_lost, ends_lost, start_of}
use Rattle.f11_findings.specs.Found.{Finds, FoundAmong}
use Rattle.f11_vfy.proofs.findings.scans.add_lost.Given as goal

abbrev pub invariant-loop-i : goal.invariant-loop-i
invariant-loop-i l = record {
  start : l.start ≡ start_of (is_lost l.named l.free) (min (64 * l.i) (limit_of l.free));
  found : Finds (FoundAmong (λ k. ends_lost l.named l.free k ≡ true) (λ k. finding 1 (start_of (is_lost l.named l.free) k) k)
      (min (64 * l.i) (limit_of l.free))) l.initial.found l.found;
}
