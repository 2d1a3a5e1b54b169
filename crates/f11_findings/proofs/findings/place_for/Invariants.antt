use Rattle.std.proofs.Common.{ℕ, ◌<◌, ◌≤◌, length, get_or}
use Rattle.f11_findings.specs.declared.finding.Finding.{Finding}
use Rattle.f11_findings.specs.Finding.{IsBefore}
use Rattle.f11_findings.proofs.findings.place_for.Given as goal

-- the finding stands before those passed
abbrev pub invariant-loop-at : goal.invariant-loop-at
invariant-loop-at l = record {
  within : l.at ≤ length l.list;
  behind : (k : ℕ) (d : Finding) → l.at ≤ k → k < length l.list → IsBefore l.finding (get_or l.list k d);
}

abbrev pub decreases-loop-at : goal.decreases-loop-at
decreases-loop-at l = l.at
