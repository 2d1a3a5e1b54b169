use Rattle.std.proofs.Common.{◌≡◌, ◌≤◌, length}
use Rattle.f11_script.specs.Answers.{without_zeros}
use Rattle.f11_script.proofs.answer.without_zeros.Given as goal

abbrev pub invariant-loop-kept : goal.invariant-loop-kept
invariant-loop-kept l = record {
  zeros : without_zeros l.kept ≡ without_zeros l.bytes;
  within : length l.kept ≤ length l.bytes;
}

abbrev pub decreases-loop-kept : goal.decreases-loop-kept
decreases-loop-kept l = length l.kept
