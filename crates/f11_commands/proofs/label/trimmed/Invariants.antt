use Rattle.std.proofs.Common.{◌≡◌, length}
use Rattle.f11_commands.specs.Label.{without_filler}
use Rattle.f11_commands.proofs.label.trimmed.Given as goal

abbrev pub invariant-loop-kept : goal.invariant-loop-kept
invariant-loop-kept l = without_filler l.kept ≡ without_filler l.bytes

abbrev pub decreases-loop-kept : goal.decreases-loop-kept
decreases-loop-kept l = length l.kept
