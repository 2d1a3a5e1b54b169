use Rattle.std.proofs.Common.{◌+◌, length}
use Rattle.f11_patterns.proofs.like.+is_like.Given as goal

abbrev pub decreases-is_like : goal.decreases-is_like
decreases-is_like l = length l.pattern.now + length l.text.now
