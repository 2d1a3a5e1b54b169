use Rattle.std.proofs.Common.{length}
use Rattle.f11_words.proofs.hosts.+has_each.Given as goal

abbrev pub decreases-has_each : goal.decreases-has_each
decreases-has_each l = length l.words.now
