use Rattle.std.proofs.Common.{length}
use Rattle.f11_words.proofs.hosts.+behind_options.Given as goal

abbrev pub decreases-behind_options : goal.decreases-behind_options
decreases-behind_options l = length l.words.now
