use Rattle.std.proofs.Common.{ℕ, ◌<◌, [], slice_index_or}
use Rattle.f11_patterns.specs.Pattern.{Fits}
use Rattle.f11_patterns.specs.Lent.{parts_of}
use Rattle.f11_patterns.proofs.tests.first_that_fits.Given as goal

abbrev pub invariant-loop-at : goal.invariant-loop-at
invariant-loop-at l = (k : ℕ) → k < l.at → ¬ Fits (parts_of l.pattern) (slice_index_or l.names k [])
