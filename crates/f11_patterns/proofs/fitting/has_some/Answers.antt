use Rattle.std.proofs.Common.{arith}
use Rattle.f11_patterns.proofs.FittingLemmas.{numeral-zero}
use Rattle.f11_patterns.proofs.fitting.has_some.Goals as goal

pub fitted_text-requires-clause-number : goal.fitted_text-requires-clause-number
fitted_text-requires-clause-number c = rw numeral-zero (omega arith)
