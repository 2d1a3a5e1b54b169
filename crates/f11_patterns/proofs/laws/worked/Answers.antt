use Rattle.f11_patterns.proofs.Worked.{star-works, percent-works, highest-works}
use Rattle.f11_patterns.proofs.FittingLemmas.{fitted-works}
use Rattle.f11_patterns.proofs.laws.worked.Goals as goal

pub returns : goal.returns
returns c = record { star = star-works; percent = percent-works; highest = highest-works; fitted = fitted-works }
