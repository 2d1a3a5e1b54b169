use Rattle.f11_patterns.proofs.fitting.+digits.Given as goal

abbrev pub decreases-digits : goal.decreases-digits
decreases-digits l = l.number
