use Rattle.f11_rad50.proofs.pieces.+put_octal.Given as goal

abbrev pub decreases-put_octal : goal.decreases-put_octal
decreases-put_octal l = l.number
