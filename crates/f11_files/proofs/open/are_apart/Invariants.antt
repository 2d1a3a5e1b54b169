use Rattle.f11_files.proofs.Opening.Apart.{AreApartTo}
use Rattle.f11_files.proofs.open.are_apart.Given as goal

-- none of the first i is there twice
abbrev pub invariant-loop-i : goal.invariant-loop-i
invariant-loop-i l = AreApartTo l.places l.i
