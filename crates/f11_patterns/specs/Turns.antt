-- What a file of the host gets in one of the two turns in which names are given.
use Rattle.f11_patterns.specs.Giving.{Giving, GetsFitted, GetsOwn, Naming}
use Rattle.f11_patterns.specs.declared.giving.Turn.{Turn}
use Rattle.f11_patterns.specs.declared.giving.Turn.TheVariants as turn

-- its own name in the first, and the fitted one in the other
abbrev pub GetsIn : {X : Type 0} → Turn → Naming X → Giving X
GetsIn turn.Own naming = GetsOwn naming
GetsIn turn.Fitted naming = GetsFitted naming
