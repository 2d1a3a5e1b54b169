-- Behind which file none is put any more, of those that are put one after another (profile).
use Rattle.std.specs.Prelude.{Bool, true, false}
use Rattle.f11_words.specs.declared.words.Manner.{Manner}
use Rattle.f11_words.specs.declared.words.Manner.TheVariants.{GoesOn, Stops, Tells}

-- whether it is one that is refused
abbrev pub stops : Manner → Bool
stops GoesOn = false
stops Stops = true
stops Tells = false
