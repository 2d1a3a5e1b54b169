-- What bytes or a word hold of a date: nothing, the date, or what is none.
use Rattle.std.specs.Prelude.{Bool, Option, if◌then◌else◌}
use Rattle.std.specs.Option.{option_map_or}
use Rattle.f11_dates.specs.declared.dated.Dated.{Dated}
use Rattle.f11_dates.specs.declared.dated.Dated.TheVariants.{Unset, Set, Invalid}

-- nothing where it is empty, else what is found, if there is something
abbrev pub held : {A : Type 0} → Bool → Option A → Dated A
held empty found = if empty then Unset else option_map_or Set found Invalid

-- The same as a relation: nothing where it is empty, what it spells, or what isn't empty and spells nothing.
abbrev pub Holds : {A : Type 0} → Type 0 → (A → Type 0) → Dated A → Type 0
Holds Empty Spells Unset = Empty
Holds Empty Spells (Set x) = ¬ Empty × Spells x
Holds {A} Empty Spells Invalid = ¬ Empty × ((x : A) → ¬ Spells x)
