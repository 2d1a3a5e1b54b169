-- The names of a directory's files, taken one entry after another, in the order of the links.
use Rattle.std.specs.Prelude.{◌≡◌, ◌⊎◌, ◌↔◌, ℕ, Bool, true, List, IsTrue}
use Rattle.std.specs.BTreeSet.{BTreeSet, contains}
use Rattle.std.specs.Cmp.Lexicographic.{slice_cmp}
use Rattle.std.specs.Ordering.{nat_cmp}
use Rattle.f11_dev.specs.Image.{Image}
use Rattle.rt11_volume.specs.Entry.{name_words, is_permanent}
use Rattle.rt11_volume.specs.InHand.{visits}
use Rattle.rt11_volume.specs.Verifying.Notes.{RepeatsName}
use Rattle.rt11_volume.specs.declared.directory.Visited.{Visited}

-- a name was taken
abbrev pub has_name : BTreeSet (List ℕ) → List ℕ → Bool
has_name names name = contains (slice_cmp nat_cmp) names name

-- an entry is that of a file of this name
abbrev pub IsFileOf : List ℕ → List ℕ → Type 0
IsFileOf entry name = (is_permanent entry ≡ true) × (name_words entry ≡ name)

-- The name of an entry was taken, if it is that of a file, and whether it was taken before is told.
pub record TakesName (entry : List ℕ) (repeated : Bool) (old new : BTreeSet (List ℕ)) : Type 0 where
  pub told : IsTrue repeated ↔ ((is_permanent entry ≡ true) × (has_name old (name_words entry) ≡ true))
  pub taken : (name : List ℕ) → has_name new name ≡ true ↔ ((has_name old name ≡ true) ⊎ IsFileOf entry name)

-- the names that were taken are those of the files before entry i of the segment visited at this place
abbrev pub KnowsNames : Image → ℕ → ℕ → BTreeSet (List ℕ) → Type 0
KnowsNames image place i names = (entry : List ℕ) → has_name names (name_words entry) ≡ true ↔ RepeatsName image place i entry

-- Those before entry i of the segment at a place were taken: so are those before another entry of another one.
abbrev pub TakesNames : List Visited → (place i place' i' : ℕ) → BTreeSet (List ℕ) → BTreeSet (List ℕ) → Type 0
TakesNames vs place i place' i' old new =
    (image : Image) → vs ≡ visits image → KnowsNames image place i old → KnowsNames image place' i' new
