-- Which names of a directory a pattern means (RSX-11M-PLUS MCR Operations Manual, file specifications and wildcards).
use Rattle.std.specs.Prelude.{◌≡◌, ◌⊎◌, ◌==◌, ◌&&◌, ℕ, Bool, true, false, nat_lt, All, Contains, List, slice_index_or}
use Rattle.f11_patterns.specs.declared.versions.Versions.TheVariants.{Each, Highest}
use Rattle.f11_patterns.specs.Parts.{Parts}
use Rattle.f11_patterns.specs.Pattern.{Fits, with_versions}

-- one of the five words of a name
abbrev pub word_at : List ℕ → ℕ → ℕ
word_at words i = slice_index_or words i 0

-- two names have one name and one type: the first four words
abbrev pub are_alike : List ℕ → List ℕ → Bool
are_alike a b =
    (word_at a 0 == word_at b 0) && ((word_at a 1 == word_at b 1) && ((word_at a 2 == word_at b 2) && (word_at a 3 == word_at b 3)))

-- one is a higher version of the other: the fifth word
abbrev pub is_higher : List ℕ → List ℕ → Bool
is_higher one other = are_alike one other && nat_lt (word_at other 4) (word_at one 4)

-- none of these names is a higher version of one
abbrev pub IsHighest : List (List ℕ) → List ℕ → Type 0
IsHighest names name = All (λ other. is_higher other name ≡ false) names

-- The highest version of a name among some names: it is that itself, or one of these, of the same name and type, and none of these is
-- higher.
pub record IsHighestVersion (names : List (List ℕ)) (name highest : List ℕ) : Type 0 where
  pub among : (highest ≡ name) ⊎ Contains names highest
  pub alike : are_alike highest name ≡ true
  pub none_higher : IsHighest names highest

-- A pattern means a name among these: it fits, and is the highest version where that is asked for.
pub record Means (parts : Parts) (names : List (List ℕ)) (name : List ℕ) : Type 0 where
  pub fits : Fits parts name
  pub highest : parts.versions ≡ Highest → IsHighest names name

-- A name fits a pattern, whatever its version, and one of these names is a higher version of it.
pub record IsSuperseded (parts : Parts) (names : List (List ℕ)) (name : List ℕ) : Type 0 where
  pub fits : Fits (with_versions Each parts) name
  pub superseded : ¬ IsHighest names name
