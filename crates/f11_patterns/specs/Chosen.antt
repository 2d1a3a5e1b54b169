-- Which names of a directory are chosen, in their order (RSX-11M-PLUS MCR Operations Manual, file specifications and wildcards; RSX-11M
-- Utilities manual, PIP, `/PU`).
use Rattle.std.specs.Prelude.{◌≡◌, ◌⊎◌, ℕ, List, [], ◌∷◌, ◌++◌, Contains}
use Rattle.f11_patterns.specs.Meant.{IsSuperseded, Means}
use Rattle.f11_patterns.specs.Parts.{Parts}
use Rattle.f11_patterns.specs.declared.choose.Choice.{Choice}
use Rattle.f11_patterns.specs.declared.choose.Choice.TheVariants.{Meant, Superseded}

-- A name among all names of a directory is chosen: a pattern means it, or a purge deletes it.
abbrev pub IsChosen : Choice → Parts → List (List ℕ) → List ℕ → Type 0
IsChosen Meant parts all name = Means parts all name
IsChosen Superseded parts all name = IsSuperseded parts all name

-- P holds of a name, and none of those before it is the same.
pub record IsFirst (P : List ℕ → Type 0) (before : List (List ℕ)) (name : List ℕ) : Type 0 where
  pub is : P name
  pub first : ¬ Contains before name

-- The first of some names is one of those, and the rest of those are among the others.
pub record HasFirst (Rest : List (List ℕ) → Type 0) (name : List ℕ) (those : List (List ℕ)) : Type 0 where
  pub rest : List (List ℕ)
  pub first : those ≡ name ∷ rest
  pub others : Rest rest

-- Of the names behind some others those are told of which P holds, in their order, each where it stands first: of the next name that holds,
-- and it comes first, or it doesn't.
abbrev pub AreThoseBehind : (List ℕ → Type 0) → List (List ℕ) → List (List ℕ) → List (List ℕ) → Type 0
AreThoseBehind P before [] those = those ≡ []
AreThoseBehind P before (name ∷ names) those =
    (IsFirst P before name × HasFirst (AreThoseBehind P (before ++ name ∷ []) names) name those)
    ⊎ ((¬ IsFirst P before name) × AreThoseBehind P (before ++ name ∷ []) names those)

-- Of all names of a directory those that are chosen.
abbrev pub AreChosen : Choice → Parts → List (List ℕ) → List (List ℕ) → Type 0
AreChosen choice parts names those = AreThoseBehind (IsChosen choice parts names) [] names those

-- those that a pattern means
abbrev pub AreMeant : Parts → List (List ℕ) → List (List ℕ) → Type 0
AreMeant parts names those = AreChosen Meant parts names those
