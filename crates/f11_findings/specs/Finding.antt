-- What a verifier finds (profile).
use Rattle.std.specs.Prelude.{◌≡◌, ◌⊎◌, ℕ, ◌+◌, ◌<◌, ◌≤◌, Bool, if◌then◌else◌, List, [], ◌∷◌}
use Rattle.std.specs.Prelude.{length, All, AllPairs, Contains, slice_index_or}
use Rattle.f11_findings.specs.declared.finding.Finding.{Finding}

-- the finding of this code and these numbers
abbrev pub finding : ℕ → ℕ → ℕ → Finding
finding code a b = record { code = code; a = a; b = b }

-- One finding stands before another: in the order of the codes, then of the first numbers, then of the second.
pub record IsBefore (f g : Finding) : Type 0 where
  pub code : f.code ≤ g.code
  pub a : f.code ≡ g.code → f.a ≤ g.a
  pub b : f.code ≡ g.code → f.a ≡ g.a → f.b < g.b

-- findings in their order, so each once
abbrev pub IsInOrder : List Finding → Type 0
IsInOrder found = AllPairs IsBefore found

-- A list is exactly what a relation of a code and two numbers says is found: each of it is found, all that is found is in it,
-- and it is in order.
pub record IsExactly (R : ℕ → ℕ → ℕ → Type 0) (found : List Finding) : Type 0 where
  pub each : All (λ f. R f.code f.a f.b) found
  pub all : (code a b : ℕ) → R code a b → Contains found (finding code a b)
  pub order : IsInOrder found

-- The new list has the findings of the old one and these more, and no others, in order if the old one is.
pub record AddsFindings (old new more : List Finding) : Type 0 where
  pub kept : (f : Finding) → Contains old f → Contains new f
  pub added : (f : Finding) → Contains more f → Contains new f
  pub no_others : (f : Finding) → Contains new f → Contains old f ⊎ Contains more f
  pub order : IsInOrder old → IsInOrder new

-- no more of them are kept than so many
abbrev pub KeepsWithin : ℕ → List Finding → List Finding → Type 0
KeepsWithin most old new = length old ≤ most → length new ≤ most

-- the finding, where the test holds
abbrev pub if_so : Bool → Finding → List Finding
if_so holds f = if holds then f ∷ [] else []

-- A finding stands before those from this place on, and behind the one in front of it.
pub record IsPlaceFor (found : List Finding) (f : Finding) (at : ℕ) : Type 0 where
  pub within : at ≤ length found
  pub behind : (k : ℕ) (d : Finding) → at ≤ k → k < length found → IsBefore f (slice_index_or found k d)
  pub front : (k : ℕ) (d : Finding) → at ≡ k + 1 → IsBefore (slice_index_or found k d) f
