-- What is found, a part of it after another (profile).
use Rattle.std.specs.Prelude.{◌≡◌, ◌⊎◌, ℕ, ◌<◌, List, Contains}
use Rattle.f11_findings.specs.Finding.{finding, IsInOrder}
use Rattle.f11_findings.specs.declared.finding.Finding.{Finding}

-- The new list has the findings of the old one and those of this relation of a code and two numbers, and no others.
pub record Finds (R : ℕ → ℕ → ℕ → Type 0) (old new : List Finding) : Type 0 where
  pub kept : (f : Finding) → Contains old f → Contains new f
  pub added : (code a b : ℕ) → R code a b → Contains new (finding code a b)
  pub no_others : (f : Finding) → Contains new f → Contains old f ⊎ R f.code f.a f.b
  pub order : IsInOrder old → IsInOrder new

-- for one of the first n numbers this holds, and the finding is that of the number
pub record FoundAmong (P : ℕ → Type 0) (found : ℕ → Finding) (n code a b : ℕ) : Type 0 where
  pub number : ℕ
  pub below : number < n
  pub holds : P number
  pub is : finding code a b ≡ found number

-- for one of the first n numbers the relation of that number says the finding
pub record FoundOfEach (R : ℕ → ℕ → ℕ → ℕ → Type 0) (n code a b : ℕ) : Type 0 where
  pub number : ℕ
  pub below : number < n
  pub says : R number code a b

-- this finding and no other, where that holds
abbrev pub Where : Type 0 → Finding → ℕ → ℕ → ℕ → Type 0
Where P f code a b = P × (finding code a b ≡ f)

-- what one of two relations says
abbrev pub Either : (ℕ → ℕ → ℕ → Type 0) → (ℕ → ℕ → ℕ → Type 0) → ℕ → ℕ → ℕ → Type 0
Either R S code a b = R code a b ⊎ S code a b
