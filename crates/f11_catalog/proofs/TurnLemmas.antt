-- A list, and behind it what the numbers give that aren't met in it: the next one, first of the list and then behind it.
use Rattle.std.proofs.Common.{◌≡◌, ◌++◌, ◌||◌, ℕ, Bool, false, List, [], ◌∷◌, sym, ap, ◌∙◌}
use Rattle.std.proofs.Math.Bool.{or_assoc, or-false}
use Rattle.std.specs.List.{list_any}

module _ {X : Type 0} (meets : X → ℕ → Bool) (behind : (ℕ → Bool) → List X) where
  -- number n was met, or will be in this list
  abbrev pub met_or : (ℕ → Bool) → List X → ℕ → Bool
  met_or met xs n = met n || list_any (λ x. meets x n) xs

  -- the next is the list's first
  pub turn-first : (met later : ℕ → Bool) (x : X) (all xs : List X) → all ≡ x ∷ xs → ((n : ℕ) → later n ≡ (met n || meets x n))
      → all ++ behind (met_or met all) ≡ x ∷ (xs ++ behind (met_or later xs))
  turn-first met later x all xs is marks =
      let known : met_or met (x ∷ xs) ≡ met_or later xs =
      λ i. λ n. (sym (or_assoc (met n) (meets x n) (list_any (λ x. meets x n) xs))
      ∙ ap (λ (b : Bool). b || list_any (λ x. meets x n) xs) (sym (marks n))) i in
      ap (λ (l : List X). l ++ behind (met_or met l)) is ∙ ap (λ (f : ℕ → Bool). x ∷ (xs ++ behind f)) known

  -- the list is empty
  pub turn-behind : (met : ℕ → Bool) (all : List X) → all ≡ [] → all ++ behind (met_or met all) ≡ behind met
  turn-behind met all is =
      let known : met_or met [] ≡ met = λ i. λ n. or-false (met n) i in
      ap (λ (l : List X). l ++ behind (met_or met l)) is ∙ ap behind known

  -- all begins with a list in which these were met, and none before
  pub turn-begin : (met : ℕ → Bool) (all xs : List X) → all ≡ xs → ((n : ℕ) → met n ≡ false)
      → all ++ behind (met_or met all) ≡ xs ++ behind (λ n. list_any (λ x. meets x n) xs)
  turn-begin met all xs is none =
      let known : met_or met xs ≡ (λ n. list_any (λ x. meets x n) xs) =
      λ i. λ n. ap (λ (b : Bool). b || list_any (λ x. meets x n) xs) (none n) i in
      ap (λ (l : List X). l ++ behind (met_or met l)) is ∙ ap (λ (f : ℕ → Bool). xs ++ behind f) known
