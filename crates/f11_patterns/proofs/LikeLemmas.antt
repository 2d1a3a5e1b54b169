-- Texts that are like a pattern which begins with `*`.
use Rattle.std.proofs.Common.{◌≡◌, ℕ, zero, suc, ◌+◌, ◌-◌, ◌<◌, ◌≤◌, List, [], ◌∷◌, length, get_or, take, drop, arith, refl, sym, drop-drop}
use Rattle.std.proofs.Common.{length-drop}
use Rattle.std.proofs.lemmas.List.{take_rest}
use Rattle.f11_patterns.specs.Like.{IsLike, LeavesSuch}

-- what is left of a text behind some of its characters, and not behind none, is left of the rest
pub LeavesSuch-rest : (P : List ℕ → Type 0) (first : ℕ) (others : List ℕ) → (P (first ∷ others) → ⊥) → LeavesSuch P (first ∷ others)
    → LeavesSuch P others
LeavesSuch-rest P first others not such = by_count such.0 such.1.0 such.1.1
  where
    by_count : (n : ℕ) → n ≤ length (first ∷ others) → P (drop n (first ∷ others)) → LeavesSuch P others
    by_count zero within is = absurd (not is)
    by_count (suc n) within is = (n, (omega arith, is))

-- and what is left of the rest is left of the text
pub LeavesSuch-more : (P : List ℕ → Type 0) (first : ℕ) (others : List ℕ) → LeavesSuch P others → LeavesSuch P (first ∷ others)
LeavesSuch-more P first others such = let within : such.0 ≤ length others = such.1.0 in (suc such.0, (omega arith, such.1.1))

-- a list by its first element and the others
first-others : (xs : List ℕ) (x : ℕ) → 1 ≤ length xs → get_or xs 0 0 ≡ x → xs ≡ x ∷ take (length xs - 1) (drop 1 xs)
first-others [] x some is = absurd (omega (arith, some))
first-others (y ∷ ys) x some is = rw (take_rest (y ∷ ys) 1, sym is) refl

-- so where a text isn't like what follows `*`, it is like the pattern just where the rest of it is
pub star-rest : (pattern text : List ℕ) → 1 ≤ length pattern → get_or pattern 0 0 ≡ 42 → 1 ≤ length text
    → (IsLike (take (length pattern - 1) (drop 1 pattern)) text → ⊥) →
    (IsLike pattern (take (length text - 1) (drop 1 text)) → IsLike pattern text)
    × (IsLike pattern text → IsLike pattern (take (length text - 1) (drop 1 text)))
star-rest pattern text some star more not =
    of_parts pattern text _ _ (get_or text 0 0) (first-others pattern 42 some star) (first-others text (get_or text 0 0) more refl) not
  where
    of_parts : (pattern text rest others : List ℕ) (first : ℕ) → pattern ≡ 42 ∷ rest → text ≡ first ∷ others → (IsLike rest text → ⊥)
        → (IsLike pattern others → IsLike pattern text) × (IsLike pattern text → IsLike pattern others)
    of_parts pattern text rest others first p t not =
        rw (p, t) (
          LeavesSuch-more (IsLike rest) first others,
          LeavesSuch-rest (IsLike rest) first others (λ like. not (rw t like)),
        )

-- what is left twice is left once
LeavesSuch-twice : (P : List ℕ → Type 0) (text : List ℕ) → LeavesSuch (LeavesSuch P) text → LeavesSuch P text
LeavesSuch-twice P text such =
    let n : ℕ = such.0 in
    let m : ℕ = such.1.1.0 in
    let within : m ≤ length (drop n text) = such.1.1.1.0 in
    let before : n ≤ length text = such.1.0 in
    let together : drop m (drop n text) ≡ drop (n + m) text = drop-drop m n text in
    (n + m, (omega (arith, length-drop n text, within, before), rw (← together) such.1.1.1.1))

-- so where a text isn't like what follows `*`, and this begins with another one, it isn't like the pattern
pub star-star : (pattern text : List ℕ) → 1 ≤ length pattern → get_or pattern 0 0 ≡ 42
    → 0 < length (take (length pattern - 1) (drop 1 pattern)) → get_or (take (length pattern - 1) (drop 1 pattern)) 0 0 ≡ 42
    → IsLike pattern text → IsLike (take (length pattern - 1) (drop 1 pattern)) text
star-star pattern text some star more again like =
    of_parts _ _ (first-others pattern 42 some star) (first-others (take (length pattern - 1) (drop 1 pattern)) 42 more again) like
  where
    of_parts : (rest others : List ℕ) → pattern ≡ 42 ∷ rest → rest ≡ 42 ∷ others → IsLike pattern text → IsLike rest text
    of_parts rest others p r like =
        let twice : IsLike (42 ∷ 42 ∷ others) text = rw (p, r) at like in
        rw r (LeavesSuch-twice (IsLike others) text twice)
