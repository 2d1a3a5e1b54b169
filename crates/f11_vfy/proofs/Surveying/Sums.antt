-- Sums that reach one or two.
use Rattle.std.proofs.Common.{◌≡◌, ◌≤◌, ◌<◌, ◌+◌, ◌⊎◌, inl, inr, ℕ, zero, suc, refl, ap, sym, subst, arith, add-one}
use Rattle.std.proofs.lemmas.Bool.{cases_lt}
use Rattle.f11_vfy.specs.Surveying.Count.{sum_to}

pub sum_to-none : (f : ℕ → ℕ) → sum_to f 0 ≡ 0
unfolding sum_to
sum_to-none f = refl

pub sum_to-more : (f : ℕ → ℕ) (n : ℕ) → sum_to f (n + 1) ≡ sum_to f n + f n
unfolding sum_to
sum_to-more f n = ap (sum_to f) (add-one n)

-- each term is in the sum, and two terms are
pub term : (f : ℕ → ℕ) (n m : ℕ) → m < n → f m ≤ sum_to f n
unfolding sum_to
term f zero m h = absurd (omega arith)
term f (suc n) m h = go (cases_lt m n) (term f n m)
  where
    go : (m < n) ⊎ (n ≤ m) → (m < n → f m ≤ sum_to f n) → f m ≤ sum_to f n + f n
    go (inl l) r = let x : f m ≤ sum_to f n = r l in omega arith
    go (inr l) r = let e : m ≡ n = omega arith in subst (λ z. f z ≤ sum_to f n + f n) (sym e) (omega arith)

pub two_terms : (f : ℕ → ℕ) (n m k : ℕ) → m < k → k < n → f m + f k ≤ sum_to f n
unfolding sum_to
two_terms f zero m k l h = absurd (omega arith)
two_terms f (suc n) m k l h = go (cases_lt k n) (two_terms f n m k l)
  where
    go : (k < n) ⊎ (n ≤ k) → (k < n → f m + f k ≤ sum_to f n) → f m + f k ≤ sum_to f n + f n
    go (inl x) r = let y : f m + f k ≤ sum_to f n = r x in omega arith
    go (inr x) r =
        let e : k ≡ n = omega arith in
        subst (λ z. f m + f z ≤ sum_to f n + f n) (sym e) (let y : f m ≤ sum_to f n = term f n m (omega arith) in omega arith)

-- a sum that reaches one has a term that does
pub some_term : (f : ℕ → ℕ) (n : ℕ) → 1 ≤ sum_to f n → (m : ℕ) × (m < n) × (1 ≤ f m)
unfolding sum_to
some_term f zero h = absurd (omega arith)
some_term f (suc n) h = go (cases_lt 0 (f n)) (some_term f n)
  where
    go : (0 < f n) ⊎ (f n ≤ 0) → (1 ≤ sum_to f n → (m : ℕ) × (m < n) × (1 ≤ f m)) → (m : ℕ) × (m < suc n) × (1 ≤ f m)
    go (inl x) e = (n, omega arith, omega arith)
    go (inr x) e = let r : (m : ℕ) × (m < n) × (1 ≤ f m) = e (omega arith) in (r.0, omega arith, r.2)

-- two terms that reach one
pub record Pair (f : ℕ → ℕ) (n : ℕ) : Type 0 where
  pub low : ℕ
  pub high : ℕ
  pub apart : low < high
  pub inside : high < n
  pub at_low : 1 ≤ f low
  pub at_high : 1 ≤ f high

-- a sum that reaches two has a term that does, or two that reach one
pub pair_of_terms : (f : ℕ → ℕ) (n : ℕ) → 2 ≤ sum_to f n → ((m : ℕ) × (m < n) × (2 ≤ f m)) ⊎ Pair f n
unfolding sum_to
pair_of_terms f zero h = absurd (omega arith)
pair_of_terms f (suc n) h = go (cases_lt 1 (f n)) (cases_lt 0 (f n)) (pair_of_terms f n)
  where
    earlier : ((m : ℕ) × (m < n) × (2 ≤ f m)) ⊎ Pair f n → ((m : ℕ) × (m < suc n) × (2 ≤ f m)) ⊎ Pair f (suc n)
    earlier (inl r) = inl (r.0, omega arith, r.2)
    earlier (inr p) =
        inr (record { low = p.low; high = p.high; apart = p.apart; inside = omega arith; at_low = p.at_low; at_high = p.at_high })

    go : (1 < f n) ⊎ (f n ≤ 1) → (0 < f n) ⊎ (f n ≤ 0) → (2 ≤ sum_to f n → ((m : ℕ) × (m < n) × (2 ≤ f m)) ⊎ Pair f n)
        → ((m : ℕ) × (m < suc n) × (2 ≤ f m)) ⊎ Pair f (suc n)
    go (inl x) y z = inl (n, omega arith, omega arith)
    go (inr x) (inl y) z =
        let r : (m : ℕ) × (m < n) × (1 ≤ f m) = some_term f n (omega arith) in
        inr (record { low = r.0; high = n; apart = r.1; inside = omega arith; at_low = r.2; at_high = omega arith })
    go (inr x) (inr y) z = earlier (z (omega arith))

-- a sum of fewer terms is no more
pub sum_to-le : (f : ℕ → ℕ) (n m : ℕ) → n ≤ m → sum_to f n ≤ sum_to f m
unfolding sum_to
sum_to-le f n zero less = let e : n ≡ 0 = omega arith in subst (λ k. sum_to f k ≤ 0) (sym e) (omega (arith, sum_to-none f))
sum_to-le f n (suc m) less = go (cases_lt n (suc m)) (sum_to-le f n m)
  where
    go : (n < suc m) ⊎ (suc m ≤ n) → (n ≤ m → sum_to f n ≤ sum_to f m) → sum_to f n ≤ sum_to f m + f m
    go (inl h) rest = let x : sum_to f n ≤ sum_to f m = rest (omega arith) in omega arith
    go (inr h) rest = let e : n ≡ suc m = omega arith in subst (λ k. sum_to f k ≤ sum_to f m + f m) (sym e) (omega arith)
