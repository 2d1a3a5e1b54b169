-- Slots in lists, and in no list twice.
use Rattle.std.proofs.Common.{◌≡◌, ℕ, zero, suc, ◌+◌, ◌-◌, ◌≤◌, ◌==◌, ◌||◌, Bool, true, false, not, List, [], ◌∷◌, ◌++◌, take, drop, filter}
use Rattle.std.proofs.Common.{refl, sym, ◌∙◌, ap, subst, arith, if◌then◌else◌}
use Rattle.std.specs.List.{range_with_len}
use Rattle.std.proofs.lemmas.Bool.{eqb-true}
use Rattle.std.proofs.lemmas.List.Folds.{list_any-append}
use Rattle.f11_store.specs.Store.{Store, free_slots}
use Rattle.f11_store.specs.Changes.{is_in}
use Rattle.f11_store.proofs.StoreLemmas.{same_number}
use Rattle.f11_runs.specs.Standing.{AreDistinct}

-- what follows from a test that fails, and from one of two that passes
pub fails-so : (b c : Bool) → (b ≡ true → c ≡ true) → c ≡ false → b ≡ false
fails-so false c so h = refl
fails-so true c so h = absurd (let e = so refl in cc)

or-so : (b c d : Bool) → (c ≡ true → d ≡ true) → (b || c) ≡ true → (b || d) ≡ true
or-so true c d so h = refl
or-so false c d so h = so h

pub neither : (b c : Bool) → b ≡ false → c ≡ false → (b || c) ≡ false
neither false false h k = refl
neither true c h k = absurd (cc)
neither false true h k = absurd (cc)

pub in-two : (xs ys : List ℕ) (n : ℕ) → is_in (xs ++ ys) n ≡ (is_in xs n || is_in ys n)
in-two xs ys n = list_any-append (λ m. m == n) xs ys

-- a slot of one alone
pub in-one : (k n : ℕ) → is_in (k ∷ []) n ≡ true → k ≡ n
in-one k n h = by_test (k == n) refl h
  where
    by_test : (b : Bool) → (k == n) ≡ b → (b || false) ≡ true → k ≡ n
    by_test true e h = eqb-true k n e
    by_test false e h = absurd (cc)

-- the first so many, and the others
pub in-take : (k : ℕ) (xs : List ℕ) (n : ℕ) → is_in (take k xs) n ≡ true → is_in xs n ≡ true
in-take zero xs n h = absurd (cc)
in-take (suc k) [] n h = absurd (cc)
in-take (suc k) (x ∷ xs) n h = or-so (x == n) (is_in (take k xs) n) (is_in xs n) (in-take k xs n) h

pub in-drop : (k : ℕ) (xs : List ℕ) (n : ℕ) → is_in (drop k xs) n ≡ true → is_in xs n ≡ true
in-drop zero xs n h = h
in-drop (suc k) [] n h = absurd (cc)
in-drop (suc k) (x ∷ xs) n h = right (x == n) (is_in xs n) (in-drop k xs n h)
  where
    right : (b c : Bool) → c ≡ true → (b || c) ≡ true
    right true c h = refl
    right false c h = h

pub distinct-take : (k : ℕ) (xs : List ℕ) → AreDistinct xs → AreDistinct (take k xs)
distinct-take zero xs h = tt
distinct-take (suc k) [] h = tt
distinct-take (suc k) (x ∷ xs) h = (fails-so (is_in (take k xs) x) (is_in xs x) (in-take k xs x) h.0, distinct-take k xs h.1)

pub take-apart : (k : ℕ) (xs : List ℕ) (n : ℕ) → AreDistinct xs → is_in (take k xs) n ≡ true → is_in (drop k xs) n ≡ false
take-apart zero xs n d h = absurd (cc)
take-apart (suc k) [] n d h = absurd (cc)
take-apart (suc k) (x ∷ xs) n d h = by_test (x == n) refl h (take-apart k xs n d.1)
  where
    by_test : (b : Bool) → (x == n) ≡ b → (b || is_in (take k xs) n) ≡ true → (is_in (take k xs) n ≡ true → is_in (drop k xs) n ≡ false)
        → is_in (drop k xs) n ≡ false
    by_test true e h later =
        subst (λ (m : ℕ). is_in (drop k xs) m ≡ false) (eqb-true x n e) (fails-so (is_in (drop k xs) x) (is_in xs x) (in-drop k xs x) d.0)
    by_test false e h later = later h

pub distinct-two : (xs ys : List ℕ) → AreDistinct xs → AreDistinct ys → ((n : ℕ) → is_in xs n ≡ true → is_in ys n ≡ false)
    → AreDistinct (xs ++ ys)
distinct-two [] ys d e apart = e
distinct-two (x ∷ xs) ys d e apart = (
  in-two xs ys x ∙ neither (is_in xs x) (is_in ys x) d.0 (apart x (ap (λ b. b || is_in xs x) (same_number x))),
  distinct-two xs ys d.1 e (λ n h. apart n (later (x == n) (is_in xs n) h)),
)
  where
    later : (b c : Bool) → c ≡ true → (b || c) ≡ true
    later true c h = refl
    later false c h = h

-- numbers that pass a test, one after another
in-passed : (p : ℕ → Bool) (a m n : ℕ) → is_in (filter p (range_with_len a m)) n ≡ true → (a ≤ n) × (p n ≡ true)
in-passed p a zero n h = absurd (cc)
in-passed p a (suc m) n h = by_test (p a) refl h (in-passed p (a + 1) m n)
  where
    rest : List ℕ
    rest = filter p (range_with_len (a + 1) m)

    by_number : (b : Bool) → (a == n) ≡ b → p a ≡ true → (b || is_in rest n) ≡ true → (is_in rest n ≡ true → (a + 1 ≤ n) × (p n ≡ true))
        → (a ≤ n) × (p n ≡ true)
    by_number true e passes h later = let same : a ≡ n = eqb-true a n e in (omega arith, ap p (sym same) ∙ passes)
    by_number false e passes h later = let l = later h in (omega (arith, l.0), l.1)

    by_test : (b : Bool) → p a ≡ b → is_in (if b then a ∷ rest else rest) n ≡ true → (is_in rest n ≡ true → (a + 1 ≤ n) × (p n ≡ true))
        → (a ≤ n) × (p n ≡ true)
    by_test true e h later = by_number (a == n) refl e h later
    by_test false e h later = let l = later h in (omega (arith, l.0), l.1)

distinct-passed : (p : ℕ → Bool) (a m : ℕ) → AreDistinct (filter p (range_with_len a m))
distinct-passed p a zero = tt
distinct-passed p a (suc m) = by_test (p a) (distinct-passed p (a + 1) m)
  where
    rest : List ℕ
    rest = filter p (range_with_len (a + 1) m)

    not-again : (b : Bool) → is_in rest a ≡ b → b ≡ false
    not-again false e = refl
    not-again true e = let l = in-passed p (a + 1) m a e in absurd (omega (arith, l.0))

    by_test : (b : Bool) → AreDistinct rest → AreDistinct (if b then a ∷ rest else rest)
    by_test true d = (not-again (is_in rest a) refl, d)
    by_test false d = d

-- the least free slots
pub taken-free : (s : Store) (k n : ℕ) → is_in (take k (free_slots s)) n ≡ true → s.in_use n ≡ false
unfolding free_slots
taken-free s k n h =
    let l = in-passed (λ n. not (s.in_use n)) 6 (s.slots - 5) n (in-take k (free_slots s) n h) in
    not-so (s.in_use n) l.1
  where
    not-so : (b : Bool) → not b ≡ true → b ≡ false
    not-so false e = refl
    not-so true e = absurd (cc)

pub taken-distinct : (s : Store) (k : ℕ) → AreDistinct (take k (free_slots s))
unfolding free_slots
taken-distinct s k = distinct-take k (free_slots s) (distinct-passed (λ n. not (s.in_use n)) 6 (s.slots - 5))
