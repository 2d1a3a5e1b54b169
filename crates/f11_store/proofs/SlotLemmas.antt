-- How many slots are free where some come into use.
use Rattle.std.proofs.Common.{◌≡◌, ◌≢◌, ℕ, zero, suc, ◌+◌, ◌≤◌, ◌==◌, ◌&&◌, ◌||◌, Bool, true, false, not, List, [], ◌∷◌, length, refl, sym}
use Rattle.std.proofs.Common.{arith, filter, if◌then◌else◌, ◌⊎◌, inl, inr}
use Rattle.std.specs.List.{range_with_len}
use Rattle.std.proofs.lemmas.Bool.Decides.{eqb_tells}
use Rattle.f11_store.specs.Changes.{is_in}
use Rattle.f11_store.proofs.StoreLemmas.{other_number}

-- one more element, and what it counts
count_of_one : Bool → ℕ
count_of_one true = 1
count_of_one false = 0

length-filter-cons : (p : ℕ → Bool) (x : ℕ) (xs : List ℕ) → length (filter p (x ∷ xs)) ≡ length (filter p xs) + count_of_one (p x)
unfolding count_of_one
length-filter-cons p x xs = by_test (p x)
  where
    by_test : (b : Bool) → length (if b then x ∷ filter p xs else filter p xs) ≡ length (filter p xs) + count_of_one b
    by_test true = omega arith
    by_test false = omega arith

-- a test that passes wherever another does counts no less
count_no_less : (b c : Bool) → (b ≡ true → c ≡ true) → count_of_one b ≤ count_of_one c
unfolding count_of_one
count_no_less false c h = omega arith
count_no_less true true h = omega arith
count_no_less true false h = absurd (let e = h refl in cc)

count_at_most : (b : Bool) → count_of_one b ≤ 1
unfolding count_of_one
count_at_most true = omega arith
count_at_most false = omega arith

-- more pass a test that is passed wherever another is
pub filter_no_less :
    (p q : ℕ → Bool) (a m : ℕ) → ((n : ℕ) → a ≤ n → p n ≡ true → q n ≡ true) →
    length (filter p (range_with_len a m)) ≤ length (filter q (range_with_len a m))
filter_no_less p q a zero h = omega arith
filter_no_less p q a (suc m) h =
    omega (
      arith,
      length-filter-cons p a (range_with_len (a + 1) m),
      length-filter-cons q a (range_with_len (a + 1) m),
      count_no_less (p a) (q a) (h a (omega arith)),
      filter_no_less p q (a + 1) m (λ n le. h n (omega arith)),
    )

-- at most one less passes where one number is left out
filter_but_one :
    (p q : ℕ → Bool) (x a m : ℕ) → ((n : ℕ) → n ≢ x → p n ≡ true → q n ≡ true) →
    length (filter p (range_with_len a m)) ≤ length (filter q (range_with_len a m)) + 1
filter_but_one p q x a zero h = omega arith
filter_but_one p q x a (suc m) h = by_number (eqb_tells a x) (filter_but_one p q x (a + 1) m h)
  where
    by_number : ((a == x) ≡ true) × (a ≡ x) ⊎ ((a == x) ≡ false) × (a ≢ x) →
        length (filter p (range_with_len (a + 1) m)) ≤ length (filter q (range_with_len (a + 1) m)) + 1 →
        length (filter p (range_with_len a (suc m))) ≤ length (filter q (range_with_len a (suc m))) + 1
    by_number (inl w) rest = omega (
      arith,
      length-filter-cons p a (range_with_len (a + 1) m),
      length-filter-cons q a (range_with_len (a + 1) m),
      count_at_most (p a),
      filter_no_less p q (a + 1) m (λ n le. h n (λ e. omega (arith, w.1))),
    )
    by_number (inr w) rest = omega (
      arith,
      length-filter-cons p a (range_with_len (a + 1) m),
      length-filter-cons q a (range_with_len (a + 1) m),
      count_no_less (p a) (q a) (h a w.1),
    )

-- what passes both of two tests
both_true : (b c : Bool) → b ≡ true → c ≡ true → (b && c) ≡ true
both_true true true h k = refl
both_true false c h k = absurd (cc)
both_true true false h k = absurd (cc)

first_true : (b c : Bool) → (b && c) ≡ true → b ≡ true
first_true true c h = refl
first_true false c h = absurd (cc)

second_false : (b c : Bool) → (b && not c) ≡ true → c ≡ false
second_false true false h = refl
second_false true true h = absurd (cc)
second_false false c h = absurd (cc)

none_of_two : (b c : Bool) → b ≡ false → c ≡ false → (b || c) ≡ false
none_of_two false false h k = refl
none_of_two true c h k = absurd (cc)
none_of_two false true h k = absurd (cc)

not_of_false : (b : Bool) → b ≡ false → not b ≡ true
not_of_false false h = refl
not_of_false true h = absurd (cc)

-- at most so many fewer pass where so many numbers are left out
pub filter_but :
    (slots : List ℕ) (p q : ℕ → Bool) (a m : ℕ) → ((n : ℕ) → is_in slots n ≡ false → p n ≡ true → q n ≡ true) →
    length (filter p (range_with_len a m)) ≤ length (filter q (range_with_len a m)) + length slots
filter_but [] p q a m h = omega (arith, filter_no_less p q a m (λ n le. h n refl))
filter_but (x ∷ xs) p q a m h =
    omega (
      arith,
      filter_but xs p (λ n. p n && not (is_in xs n)) a m (λ n out t. both_true (p n) (not (is_in xs n)) t (not_of_false (is_in xs n) out)),
      filter_but_one (λ n. p n && not (is_in xs n)) q x a m
          (λ n differs t. h n (none_of_two (x == n) (is_in xs n) (other_number x n (λ e. differs (sym e)))
          (second_false (p n) (is_in xs n) t)) (first_true (p n) (not (is_in xs n)) t)),
    )

-- more pass among more numbers
pub filter_more :
    (q : ℕ → Bool) (a m d : ℕ) → length (filter q (range_with_len a m)) ≤ length (filter q (range_with_len a (m + d)))
filter_more q a zero d = omega arith
filter_more q a (suc m) d =
    let e : suc m + d ≡ suc (m + d) = omega arith in
    rw e (omega (
      arith,
      length-filter-cons q a (range_with_len (a + 1) m),
      length-filter-cons q a (range_with_len (a + 1) (m + d)),
      filter_more q (a + 1) m d,
    ))
