-- Facts about how many numbers pass a test.
use Rattle.std.proofs.Common.{◌≡◌, ℕ, zero, suc, ◌+◌, ◌-◌, min, ◌<◌, ◌≤◌, Bool, true, false, cond, refl, sym, ◌∙◌, ap, inl, inr, arith}
use Rattle.std.proofs.lemmas.Bool.{cases_lt, cases_Bool}
use Rattle.f11_bits.specs.Bitmap.{count_below}

-- one for a number that passes, and none for one that doesn't
abbrev pub one_if : Bool → ℕ
one_if b = cond b 1 0

-- none below 0
pub count_below-zero : (test : ℕ → Bool) → count_below test 0 ≡ 0
unfolding count_below
count_below-zero test = refl

-- the next number
pub count_below-suc : (test : ℕ → Bool) (n : ℕ) → count_below test (suc n) ≡ count_below test n + one_if (test n)
unfolding count_below
count_below-suc test n = refl

-- at most all
pub count_below-le : (test : ℕ → Bool) (n : ℕ) → count_below test n ≤ n
count_below-le test zero = omega (arith, count_below-zero test)
count_below-le test (suc n) =
    elim (cases_Bool (test n)) [
      | inl passes ↦ omega (arith, count_below-suc test n, ap one_if passes, count_below-le test n)
      | inr fails ↦ omega (arith, count_below-suc test n, ap one_if fails, count_below-le test n)
    ]

-- the numbers below the first n, and those from there on
pub count_below-append : (p q : ℕ → Bool) (n m : ℕ) → ((k : ℕ) → k < m → p (n + k) ≡ q k)
    → count_below p (n + m) ≡ count_below p n + count_below q m
count_below-append p q n zero agree = let none : n + 0 ≡ n = omega arith in omega (arith, ap (count_below p) none, count_below-zero q)
count_below-append p q n (suc m) agree =
    let sum : n + suc m ≡ suc (n + m) = omega arith in
    let last : p (n + m) ≡ q m = agree m (omega arith) in
    omega (
      arith,
      ap (count_below p) sum,
      count_below-suc p (n + m),
      count_below-suc q m,
      ap one_if last,
      count_below-append p q n m (λ k below. agree k (omega arith)),
    )

-- where n numbers in a row pass so many do
pub count_below-run : (test : ℕ → Bool) (from n end : ℕ) → from + n ≤ end → ((k : ℕ) → from ≤ k → k < from + n → test k ≡ true)
    → n ≤ count_below test end
count_below-run test from n end within each =
    let whole : from + n + (end - (from + n)) ≡ end = omega (arith, within) in
    omega (
      arith,
      upto n (λ k low high. each k low high),
      count_below-append test (λ k. test (from + n + k)) (from + n) (end - (from + n))
          (λ k below. refl),
      ap (count_below test) whole,
    )
  where
    upto : (m : ℕ) → ((k : ℕ) → from ≤ k → k < from + m → test k ≡ true) → m ≤ count_below test (from + m)
    upto zero passes = omega arith
    upto (suc m) passes =
        let sum : from + suc m ≡ suc (from + m) = omega arith in
        let last : test (from + m) ≡ true = passes (from + m) (omega arith) (omega arith) in
        omega (
          arith,
          ap (count_below test) sum,
          count_below-suc test (from + m),
          ap one_if last,
          upto m (λ k low high. passes k low (omega (arith, high))),
        )

-- tests that agree but for count numbers from lbn on, which pass the one and not the other
pub count_below-more : (p q : ℕ → Bool) (lbn count n : ℕ) → lbn + count ≤ n
    → ((k : ℕ) → lbn ≤ k → k < lbn + count → p k ≡ true) → ((k : ℕ) → lbn ≤ k → k < lbn + count → q k ≡ false)
    → ((k : ℕ) → k < lbn → p k ≡ q k) → ((k : ℕ) → lbn + count ≤ k → p k ≡ q k)
    → count_below p n ≡ count_below q n + count
count_below-more p q lbn count n within passes fails before after = omega (arith, upto n)
  where
    upto : (m : ℕ) → count_below p m ≡ count_below q m + (min m (lbn + count) - lbn)
    upto zero = omega (arith, count_below-zero p, count_below-zero q)
    upto (suc m) =
        let p_is = count_below-suc p m in
        let q_is = count_below-suc q m in
        let so_far = upto m in
        elim (cases_lt m lbn) [
          | inl early ↦ omega (arith, p_is, q_is, so_far, ap one_if (before m early))
          | inr late ↦ elim (cases_lt m (lbn + count)) [
            | inl inside ↦
                let one : one_if (p m) ≡ 1 = ap one_if (passes m late inside) in
                let none : one_if (q m) ≡ 0 = ap one_if (fails m late inside) in
                omega (arith, p_is, q_is, so_far, one, none)
            | inr past ↦ omega (arith, p_is, q_is, so_far, ap one_if (after m past))
          ]
        ]

-- as many pass two tests that agree
pub count_below-same : (p q : ℕ → Bool) (n : ℕ) → ((k : ℕ) → p k ≡ q k) → count_below p n ≡ count_below q n
count_below-same p q zero agree = count_below-zero p ∙ sym (count_below-zero q)
count_below-same p q (suc n) agree =
    omega (arith, count_below-suc p n, count_below-suc q n, ap one_if (agree n), count_below-same p q n agree)
