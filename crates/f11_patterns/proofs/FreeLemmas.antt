-- One of the candidates that are looked at is free: a name that is there may be the candidate of seven numbers at most, one of each count
-- of digits.
use Rattle.std.proofs.Common.{◌≡◌, ◌⊎◌, inl, inr, ℕ, zero, suc, ◌+◌, ◌-◌, ◌*◌, ◌<◌, ◌≤◌, Bool, true, false, not, ◌||◌, cond, nat_eq}
use Rattle.std.proofs.Common.{List, [], ◌∷◌, ◌++◌}
use Rattle.std.proofs.Common.{length, take, get_or, map, find, refl, sym, ap, subst, ◌∙◌, arith, Option, Some, None, IsSome, option_map}
use Rattle.std.specs.Int.Digits.{digits_of, number_from_digits}
use Rattle.std.specs.List.{IsDistinct, list_any, range_with_len}
use Rattle.std.proofs.lemmas.Bool.{cases_lt, eqb-true, false≢true, ne_eqb}
use Rattle.std.proofs.lemmas.Int.Digits.{number_digits_of}
use Rattle.std.proofs.lemmas.List.{append_cancel_left}
use Rattle.std.proofs.lemmas.List.FromFn.{get_or-map-range_with_len, length-map-range_with_len}
use Rattle.std.proofs.lemmas.Map.Keys.{IsDistinct-from_apart}
use Rattle.std.proofs.lemmas.Map.Steps.{length-le_from_distinct_below}
use Rattle.f11_rad50.specs.Name.{name_of, words_of}
use Rattle.f11_rad50.proofs.Words.{name_of-words_of}
use Rattle.f11_patterns.specs.Fitting.{candidate, fitted_name, fitted_type, has_some, kept_of, name_before, numeral}
use Rattle.f11_patterns.specs.Giving.{first_free, is_free}
use Rattle.f11_patterns.specs.Laws.{FittedIsThere}
use Rattle.f11_patterns.specs.Meant.{are_alike}
use Rattle.f11_patterns.specs.Naming.{file_naming}
use Rattle.f11_patterns.proofs.FittingLemmas.{candidate-proper, length-numeral-le}
use Rattle.f11_patterns.proofs.HighestLemmas.{same-words}

-- where the first element stands that passes
place_in : {X : Type 0} → (X → Bool) → List X → ℕ
place_in p [] = 0
place_in p (x ∷ xs) = cond (p x) 0 (suc (place_in p xs))

record IsPlace {X : Type 0} (p : X → Bool) (xs : List X) (d : X) (k : ℕ) : Type 0 where
  below : k < length xs
  holds : p (get_or xs k d) ≡ true

module _ {X : Type 0} (p : X → Bool) (d : X) where
  place-step : (x : X) (xs : List X) (b : Bool) → p x ≡ b → (b || list_any p xs) ≡ true
      → (list_any p xs ≡ true → IsPlace p xs d (place_in p xs)) → IsPlace p (x ∷ xs) d (cond b 0 (suc (place_in p xs)))
  place-step x xs true is any rest = record { below = omega arith; holds = is }
  place-step x xs false is any rest = let r = rest any in record { below = omega (arith, r.below); holds = r.holds }

  is-place : (xs : List X) → list_any p xs ≡ true → IsPlace p xs d (place_in p xs)
  unfolding place_in
  is-place [] any = absurd (false≢true any)
  is-place (x ∷ xs) any = place-step x xs (p x) refl any (is-place xs)

-- so many numbers below a bound, no two of them the same, aren't more than that
few-distinct : (f : ℕ → ℕ) (n bound : ℕ) → ((i : ℕ) → i < n → f i < bound)
    → ((i j : ℕ) → i < n → j < n → f i ≡ f j → i ≡ j) → n ≤ bound
few-distinct f n bound below one =
    let ks : List ℕ = map f (range_with_len 0 n) in
    let many : length ks ≡ n = length-map-range_with_len f 0 n in
    let at : (i d : ℕ) → i < n → get_or ks i d ≡ f i = λ i d l. get_or-map-range_with_len f 0 n i i d l (omega arith) in
    let apart : IsDistinct (λ a b. nat_eq a b) ks = IsDistinct-from_apart (λ a b. nat_eq a b) ks (λ i j d less end.
    let low : i < n = omega (arith, many, less, end) in
    let high : j < n = omega (arith, many, end) in
    ne_eqb _ _ (λ same.
    let is : i ≡ j = one i j low high (sym (at i d low) ∙ same ∙ at j d high) in omega (arith, is, less))) in
    let all : (q : ℕ) → list_any (nat_eq q) ks ≡ true → q < bound = λ q any.
    let r = is-place (nat_eq q) 0 ks any in
    let l : place_in (nat_eq q) ks < n = omega (arith, many, r.below) in
    let is : q ≡ f (place_in (nat_eq q) ks) = eqb-true q _ r.holds ∙ at (place_in (nat_eq q) ks) 0 l in
    omega (arith, is, below (place_in (nat_eq q) ks) l) in
    omega (arith, many, length-le_from_distinct_below ks bound apart all)

-- one of some numbers passes, or none does
find-step : (test : ℕ → Bool) (n a : ℕ) (b : Bool) → test a ≡ b
    → IsSome (find test (range_with_len (a + 1) n)) ⊎ ((i : ℕ) → a + 1 ≤ i → i < a + 1 + n → test i ≡ false)
    → IsSome (cond b (Some a) (find test (range_with_len (a + 1) n))) ⊎ ((i : ℕ) → a ≤ i → i < a + suc n → test i ≡ false)
find-step test n a true is rest = inl refl
find-step test n a false is (inl some) = inl some
find-step test n a false is (inr none) = inr (λ i low high. elim (cases_lt a i) as (λ _. test i ≡ false) [
  | inl lt ↦ none i (omega (arith, lt)) (omega (arith, high))
  | inr ge ↦ let same : i ≡ a = omega (arith, low, ge) in ap test same ∙ is
])

find-or-none : (test : ℕ → Bool) (n a : ℕ)
    → IsSome (find test (range_with_len a n)) ⊎ ((i : ℕ) → a ≤ i → i < a + n → test i ≡ false)
find-or-none test zero a = inr (λ i low high. absurd (omega (arith, low, high)))
find-or-none test (suc n) a = find-step test n a (test a) refl (find-or-none test n (a + 1))

-- a number is that of its digits
less-48 : (ds : List ℕ) → map (λ c. c - 48) (map (λ d. 48 + d) ds) ≡ ds
less-48 [] = refl
less-48 (d ∷ ds) = let same : 48 + d - 48 ≡ d = omega arith in λ i. same i ∷ less-48 ds i

numeral-same : (m n : ℕ) → numeral m ≡ numeral n → m ≡ n
unfolding numeral
numeral-same m n same =
    let back : (k : ℕ) → number_from_digits 10 (map (λ c. c - 48) (numeral k)) ≡ k =
    λ k. ap (number_from_digits 10) (less-48 (digits_of 10 k)) ∙ number_digits_of 10 k (omega arith) in
    sym (back m) ∙ ap (λ (cs : List ℕ). number_from_digits 10 (map (λ c. c - 48) cs)) same ∙ back n

fitted-same : (width m n : ℕ) (part : List ℕ) → length (numeral m) ≡ length (numeral n)
    → fitted_name width m part ≡ fitted_name width n part → m ≡ n
fitted-same width m n part long same =
    let front : List ℕ = take (width - length (numeral m)) (kept_of (name_before part)) in
    let other : fitted_name width n part ≡ front ++ numeral n =
    ap (λ (k : ℕ). take (width - k) (kept_of (name_before part)) ++ numeral n) (sym long) in
    numeral-same m n (append_cancel_left front (numeral m) (numeral n) (same ∙ other))

any-taken : (b : Bool) → not b ≡ false → b ≡ true
any-taken true is = refl
any-taken false is = sym is

-- so one is free, where a name that is there has one fitted name
module _ (width : ℕ) (part : List ℕ) (test : ℕ → List ℕ → Bool) (there : List (List ℕ)) (few : length there ≤ 142857)
    (one : (m n : ℕ) (name : List ℕ) → m ≤ 999999 → n ≤ 999999 → test m name ≡ true → test n name ≡ true
    → fitted_name width m part ≡ fitted_name width n part) where
  -- by its place and the count of the digits
  code : ℕ → ℕ
  code n = place_in (test n) there * 7 + length (numeral n)

  module _ (taken : (n : ℕ) → n < length there * 7 + 1 → list_any (test n) there ≡ true) where
    six : (n : ℕ) → n < length there * 7 + 1 → length (numeral n) ≤ 6
    six n l = length-numeral-le 6 n (omega (arith, l, few))

    code-below : (n : ℕ) → n < length there * 7 + 1 → code n < length there * 7
    unfolding code
    code-below n l =
        let r = is-place (test n) [] there (taken n l) in
        omega (arith, six n l, r.below)

    code-one : (m n : ℕ) → m < length there * 7 + 1 → n < length there * 7 + 1 → code m ≡ code n → m ≡ n
    unfolding code
    code-one m n low high same =
        let a = is-place (test m) [] there (taken m low) in
        let b = is-place (test n) [] there (taken n high) in
        let place : place_in (test n) there ≡ place_in (test m) there = omega (arith, same, six m low, six n high) in
        let long : length (numeral m) ≡ length (numeral n) = omega (arith, same, six m low, six n high) in
        let it : test n (get_or there (place_in (test m) there) []) ≡ true =
        subst (λ (k : ℕ). test n (get_or there k []) ≡ true) place b.holds in
        fitted-same width m n part long
        (one m n (get_or there (place_in (test m) there) []) (omega (arith, low, few)) (omega (arith, high, few)) a.holds it)

    too-many : ⊥
    too-many = let no = few-distinct code (length there * 7 + 1) (length there * 7) code-below code-one in omega (arith, no)

  pub some-free : IsSome (first_free (λ n. not (list_any (test n) there)))
  unfolding first_free
  some-free =
      elim (find-or-none (λ n. not (list_any (test n) there)) 1000000 0)
      as (λ _. IsSome (find (λ n. not (list_any (test n) there)) (range_with_len 0 1000000))) [
        | inl some ↦ some
        | inr none ↦ absurd (too-many (λ n l. any-taken (list_any (test n) there) (none n (omega arith) (omega (arith, l, few)))))
      ]

pub some-mapped : {X Y : Type 0} (f : X → Y) (found : Option X) → IsSome found → IsSome (option_map f found)
some-mapped f None some = absurd (false≢true some)
some-mapped f (Some x) some = refl

-- On Files-11 a name has one fitted name of nine characters.
one-alike : (part : List ℕ) (some : has_some part ≡ true) (m n : ℕ) (name : List ℕ) → m ≤ 999999 → n ≤ 999999
    → are_alike (candidate part m) name ≡ true → are_alike (candidate part n) name ≡ true
    → fitted_name 9 m part ≡ fitted_name 9 n part
unfolding words_of
one-alike part some m n name low high a b =
    let one = same-words (candidate part m) name a in
    let two = same-words (candidate part n) name b in
    let same : candidate part m ≡ candidate part n = λ i.
    (one.0 ∙ sym two.0) i ∷ (one.1 ∙ sym two.1) i ∷ (one.2 ∙ sym two.2) i ∷ (one.3 ∙ sym two.3) i ∷ 1 ∷ [] in
    sym (name_of-words_of (fitted_name 9 m part) (fitted_type part) 1 (candidate-proper part m some low))
    ∙ ap name_of same ∙ name_of-words_of (fitted_name 9 n part) (fitted_type part) 1 (candidate-proper part n some high)

pub fitted-is-there : FittedIsThere
fitted-is-there there part some few =
    let free = some-free 9 part (λ n. are_alike (candidate part n)) there few (one-alike part some) in
    rw some (some-mapped (candidate part) (first_free (is_free file_naming there part)) free)
