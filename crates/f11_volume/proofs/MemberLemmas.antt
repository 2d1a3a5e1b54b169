-- What is among the elements of a list.
use Rattle.std.proofs.Common.{◌≡◌, ◌≤◌, ◌<◌, ◌+◌, ◌-◌, ◌⊎◌, inl, inr, ℕ, refl, ap, sym, ◌∙◌, subst, arith, List, ◌++◌, Some, length, get_or}
use Rattle.std.proofs.Common.{take}
use Rattle.std.specs.Prelude.{All, Contains}
use Rattle.std.specs.List.{slice_get, range_with_len}
use Rattle.std.proofs.lemmas.Bool.{cases_lt}
use Rattle.std.proofs.lemmas.List.{get_or-take, length-take}
use Rattle.std.proofs.lemmas.Option.{slice_get_within, slice_get-get_or, get_or_from_slice_get}
use Rattle.f11_chain.proofs.index.PlaceLemmas.{slice_get-append_front, slice_get-range, range-slice_get}
use Rattle.f11_chain.proofs.map.MapLemmas.{slice_get-append_back}

pub at-place : (xs : List ℕ) (x : ℕ) (has : Contains xs x) → slice_get xs has.0 ≡ Some x
at-place xs x has = slice_get-get_or xs has.0 x has.1 ∙ ap Some has.2

pub contained : (xs : List ℕ) (i x : ℕ) → slice_get xs i ≡ Some x → Contains xs x
contained xs i x at = (i, slice_get_within xs i x at, get_or_from_slice_get xs i x x at)

pub in-front : (xs ys : List ℕ) (x : ℕ) → Contains xs x → Contains (xs ++ ys) x
in-front xs ys x has = contained (xs ++ ys) has.0 x (slice_get-append_front xs ys has.0 x (at-place xs x has))

pub in-back : (xs ys : List ℕ) (x : ℕ) → Contains ys x → Contains (xs ++ ys) x
in-back xs ys x has =
    contained (xs ++ ys) (length xs + has.0) x
    (slice_get-append_back xs ys (length xs + has.0) (length xs) refl (omega arith) ∙ ap (slice_get ys) (omega arith) ∙ at-place ys x has)

pub in-either : (xs ys : List ℕ) (x : ℕ) → Contains (xs ++ ys) x → Contains xs x ⊎ Contains ys x
in-either xs ys x has = elim (cases_lt has.0 (length xs)) [
  | inl inside ↦
      let here = slice_get-get_or xs has.0 x inside in
      inl (contained xs has.0 x (here ∙ sym (slice_get-append_front xs ys has.0 (get_or xs has.0 x) here) ∙ at-place (xs ++ ys) x has))
  | inr past ↦ inr (contained ys (has.0 - length xs) x
      (sym (slice_get-append_back xs ys has.0 (length xs) refl past) ∙ at-place (xs ++ ys) x has))
]

pub in-range : (lbn n x : ℕ) → Contains (range_with_len lbn n) x → (lbn ≤ x) × (x < lbn + n)
in-range lbn n x has =
    let is = slice_get-range lbn n has.0 x (at-place (range_with_len lbn n) x has) in (
      omega (arith, is.1),
      omega (arith, is.0, is.1),
    )

pub range-has : (lbn n x : ℕ) → lbn ≤ x → x < lbn + n → Contains (range_with_len lbn n) x
range-has lbn n x low high =
    contained (range_with_len lbn n) (x - lbn) x (range-slice_get lbn n (x - lbn) (omega (arith, low, high)) ∙ ap Some (omega (arith, low)))

-- what holds of each element
pub all-from : (P : ℕ → Type 0) (xs : List ℕ) → ((x : ℕ) → Contains xs x → P x) → All P xs
all-from P xs each = λ k d below. each (get_or xs k d) (contained xs k (get_or xs k d) (slice_get-get_or xs k d below))

pub all-each : (P : ℕ → Type 0) (xs : List ℕ) → All P xs → (x : ℕ) → Contains xs x → P x
all-each P xs all x has = subst P has.2 (all has.0 x has.1)

pub all-append : (P : ℕ → Type 0) (xs ys : List ℕ) → All P xs → All P ys → All P (xs ++ ys)
all-append P xs ys one other = all-from P (xs ++ ys) (λ x has. elim (in-either xs ys x has) [
  | inl front ↦ all-each P xs one x front
  | inr back ↦ all-each P ys other x back
])

pub all-front : (P : ℕ → Type 0) (xs ys : List ℕ) → All P (xs ++ ys) → All P xs
all-front P xs ys all = all-from P xs (λ x has. all-each P (xs ++ ys) all x (in-front xs ys x has))

pub all-back : (P : ℕ → Type 0) (xs ys : List ℕ) → All P (xs ++ ys) → All P ys
all-back P xs ys all = all-from P ys (λ x has. all-each P (xs ++ ys) all x (in-back xs ys x has))

pub all-take : (P : ℕ → Type 0) (n : ℕ) (xs : List ℕ) → All P xs → All P (take n xs)
all-take P n xs all = λ k d below.
    subst P (sym (get_or-take n xs k d (omega (arith, below, length-take n xs)))) (all k d (omega (arith, below, length-take n xs)))

-- each block of a run is below an end where its last is
pub run-below : (lbn count end : ℕ) → 0 < count → All (λ l. l < end) (range_with_len lbn count) → lbn + count ≤ end
run-below lbn count end some all =
    let last = all-each (λ l. l < end) (range_with_len lbn count) all (lbn + count - 1)
    (range-has lbn count (lbn + count - 1) (omega (arith, some)) (omega (arith, some))) in
    omega (arith, last, some)
