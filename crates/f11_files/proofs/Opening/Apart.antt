-- Numbers of which none is there twice.
use Rattle.std.proofs.Common.{◌≡◌, ◌+◌, ◌<◌, ℕ, true, false, List, length, take, inl, inr, sym, ap, ◌∙◌, eqb, arith}
use Rattle.std.specs.Prelude.{slice_index, get_or}
use Rattle.std.specs.List.{list_any}
use Rattle.std.proofs.lemmas.Bool.{cases_eq, eq-eqb, eqb-true}
use Rattle.std.proofs.lemmas.List.{length-take, get_or-take, get_or_default}
use Rattle.std.proofs.lemmas.List.Folds.{list_any_at, Any-from_list_any}
use Rattle.f11_files.specs.Opening.Opens.{ArePlacesApart}

-- none of the first i is there twice
abbrev pub AreApartTo : List ℕ → ℕ → Type 0
AreApartTo xs i = (a b : ℕ) → a < i → b < i → slice_index xs a ≡ slice_index xs b → a ≡ b

-- one of the first i is the next
pub not-apart : (xs : List ℕ) (i : ℕ) → i < length xs → list_any (λ y. eqb y (slice_index xs i)) (take i xs) ≡ true → ¬ ArePlacesApart xs
not-apart xs i within found apart =
    let any = Any-from_list_any (λ y. eqb y (slice_index xs i)) (take i xs) found in
    let count = length-take i xs in
    let low : any.0 < i = omega (arith, any.2, count) in
    let same : slice_index xs any.0 ≡ slice_index xs i = sym (at-front any.0 low) ∙ at any.0 any.1 any.2 any.3 ∙ eqb-true _ _ any.4 in
    let no = apart any.0 i (omega (arith, low, within)) within same in
    omega (arith, low, no)
  where
    at-front : (a : ℕ) → a < i → slice_index (take i xs) a ≡ slice_index xs a
    at-front a low = get_or-take i xs a 0 low

    at : (a x : ℕ) → a < length (take i xs) → get_or (take i xs) a x ≡ x → slice_index (take i xs) a ≡ x
    at a x early is = get_or_default (take i xs) a 0 x early ∙ is

-- or none is
pub apart-more : (xs : List ℕ) (i : ℕ) → i < length xs → AreApartTo xs i → list_any (λ y. eqb y (slice_index xs i)) (take i xs) ≡ false
    → AreApartTo xs (i + 1)
apart-more xs i within apart none a b low high same = elim (cases_eq a i) [
  | inl here ↦ elim (cases_eq b i) [
    | inl there ↦ here ∙ sym there
    | inr other ↦ absurd (fresh b (omega (arith, high, other)) (sym same ∙ ap (slice_index xs) here))
  ]
  | inr other ↦ elim (cases_eq b i) [
    | inl there ↦ absurd (fresh a (omega (arith, low, other)) (same ∙ ap (slice_index xs) there))
    | inr apart_too ↦ apart a b (omega (arith, low, other)) (omega (arith, high, apart_too)) same
  ]
]
  where
    fresh : (c : ℕ) → c < i → ¬ (slice_index xs c ≡ slice_index xs i)
    fresh c early is =
        let found = list_any_at (λ y. eqb y (slice_index xs i)) (take i xs) c 0 (omega (arith, early, within, length-take i xs))
        (eq-eqb _ _ (get_or-take i xs c 0 early ∙ is)) in
        let no : true ≡ false = sym found ∙ none in absurd cc
