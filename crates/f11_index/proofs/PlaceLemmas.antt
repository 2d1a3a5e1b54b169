-- Facts about the places of blocks in a list.
use Rattle.std.proofs.Common.{◌≡◌, ℕ, zero, suc, ◌+◌, ◌-◌, ◌<◌, ◌≤◌, List, [], ◌∷◌, ◌++◌, length, get_or, take, drop, min, Some, refl, sym}
use Rattle.std.proofs.Common.{ap, ◌∙◌, inl, inr, arith}
use Rattle.std.specs.List.{All, slice_get, range_with_len}
use Rattle.std.proofs.Math.Seq.{take-append-add}
use Rattle.std.proofs.lemmas.List.FromFn.{length-range_with_len, get_or-range_with_len}
use Rattle.std.proofs.lemmas.Bool.{cases_lt}
use Rattle.std.proofs.lemmas.List.{length-append, length-take, length-drop, get_or_append_left, get_or-take, get_or-drop, take_all}
use Rattle.std.proofs.lemmas.Option.{slice_get_within, slice_get-get_or, get_or_from_slice_get}
use Rattle.f11_map.proofs.RunLemmas.{take-range_with_len}
use Rattle.f11_map.proofs.store.RangeLemmas.{range_with_len-append}

-- a block stays where it is when others come behind it
pub slice_get-append_front : (xs ys : List ℕ) (i x : ℕ) → slice_get xs i ≡ Some x → slice_get (xs ++ ys) i ≡ Some x
slice_get-append_front xs ys i x at =
    let within = slice_get_within xs i x at in
    slice_get-get_or (xs ++ ys) i x (omega (arith, length-append xs ys))
    ∙ ap Some (get_or_append_left xs ys x i within ∙ get_or_from_slice_get xs i x x at)

-- what is cut off twice
pub take-append_take : (m : ℕ) (xs ys : List ℕ) → take m (take m xs ++ ys) ≡ take m (xs ++ ys)
take-append_take zero xs ys = refl
take-append_take (suc m) [] ys = refl
take-append_take (suc m) (x ∷ xs) ys = ap (λ (rest : List ℕ). x ∷ rest) (take-append_take m xs ys)

-- what is left of two lists
pub drop-append : (k : ℕ) (xs ys : List ℕ) → drop k (xs ++ ys) ≡ drop k xs ++ drop (k - length xs) ys
drop-append zero xs ys = let none : 0 - length xs ≡ 0 = omega arith in rw none refl
drop-append (suc k) [] ys = let all : suc k - 0 ≡ suc k = omega arith in ap (λ (n : ℕ). drop n ys) (sym all)
drop-append (suc k) (x ∷ xs) ys = let less : suc k - length (x ∷ xs) ≡ k - length xs = omega arith in rw less (drop-append k xs ys)

-- a header among the blocks, as it is kept among the headers
pub slice_get-header : (xs : List ℕ) (skip most i x d : ℕ) → i < length (take most (drop skip xs))
    → x ≡ get_or (take most (drop skip xs)) i d → slice_get xs (skip + i) ≡ Some x
slice_get-header xs skip most i x d within is =
    let most_is : i < most = omega (arith, length-take most (drop skip xs)) in
    let inside : skip + i < length xs = omega (arith, length-take most (drop skip xs), length-drop skip xs) in
    slice_get-get_or xs (skip + i) d inside
    ∙ ap Some (sym (get_or-drop skip xs i d) ∙ sym (get_or-take most (drop skip xs) i d most_is) ∙ sym is)

-- and the other way
pub get_or-header : (xs : List ℕ) (skip most i x d : ℕ) → i < most → slice_get xs (skip + i) ≡ Some x
    → get_or (take most (drop skip xs)) i d ≡ x
get_or-header xs skip most i x d few at =
    get_or-take most (drop skip xs) i d few ∙ get_or-drop skip xs i d ∙ get_or_from_slice_get xs (skip + i) x d at

-- one number more
pub range_with_len-more : (from n : ℕ) → range_with_len from (n + 1) ≡ range_with_len from n ++ (from + n) ∷ []
range_with_len-more from n = range_with_len-append from n 1

-- what is left of numbers in a row
pub drop-range_with_len : (from n k : ℕ) → drop k (range_with_len from n) ≡ range_with_len (from + min k n) (n - min k n)
drop-range_with_len from n zero =
    let here : from ≡ from + min 0 n = omega arith in
    let all : n ≡ n - min 0 n = omega arith in
    ap (λ (a : ℕ). range_with_len a n) here ∙ ap (range_with_len (from + min 0 n)) all
drop-range_with_len from zero (suc k) =
    let none : zero - min (suc k) zero ≡ zero = omega arith in ap (range_with_len (from + min (suc k) zero)) (sym none)
drop-range_with_len from (suc n) (suc k) =
    let here : from + 1 + min k n ≡ from + min (suc k) (suc n) = omega arith in
    let left : n - min k n ≡ suc n - min (suc k) (suc n) = omega arith in
    drop-range_with_len (from + 1) n k ∙ ap (λ (a : ℕ). range_with_len a (n - min k n)) here
    ∙ ap (range_with_len (from + min (suc k) (suc n))) left

-- the first of them
pub take-range : (from n k : ℕ) → take k (range_with_len from n) ≡ range_with_len from (min k n)
take-range from n k = elim (cases_lt k n) [
  | inl fewer ↦ take-range_with_len from n k (omega arith) ∙ ap (range_with_len from) (omega arith)
  | inr all ↦ take_all k (range_with_len from n) (omega (arith, length-range_with_len from n)) ∙ ap (range_with_len from) (omega arith)
]

-- a list with others behind it, cut
pub take-append-back : (most : ℕ) (xs ys : List ℕ) → length xs ≤ most → take most (xs ++ ys) ≡ xs ++ take (most - length xs) ys
take-append-back most xs ys few =
    let sum : most ≡ length xs + (most - length xs) = omega arith in
    ap (λ (n : ℕ). take n (xs ++ ys)) sum ∙ take-append-add xs ys (most - length xs)

-- number i of numbers in a row
pub slice_get-range : (from n i x : ℕ) → slice_get (range_with_len from n) i ≡ Some x → (i < n) × (x ≡ from + i)
slice_get-range from n i x at =
    let within : i < n = omega (arith, slice_get_within (range_with_len from n) i x at, length-range_with_len from n) in
    (within, sym (get_or_from_slice_get (range_with_len from n) i x 0 at) ∙ get_or-range_with_len from n i 0 within)

pub range-slice_get : (from n i : ℕ) → i < n → slice_get (range_with_len from n) i ≡ Some (from + i)
range-slice_get from n i within =
    slice_get-get_or (range_with_len from n) i 0 (omega (arith, length-range_with_len from n))
    ∙ ap Some (get_or-range_with_len from n i 0 within)

-- blocks in a row are below where their end is
pub range-below : (lbn count end : ℕ) → lbn + count ≤ end → All (λ l. l < end) (range_with_len lbn count)
range-below lbn count end within = λ i d below.
    let size = length-range_with_len lbn count in
    let is = get_or-range_with_len lbn count i d (omega (arith, below, size)) in
    omega (arith, is, below, size, within)
