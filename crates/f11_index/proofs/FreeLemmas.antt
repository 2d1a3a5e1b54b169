-- Facts about free slots.
use Rattle.std.proofs.Common.{◌≡◌, inl, inr, ℕ, zero, suc, ◌+◌, ◌-◌, ◌*◌, ◌/◌, ◌%◌, ◌^◌, ◌<◌, ◌≤◌, ◌==◌, min, max, Bool, true, false, not}
use Rattle.std.proofs.Common.{List, []}
use Rattle.std.proofs.Common.{count_ones, mod-lt}
use Rattle.std.proofs.Common.{◌∷◌, ◌++◌, length, get_or, filter, cond, Some, None, refl, sym, ap, ◌∙◌, arith}
use Rattle.std.specs.List.{slice_get, range_with_len}
use Rattle.std.proofs.lemmas.Bool.{cases_lt, cases_Bool, cond-true, cond-false}
use Rattle.std.proofs.lemmas.Option.{same_Some}
use Rattle.std.proofs.lemmas.List.{append-nil, length-append}
use Rattle.std.proofs.lemmas.List.Elements.{filter-append}
use Rattle.std.proofs.lemmas.List.Sums.{count_by-le-length, length-filter}
use Rattle.std.proofs.lemmas.List.FromFn.{length-range_with_len}
use Rattle.std.specs.Prelude.{nat_eq}
use Rattle.std.specs.Int.{bit_at}
use Rattle.std.specs.Int.Count.{ones}
use Rattle.std.proofs.lemmas.Nat.{ones_cat, mod-pow-add, pow_pos}
use Rattle.std.proofs.lemmas.Nat.Bits.{bit_at-lt, bit_at_cat_high, bit_at_cat_low, bit_at_ones}
use Rattle.f11_bytes.specs.Bits.{bit}
use Rattle.f11_bytes.specs.Words.{word}
use Rattle.f11_index.specs.IndexFile.{Index, slots, is_in_use, bit_of_slot, free_slots_in}
use Rattle.f11_index.specs.Slots.{IsLeastFree, free_between}
use Rattle.f11_index.proofs.BitLemmas.{is_in_use-within}
use Rattle.f11_index.proofs.PlaceLemmas.{slice_get-append_front}
use Rattle.f11_map.proofs.store.RangeLemmas.{range_with_len-append}

-- a list without a first element
no-first : (xs : List ℕ) → None ≡ slice_get xs 0 → xs ≡ []
no-first [] is = refl
no-first (x ∷ xs) is = cc

-- how many ones a digit in base 2 has
digit-one : (d : ℕ) → d < 2 → (d == 1) ≡ true → count_ones d ≡ 1
unfolding ones
digit-one zero few is = absurd (let none : false ≡ true = is in cc)
digit-one (suc zero) few is = refl
digit-one (suc (suc d)) few is = absurd (omega (arith, few))

digit-none : (d : ℕ) → d < 2 → (d == 1) ≡ false → count_ones d ≡ 0
unfolding ones
digit-none zero few is = refl
digit-none (suc zero) few is = absurd (let none : true ≡ false = is in cc)
digit-none (suc (suc d)) few is = absurd (omega (arith, few))

module _ (index : Index) where
  abbrev free : ℕ → Bool
  free n = not (is_in_use index n)

  pub between-none : (from end : ℕ) → end ≤ from → free_between index from end ≡ []
  between-none from end past = let none : end - from ≡ 0 = omega arith in ap (λ (n : ℕ). filter free (range_with_len from n)) none

  pub between-append : (a b c : ℕ) → a ≤ b → b ≤ c → free_between index a c ≡ free_between index a b ++ free_between index b c
  between-append a b c first second =
      let sum : c - a ≡ (b - a) + (c - b) = omega arith in
      let next : a + (b - a) ≡ b = omega arith in
      ap (λ (n : ℕ). filter free (range_with_len a n)) sum
      ∙ ap (filter free) (range_with_len-append a (b - a) (c - b))
      ∙ filter-append free (range_with_len a (b - a)) (range_with_len (a + (b - a)) (c - b))
      ∙ ap (λ (n : ℕ). free_between index a b ++ filter free (range_with_len n (c - b))) next

  -- one slot
  between-one : (n : ℕ) → free_between index n (n + 1) ≡ cond (free n) (n ∷ []) []
  between-one n = let one : n + 1 - n ≡ 1 = omega arith in ap (λ (k : ℕ). filter free (range_with_len n k)) one

  -- one slot more, whose bit is 1, or 0
  pub between-used : (from n : ℕ) → from ≤ n → 0 < n → n ≤ slots index → bit_of_slot index.bitmap n ≡ true
      → free_between index from (n + 1) ≡ free_between index from n
  between-used from n behind some within is =
      between-append from n (n + 1) behind (omega arith)
      ∙ ap (λ (xs : List ℕ). free_between index from n ++ xs)
      (between-one n ∙ cond-false (free n) _ _ (ap not (is_in_use-within index n some within ∙ is)))
      ∙ append-nil (free_between index from n)

  pub between-free : (from n : ℕ) → from ≤ n → 0 < n → n ≤ slots index → bit_of_slot index.bitmap n ≡ false
      → free_between index from (n + 1) ≡ free_between index from n ++ n ∷ []
  between-free from n behind some within is =
      between-append from n (n + 1) behind (omega arith)
      ∙ ap (λ (xs : List ℕ). free_between index from n ++ xs)
      (between-one n ∙ cond-true (free n) _ _ (ap not (is_in_use-within index n some within ∙ is)))

  -- the first of them
  pub between-first : (from n end : ℕ) → from ≤ n → n < end → 0 < n → n ≤ slots index → free_between index from n ≡ []
      → bit_of_slot index.bitmap n ≡ false → slice_get (free_between index from end) 0 ≡ Some n
  between-first from n end behind before some within none is =
      let first : slice_get (free_between index from (n + 1)) 0 ≡ Some n =
      ap (λ (xs : List ℕ). slice_get xs 0) (between-free from n behind some within is ∙ ap (λ (xs : List ℕ). xs ++ n ∷ []) none) in
      ap (λ (xs : List ℕ). slice_get xs 0) (between-append from (n + 1) end (omega arith) (omega arith))
      ∙ slice_get-append_front (free_between index from (n + 1)) (free_between index (n + 1) end) 0 n first

  -- slots whose bits are all 1
  pub between-full : (count from : ℕ) → 0 < from → from + count ≤ slots index + 1
      → ((n : ℕ) → from ≤ n → n < from + count → bit_of_slot index.bitmap n ≡ true) → free_between index from (from + count) ≡ []
  between-full zero from some within bits = between-none from (from + 0) (omega arith)
  between-full (suc count) from some within bits =
      let next : from + suc count ≡ from + count + 1 = omega arith in
      ap (free_between index from) next
      ∙ between-used from (from + count) (omega arith) (omega arith) (omega arith) (bits (from + count) (omega arith) (omega arith))
      ∙ between-full count from some (omega arith) (λ n low high. bits n low (omega arith))

  -- slots whose bits are the first of a number: those are free whose digits are 0
  pub between-number : (x n from : ℕ) → 0 < from → from + n ≤ slots index + 1
      → ((j : ℕ) → j < n → bit_of_slot index.bitmap (from + j) ≡ (bit_at x j == 1))
      → length (free_between index from (from + n)) + count_ones (x % 2 ^ n) ≡ n
  between-number x zero from some within bits =
      let none : count_ones (x % 2 ^ zero) ≡ 0 = ap count_ones (omega arith) ∙ digit-none 0 (omega arith) refl in
      omega (arith, ap length (between-none from (from + 0) (omega arith)), none)
  between-number x (suc n) from some within bits =
      let digit : ℕ = bit_at x n in
      let parts : x % 2 ^ (1 + n) ≡ digit * 2 ^ n + x % 2 ^ n = mod-pow-add x 1 n in
      let next : count_ones (x % 2 ^ suc n) ≡ count_ones (x % 2 ^ (1 + n)) = ap (λ (m : ℕ). count_ones (x % 2 ^ m)) (omega arith) in
      let both = ones_cat n digit (x % 2 ^ n) (mod-lt x (pow_pos n)) in
      let place : from + suc n ≡ from + n + 1 = omega arith in
      let earlier = between-number x n from some (omega arith) (λ j below. bits j (omega (arith, below))) in
      let bit-is = bits n (omega arith) in
      elim (cases_Bool (digit == 1)) [
        | inl one ↦
            let more = ap (free_between index from) place
            ∙ between-used from (from + n) (omega arith) (omega arith) (omega arith) (bit-is ∙ one) in
            omega (arith, ap length more, earlier, next, ap count_ones parts, both, digit-one digit (bit_at-lt x n) one)
        | inr none ↦
            let more = ap (free_between index from) place
            ∙ between-free from (from + n) (omega arith) (omega arith) (omega arith) (bit-is ∙ none) in
            omega (
              arith,
              ap length more,
              length-append (free_between index from (from + n)) ((from + n) ∷ []),
              earlier,
              next,
              ap count_ones parts,
              both,
              digit-none digit (bit_at-lt x n) none,
            )
      ]

  -- the slots of one word more
  pub between-next : (word : ℕ) → 16 ≤ slots index → 16 * word < slots index
      → free_between index 6 (min (slots index + 1) (16 * (word + 1) + 1)) ≡ free_between index 6
      (min (slots index + 1) (16 * word + 1)) ++ free_between index (max 6 (16 * word + 1)) (min (slots index + 1) (16 * word + 17))
  between-next zero first some =
      let last : min (slots index + 1) (16 * (zero + 1) + 1) ≡ 17 = omega arith in
      let here : min (slots index + 1) (16 * zero + 17) ≡ 17 = omega arith in
      let from : max 6 (16 * zero + 1) ≡ 6 = omega arith in
      ap (free_between index 6) (last ∙ sym here) ∙ ap (λ (n : ℕ). free_between index n (min (slots index + 1) (16 * zero + 17))) (sym from)
      ∙ ap (λ (xs : List ℕ). xs ++ free_between index (max 6 (16 * zero + 1)) (min (slots index + 1) (16 * zero + 17)))
      (sym (between-none 6 (min (slots index + 1) (16 * zero + 1)) (omega arith)))
  between-next (suc word) first some =
      let from : max 6 (16 * suc word + 1) ≡ min (slots index + 1) (16 * suc word + 1) = omega arith in
      let last : min (slots index + 1) (16 * (suc word + 1) + 1) ≡ min (slots index + 1) (16 * suc word + 17) = omega arith in
      ap (free_between index 6) last
      ∙ between-append 6 (min (slots index + 1) (16 * suc word + 1)) (min (slots index + 1) (16 * suc word + 17)) (omega arith)
      (omega arith)
      ∙ ap (λ (n : ℕ). free_between index 6 (min (slots index + 1) (16 * suc word + 1)) ++ free_between index n
      (min (slots index + 1) (16 * suc word + 17))) (sym from)

  -- all words
  pub between-all : (words : ℕ) → slots index ≤ 16 * words
      → free_between index 6 (min (slots index + 1) (16 * words + 1)) ≡ free_slots_in index
  between-all words all =
      let count : min (slots index + 1) (16 * words + 1) - 6 ≡ slots index - 5 = omega arith in
      ap (λ (n : ℕ). filter free (range_with_len 6 n)) count

  -- the first free slot is in this word, where none is in those before it
  pub word-first : (word n : ℕ) → 16 ≤ slots index → 16 * word < slots index
      → free_between index 6 (min (slots index + 1) (16 * word + 1)) ≡ []
      → Some n ≡ slice_get (free_between index (max 6 (16 * word + 1)) (min (slots index + 1) (16 * word + 17))) 0
      → Some n ≡ slice_get (free_slots_in index) 0
  word-first word n first some none here =
      let last : ℕ = min (slots index + 1) (16 * (word + 1) + 1) in
      let so_far : free_between index 6 last ≡ free_between index (max 6 (16 * word + 1)) (min (slots index + 1) (16 * word + 17)) =
      between-next word first some
      ∙ ap (λ (xs : List ℕ). xs ++ free_between index (max 6 (16 * word + 1)) (min (slots index + 1) (16 * word + 17))) none in
      let all : free_slots_in index ≡ free_between index 6 last ++ free_between index last (slots index + 1) =
      sym (between-all (slots index) (omega arith)) ∙ ap (free_between index 6) (omega arith)
      ∙ between-append 6 last (slots index + 1) (omega arith) (omega arith) in
      sym (ap (λ (xs : List ℕ). slice_get xs 0) all ∙ slice_get-append_front (free_between index 6 last)
      (free_between index last (slots index + 1)) 0 n (ap (λ (xs : List ℕ). slice_get xs 0) so_far ∙ sym here))

  -- no slot of one word more is free
  pub word-none : (word : ℕ) → 16 ≤ slots index → 16 * word < slots index
      → free_between index 6 (min (slots index + 1) (16 * word + 1)) ≡ []
      → None ≡ slice_get (free_between index (max 6 (16 * word + 1)) (min (slots index + 1) (16 * word + 17))) 0
      → free_between index 6 (min (slots index + 1) (16 * (word + 1) + 1)) ≡ []
  word-none word first some none here =
      between-next word first some
      ∙ ap (λ (xs : List ℕ). xs ++ free_between index (max 6 (16 * word + 1)) (min (slots index + 1) (16 * word + 17))) none
      ∙ no-first _ here

  -- a word's slots, from their first to the last of all
  abbrev start : ℕ → ℕ
  start word = max 6 (16 * word + 1)

  abbrev end : ℕ → ℕ
  end word = min (slots index + 1) (16 * word + 17)

  -- the slots of a word whose bits are all 1
  pub word-full : (word : ℕ) → ((n : ℕ) → 16 * word < n → n < 16 * word + 17 → bit_of_slot index.bitmap n ≡ true)
      → free_between index (start word) (end word) ≡ []
  word-full word bits = elim (cases_lt (end word) (start word)) [
    | inl none ↦ between-none (start word) (end word) (omega arith)
    | inr some ↦
        let sum : end word ≡ start word + (end word - start word) = omega arith in
        ap (free_between index (start word)) sum
        ∙ between-full (end word - start word) (start word) (omega arith) (omega arith)
        (λ n low high. bits n (omega arith) (omega arith))
  ]

  -- a word of which each slot is there, by the number that its bits are
  pub word-number : (word x : ℕ) → 16 ≤ end word - start word → x < 65536
      → ((j : ℕ) → j < 16 → bit_of_slot index.bitmap (16 * word + 1 + j) ≡ (bit_at x j == 1))
      → 16 - count_ones x ≡ length (free_between index (start word) (end word))
  word-number word x whole few bits =
      let first : start word ≡ 16 * word + 1 = omega (arith, whole) in
      let last : end word ≡ 16 * word + 1 + 16 = omega (arith, whole) in
      let all = between-number x 16 (16 * word + 1) (omega arith) (omega (arith, whole)) bits in
      let same : x % 2 ^ 16 ≡ x = omega (arith, few) in
      let here = ap (λ (n : ℕ). length (free_between index n (end word))) first
      ∙ ap (λ (n : ℕ). length (free_between index (16 * word + 1) n)) last in
      omega (arith, all, ap count_ones same, here)

  -- no more are free than there are
  pub between-few : (from end : ℕ) → length (free_between index from end) ≤ end - from
  between-few from end =
      omega (
        arith,
        length-filter free (range_with_len from (end - from)),
        count_by-le-length free (range_with_len from (end - from)),
        length-range_with_len from (end - from),
      )

-- the first of those kept of a row of numbers is one of them
kept-first : (p : ℕ → Bool) (count from n : ℕ) → slice_get (filter p (range_with_len from count)) 0 ≡ Some n
    → ((from ≤ n) × (n < from + count)) × (p n ≡ true)
kept-first p zero from n is = cc
kept-first p (suc count) from n is = elim (cases_Bool (p from)) [
  | inl kept ↦
      let same : from ≡ n = same_Some from n
      (sym (ap (λ (xs : List ℕ). slice_get xs 0)
      (cond-true (p from) (from ∷ filter p (range_with_len (from + 1) count)) (filter p (range_with_len (from + 1) count)) kept)) ∙ is)
      in
      ((omega (arith, same), omega (arith, same)), ap p (sym same) ∙ kept)
  | inr left ↦
      let later = kept-first p count (from + 1) n
      (sym (ap (λ (xs : List ℕ). slice_get xs 0)
      (cond-false (p from) (from ∷ filter p (range_with_len (from + 1) count)) (filter p (range_with_len (from + 1) count)) left)) ∙ is)
      in
      ((omega (arith, later.0.0), omega (arith, later.0.1)), later.1)
]

not-true : (b : Bool) → not b ≡ true → b ≡ false
not-true true is = cc
not-true false is = refl

-- the least free slot
pub least-free : (index : Index) (n : ℕ) → slice_get (free_slots_in index) 0 ≡ Some n → IsLeastFree index n
least-free index n is =
    let kept = kept-first (λ m. not (is_in_use index m)) (slots index - 5) 6 n is in
    record { first = is; low = kept.0.0; high = omega (arith, kept.0.0, kept.0.1); unused = not-true (is_in_use index n) kept.1 }

-- the bits of a word of the bitmap, as those of its slots
pub bit_of_slot-word : (bitmap : List (List ℕ)) (block : List ℕ) (word : ℕ) (value : Bool) → get_or bitmap (word / 256) [] ≡ block
    → ((k : ℕ) → 16 * (word % 256) ≤ k → k < 16 * (word % 256) + 16 → bit block k ≡ value)
    → (n : ℕ) → 16 * word < n → n < 16 * word + 17 → bit_of_slot bitmap n ≡ value
unfolding bit_of_slot
bit_of_slot-word bitmap block word value is bits n low high =
    let place : (n - 1) / 4096 ≡ word / 256 = omega arith in
    ap (λ (p : ℕ). bit (get_or bitmap p []) ((n - 1) % 4096)) place ∙ ap (λ (b : List ℕ). bit b ((n - 1) % 4096)) is
    ∙ bits ((n - 1) % 4096) (omega arith) (omega arith)

-- the bit of a slot of a word of the bitmap
pub bit_of_slot-at : (bitmap : List (List ℕ)) (block : List ℕ) (word j : ℕ) → get_or bitmap (word / 256) [] ≡ block → j < 16
    → bit_of_slot bitmap (16 * word + 1 + j) ≡ bit block (16 * (word % 256) + j)
unfolding bit_of_slot
bit_of_slot-at bitmap block word j is below =
    let place : (16 * word + 1 + j - 1) / 4096 ≡ word / 256 = omega (arith, below) in
    let digit : (16 * word + 1 + j - 1) % 4096 ≡ 16 * (word % 256) + j = omega (arith, below) in
    ap (λ (p : ℕ). bit (get_or bitmap p []) ((16 * word + 1 + j - 1) % 4096)) place
    ∙ ap (λ (b : List ℕ). bit b ((16 * word + 1 + j - 1) % 4096)) is ∙ ap (bit block) digit

-- the bits of a word are those of its two bytes
pub word-bits : (b : List ℕ) (i : ℕ) → get_or b (2 * i) 0 < 256 → get_or b (2 * i + 1) 0 < 256 → (k : ℕ) → k < 16
    → bit b (16 * i + k) ≡ (bit_at (word b (2 * i)) k == 1)
word-bits b i low high k below =
    let value : word b (2 * i) ≡ get_or b (2 * i + 1) 0 * 2 ^ 8 + get_or b (2 * i) 0 = omega arith in
    elim (cases_lt k 8) [
      | inl first ↦
          let place : (16 * i + k) / 8 ≡ 2 * i = omega (arith, first) in
          let digit : (16 * i + k) % 8 ≡ k = omega (arith, first) in
          ap (λ (n : ℕ). bit_at (get_or b n 0) ((16 * i + k) % 8) == 1) place
          ∙ ap (λ (n : ℕ). bit_at (get_or b (2 * i) 0) n == 1) digit
          ∙ ap (λ (n : ℕ). n == 1) (sym (ap (λ (x : ℕ). bit_at x k) value
          ∙ bit_at_cat_low (get_or b (2 * i + 1) 0) 8 (get_or b (2 * i) 0) k first))
      | inr second ↦
          let place : (16 * i + k) / 8 ≡ 2 * i + 1 = omega (arith, below, second) in
          let digit : (16 * i + k) % 8 ≡ k - 8 = omega (arith, below, second) in
          ap (λ (n : ℕ). bit_at (get_or b n 0) ((16 * i + k) % 8) == 1) place
          ∙ ap (λ (n : ℕ). bit_at (get_or b (2 * i + 1) 0) n == 1) digit
          ∙ ap (λ (n : ℕ). n == 1) (sym (ap (λ (x : ℕ). bit_at x k) value
          ∙ bit_at_cat_high (get_or b (2 * i + 1) 0) 8 (get_or b (2 * i) 0) k (omega (arith, low)) (omega (arith, second))))
    ]

-- a word whose bits are all 1
pub bit-full : (b : List ℕ) (i : ℕ) → word b (2 * i) ≡ 65535 → get_or b (2 * i) 0 < 256 → get_or b (2 * i + 1) 0 < 256 → (k : ℕ)
    → 16 * i ≤ k → k < 16 * i + 16 → bit b k ≡ true
bit-full b i is low high k from to =
    let byte : get_or b (k / 8) 0 ≡ 255 = elim (cases_lt k (16 * i + 8)) [
      | inl first ↦ let place : k / 8 ≡ 2 * i = omega arith in ap (λ (n : ℕ). get_or b n 0) place ∙ omega (arith, is, low, high)
      | inr second ↦ let place : k / 8 ≡ 2 * i + 1 = omega arith in ap (λ (n : ℕ). get_or b n 0) place ∙ omega (arith, is, low, high)
    ] in
    ap (λ (n : ℕ). nat_eq (bit_at n (k % 8)) 1) byte ∙ ap (λ (n : ℕ). nat_eq n 1) (bit_at_ones 8 (k % 8) (omega arith))
