-- The table of bad blocks, pair by pair.
use Rattle.std.proofs.Common.{◌≡◌, ◌≢◌, ℕ, suc, ◌+◌, ◌-◌, ◌*◌, ◌<◌, ◌==◌, Bool, true, false, if◌then◌else◌, List, [], ◌∷◌, ◌++◌, map, refl}
use Rattle.std.proofs.Common.{sym}
use Rattle.std.proofs.Common.{ap, ◌∙◌, append_assoc, arith, length, nat_lt, take, Some}
use Rattle.std.specs.List.{before_first, position_or_len, range_with_len, slice_get}
use Rattle.std.proofs.lemmas.Bool.Decides.{nat_tests}
use Rattle.std.proofs.lemmas.List.{append-nil}
use Rattle.std.proofs.lemmas.Option.{get_or_from_slice_get}
use Rattle.f11_bytes.specs.Words.{word}
use Rattle.f11_dev.specs.Image.{Image, image_block}
use Rattle.rt11_volume.specs.BadBlocks.{bad_blocks, bad_blocks_in}

-- what stands before the first that passes, by the first one
before-step : (p : ℕ → Bool) (x : ℕ) (xs : List ℕ) (b : Bool) → p x ≡ b
    → before_first p (x ∷ xs) ≡ (if b then [] else x ∷ before_first p xs)
before-step p x xs true is = rw is refl
before-step p x xs false is =
    rw is (let next : 1 + position_or_len p xs ≡ suc (position_or_len p xs) = omega arith in ap (λ n. take n (x ∷ xs)) next)

module _ (bytes : List ℕ) where
  -- the pairs from one on
  abbrev pub bad_from : ℕ → List ℕ
  bad_from i = before_first (λ n. n == 0) (map (λ j. word bytes (4 * j)) (range_with_len i (32 - i)))

  from-step : (i : ℕ) (b : Bool) → i < 32 → (word bytes (4 * i) == 0) ≡ b
      → bad_from i ≡ (if b then [] else word bytes (4 * i) ∷ bad_from (i + 1))
  from-step i b inside is =
      let left : 32 - i ≡ suc (32 - (i + 1)) = omega (arith, inside) in
      ap (λ n. before_first (λ m. m == 0) (map (λ j. word bytes (4 * j)) (range_with_len i n))) left
      ∙ before-step (λ m. m == 0) (word bytes (4 * i)) (map (λ j. word bytes (4 * j)) (range_with_len (i + 1) (32 - (i + 1)))) b is

  -- one pair more
  pub bad-more : (items : List ℕ) (i n : ℕ) → i < 32 → n ≡ word bytes (4 * i) → n ≢ 0 → bad_blocks_in bytes ≡ items ++ bad_from i
      → bad_blocks_in bytes ≡ (items ++ n ∷ []) ++ bad_from (i + 1)
  bad-more items i n inside is some so_far =
      let test : (word bytes (4 * i) == 0) ≡ false = ap (λ (m : ℕ). m == 0) (sym is)
      ∙ (let t : (n == 0) ≡ false = grind (arith, nat_tests) in t) in
      so_far ∙ ap (λ xs. items ++ xs) (from-step i false inside test ∙ ap (λ (m : ℕ). m ∷ bad_from (i + 1)) (sym is))
      ∙ sym (append_assoc items (n ∷ []) (bad_from (i + 1)))

  -- the table's end, and that it has no more room
  pub bad-ends : (items : List ℕ) (i n : ℕ) → i < 32 → n ≡ word bytes (4 * i) → n ≡ 0 → bad_blocks_in bytes ≡ items ++ bad_from i
      → items ≡ bad_blocks_in bytes
  bad-ends items i n inside is none so_far =
      let test : (word bytes (4 * i) == 0) ≡ true = ap (λ (m : ℕ). m == 0) (sym is ∙ none) in
      sym (so_far ∙ ap (λ xs. items ++ xs) (from-step i true inside test) ∙ append-nil items)

  pub bad-all : (items : List ℕ) (i : ℕ) → i ≡ 32 → bad_blocks_in bytes ≡ items ++ bad_from i → items ≡ bad_blocks_in bytes
  bad-all items i all so_far = sym (so_far ∙ ap (λ n. items ++ bad_from n) all ∙ append-nil items)

-- the home block was read
pub bad-read : (image : Image) (block : List ℕ) → 1 < length image → slice_get image 1 ≡ Some block → bad_blocks_in block ≡ bad_blocks image
bad-read image block on at =
    let long : nat_lt 1 (length image) ≡ true = grind (arith, nat_tests) in
    ap bad_blocks_in (sym (get_or_from_slice_get image 1 block [] at))
    ∙ sym (ap (λ (b : Bool). if b then bad_blocks_in (image_block image 1) else []) long)
