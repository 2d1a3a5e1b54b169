-- A home block whose check words are made right.
use Rattle.std.proofs.Common.{◌≡◌, ◌⊎◌, inl, inr, ⊎_elim, ℕ, ◌+◌, ◌-◌, ◌%◌, ◌/◌, ◌<◌, ◌≤◌, List, length, take, drop, sym, ◌∙◌, ap, arith}
use Rattle.std.specs.Prelude.{slice_range}
use Rattle.std.proofs.Math.ListN.{set}
use Rattle.std.proofs.lemmas.List.{length-set, drop-set-lt, drop-set-add, take-set-le}
use Rattle.f11_bytes.specs.Words.{word, with_word, word_sum}
use Rattle.f11_bytes.proofs.WordLemmas.{word-with_word, word-with_word_apart, word_sum-with_word}
use Rattle.f11_home.specs.HomeBlock.{HasHomeFields, HasHomeSums, IsHomeBlock, with_first_sum, with_sums}

-- bytes before the one that was put, or behind it
slice_range-set : (b : List ℕ) (from to i v : ℕ) → from ≤ to → i < from ⊎ to ≤ i → slice_range (set b i v) from to ≡ slice_range b from to
slice_range-set b from to i v order (inl before) = ap (take (to - from)) (drop-set-lt from b i v before)
slice_range-set b from to i v order (inr behind) =
    let place : i ≡ from + (i - from) = omega arith in
    ap (λ (j : ℕ). take (to - from) (drop from (set b j v))) place
    ∙ ap (take (to - from)) (drop-set-add from b (i - from) v) ∙ take-set-le (to - from) (drop from b) (i - from) v (omega arith)

-- and a word
slice_range-with_word : (b : List ℕ) (from to at w : ℕ) → from ≤ to → at + 2 ≤ from ⊎ to ≤ at
    → slice_range (with_word b at w) from to ≡ slice_range b from to
slice_range-with_word b from to at w order (inl before) =
    slice_range-set (set b at (w % 256)) from to (at + 1) (w / 256) order (inl (omega arith))
    ∙ slice_range-set b from to at (w % 256) order (inl (omega arith))
slice_range-with_word b from to at w order (inr behind) =
    slice_range-set (set b at (w % 256)) from to (at + 1) (w / 256) order (inr (omega arith))
    ∙ slice_range-set b from to at (w % 256) order (inr behind)

-- a word before both check words stays
word-with_sums : (b : List ℕ) (i : ℕ) → i + 2 ≤ 58 → word (with_sums b) i ≡ word b i
word-with_sums b i before =
    word-with_word_apart (with_first_sum b) 510 (word_sum (with_first_sum b) 255) i (inl (omega arith))
    ∙ word-with_word_apart b 58 (word_sum b 29) i (inl before)

-- so do the fields
pub HasHomeFields-with_sums : (b : List ℕ) (blocks : ℕ) → HasHomeFields b blocks → HasHomeFields (with_sums b) blocks
HasHomeFields-with_sums b blocks valid =
    let size = word-with_sums b 0 (omega arith) in
    let high = word-with_sums b 2 (omega arith) in
    let low = word-with_sums b 4 (omega arith) in
    let level = word-with_sums b 12 (omega arith) in
    record {
      some_bitmap = omega (arith, size, valid.some_bitmap);
      small_bitmap = omega (arith, size, valid.small_bitmap);
      index_placed = omega (arith, high, low, valid.index_placed);
      index_within = omega (arith, size, high, low, valid.index_within);
      cluster = word-with_sums b 8 (omega arith) ∙ valid.cluster;
      level = ⊎_elim (λ one. inl (level ∙ one)) (λ two. inr (level ∙ two)) valid.level;
      format = slice_range-with_word (with_first_sum b) 496 508 510 (word_sum (with_first_sum b) 255) (omega arith) (inr (omega arith))
          ∙ slice_range-with_word b 496 508 58 (word_sum b 29) (omega arith) (inl (omega arith)) ∙ valid.format;
    }

-- the second check word changes neither the first nor what it sums
pub HasHomeSums-with_sums : (b : List ℕ) → length b ≡ 512 → HasHomeSums (with_sums b)
HasHomeSums-with_sums b size =
    let once = with_first_sum b in
    let second = word_sum once 255 in
    let length_is : length once ≡ 512 = length-set (set b 58 (word_sum b 29 % 256)) 59 (word_sum b 29 / 256)
    ∙ length-set b 58 (word_sum b 29 % 256) ∙ size in
    record {
      first = word-with_word_apart once 510 second 58 (inl (omega arith)) ∙ word-with_word b 58 (word_sum b 29) (omega arith)
          ∙ sym (word_sum-with_word once 510 second 29 (omega arith) ∙ word_sum-with_word b 58 (word_sum b 29) 29 (omega arith));
      second = word-with_word once 510 second (omega arith) ∙ sym (word_sum-with_word once 510 second 255 (omega arith));
    }

-- a block whose fields are valid is a home block once its sums are made right
pub IsHomeBlock-with_sums : (b : List ℕ) (blocks : ℕ) → length b ≡ 512 → HasHomeFields b blocks → IsHomeBlock (with_sums b) blocks
IsHomeBlock-with_sums b blocks size valid = record { fields = HasHomeFields-with_sums b blocks valid; sums = HasHomeSums-with_sums b size }
