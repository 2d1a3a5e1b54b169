-- The words of a segment's two blocks.
use Rattle.std.proofs.Common.{◌≡◌, ◌≢◌, ◌⊎◌, inl, inr, ℕ, ◌+◌, ◌-◌, ◌*◌, ◌<◌, ◌≤◌, List, ◌++◌, length, get_or, map, slice_index, Some, sym}
use Rattle.std.proofs.Common.{◌∙◌, ap, arith}
use Rattle.std.specs.List.{range_with_len, slice_get}
use Rattle.std.proofs.lemmas.Bool.{cases_eq, cases_lt}
use Rattle.std.proofs.lemmas.Grind.{same_number_lists}
use Rattle.std.proofs.lemmas.List.{get_or_append_left, get_or-map, get_or_past, length-map, length-set, get_or-set_same, get_or-set_other}
use Rattle.std.specs.Prelude.{slice_set}
use Rattle.std.proofs.lemmas.List.FromFn.{length-range_with_len, get_or-range_with_len}
use Rattle.std.proofs.Math.Seq.{get_or-append_right}
use Rattle.f11_bytes.specs.Words.{word, with_word}
use Rattle.f11_bytes.proofs.WordLemmas.{word-with_word, word-with_word_apart, length-with_word}
use Rattle.f11_dev.specs.Image.{Image}
use Rattle.f11_dev.proofs.ImageLemmas.{image_block-read}
use Rattle.rt11_volume.specs.Segment.{words_in, segment_words}

-- word i of some bytes
pub words_of-at : (bytes : List ℕ) (i : ℕ) → i < 512 → slice_index (words_in bytes) i ≡ word bytes (2 * i)
unfolding words_in
words_of-at bytes i within =
    let long : i < length (range_with_len 0 512) = omega (arith, length-range_with_len 0 512) in
    let place : get_or (range_with_len 0 512) i 0 ≡ i = get_or-range_with_len 0 512 i 0 within ∙ omega arith in
    get_or-map (λ k. word bytes (2 * k)) (range_with_len 0 512) i 0 0 long ∙ ap (λ k. word bytes (2 * k)) place

-- and none past the end
pub words_of-past : (bytes : List ℕ) (i : ℕ) → 512 ≤ i → slice_index (words_in bytes) i ≡ 0
unfolding words_in
words_of-past bytes i past =
    let size : length (map (λ k. word bytes (2 * k)) (range_with_len 0 512)) ≡ 512 = simp (length-map, length-range_with_len) in
    get_or_past (map (λ k. word bytes (2 * k)) (range_with_len 0 512)) i 0 (omega (arith, size))

-- a word in the first block, and one in the second
pub words_of-low : (low high : List ℕ) (i : ℕ) → length low ≡ 512 → i < 256 → slice_index (words_in (low ++ high)) i ≡ word low (2 * i)
words_of-low low high i size within =
    let one = get_or_append_left low high 0 (2 * i) (omega arith) in
    let two = get_or_append_left low high 0 (2 * i + 1) (omega arith) in
    words_of-at (low ++ high) i (omega arith) ∙ (λ k. one k + 256 * two k)

pub words_of-high : (low high : List ℕ) (i : ℕ) → length low ≡ 512 → 256 ≤ i → i < 512
    → slice_index (words_in (low ++ high)) i ≡ word high (2 * (i - 256))
words_of-high low high i size behind within =
    let one = get_or-append_right low high (2 * i) 0 (omega arith) in
    let two = get_or-append_right low high (2 * i + 1) 0 (omega arith) in
    let first : 2 * i - length low ≡ 2 * (i - 256) = omega arith in
    let second : 2 * i + 1 - length low ≡ 2 * (i - 256) + 1 = omega arith in
    let low_byte = one ∙ ap (λ k. get_or high k 0) first in
    let high_byte = two ∙ ap (λ k. get_or high k 0) second in
    words_of-at (low ++ high) i within ∙ (λ k. low_byte k + 256 * high_byte k)

-- two blocks that were read one after another are those of a segment
pub segment_words-read : (image later : Image) (k n : ℕ) (low high : List ℕ) → n ≡ k → later ≡ image
    → slice_get image (4 + 2 * n) ≡ Some low
    → slice_get later (4 + 2 * n + 1) ≡ Some high → words_in (low ++ high) ≡ segment_words image k
unfolding segment_words
segment_words-read image later k n low high number same one two =
    let first = image_block-read image (4 + 2 * n) low one in
    let second = image_block-read image (4 + 2 * n + 1) high (sym (ap (λ (i : Image). slice_get i (4 + 2 * n + 1)) same) ∙ two) in
    rw (← number) (λ i. words_in (sym first i ++ sym second i))

-- there are 512 of them
pub length-words_of : (bytes : List ℕ) → length (words_in bytes) ≡ 512
unfolding words_in
length-words_of bytes = simp (length-map, length-range_with_len)

-- a word that was put in the first block, and in the second
pub words_of-set_low : (low high : List ℕ) (i w : ℕ) → length low ≡ 512 → i < 256
    → words_in (with_word low (2 * i) w ++ high) ≡ slice_set (words_in (low ++ high)) i w
words_of-set_low low high i w size within =
    let now : List ℕ = with_word low (2 * i) w in
    let long : length now ≡ 512 = length-with_word low (2 * i) w ∙ size in
    let old : List ℕ = words_in (low ++ high) in
    same_number_lists (words_in (now ++ high)) (slice_set old i w)
    (length-words_of (now ++ high) ∙ sym (length-set old i w ∙ length-words_of (low ++ high))) (λ k inside.
    let few : k < 512 = omega (arith, inside, length-words_of (now ++ high)) in
    elim (cases_eq k i) [
      | inl same ↦
          ap (slice_index (words_in (now ++ high))) same ∙ words_of-low now high i long within
          ∙ word-with_word low (2 * i) w (omega (arith, size, within))
          ∙ sym (get_or-set_same old i w 0 (omega (arith, length-words_of (low ++ high), within)))
          ∙ ap (λ j. get_or (slice_set old i w) j 0) (sym same)
      | inr apart ↦ elim (cases_lt k 256) [
        | inl first ↦
            words_of-low now high k long first ∙ word-with_word_apart low (2 * i) w (2 * k) (by_order k i apart)
            ∙ sym (words_of-low low high k size first) ∙ sym (get_or-set_other old i k w 0 apart)
        | inr second ↦ words_of-high now high k long second few ∙ sym (words_of-high low high k size second few)
            ∙ sym (get_or-set_other old i k w 0 apart)
      ]
    ])
  where
    by_order : (k i : ℕ) → k ≢ i → (2 * k + 2 ≤ 2 * i) ⊎ (2 * i + 2 ≤ 2 * k)
    by_order k i apart = elim (cases_lt k i) [ inl less ↦ inl (omega (arith, less)) | inr more ↦ inr (omega (arith, more, apart)) ]

pub words_of-set_high : (low high : List ℕ) (i w : ℕ) → length low ≡ 512 → length high ≡ 512 → 256 ≤ i → i < 512
    → words_in (low ++ with_word high (2 * (i - 256)) w) ≡ slice_set (words_in (low ++ high)) i w
words_of-set_high low high i w size size_high behind within =
    let at : ℕ = 2 * (i - 256) in
    let now : List ℕ = with_word high at w in
    let old : List ℕ = words_in (low ++ high) in
    same_number_lists (words_in (low ++ now)) (slice_set old i w)
    (length-words_of (low ++ now) ∙ sym (length-set old i w ∙ length-words_of (low ++ high))) (λ k inside.
    let few : k < 512 = omega (arith, inside, length-words_of (low ++ now)) in
    elim (cases_eq k i) [
      | inl same ↦
          ap (slice_index (words_in (low ++ now))) same ∙ words_of-high low now i size behind within
          ∙ word-with_word high at w (omega (arith, size_high, behind, within))
          ∙ sym (get_or-set_same old i w 0 (omega (arith, length-words_of (low ++ high), within)))
          ∙ ap (λ j. get_or (slice_set old i w) j 0) (sym same)
      | inr apart ↦ elim (cases_lt k 256) [
        | inl first ↦ words_of-low low now k size first ∙ sym (words_of-low low high k size first)
            ∙ sym (get_or-set_other old i k w 0 apart)
        | inr second ↦
            words_of-high low now k size second few ∙ word-with_word_apart high at w (2 * (k - 256)) (by_order k i apart second behind)
            ∙ sym (words_of-high low high k size second few) ∙ sym (get_or-set_other old i k w 0 apart)
      ]
    ])
  where
    by_order : (k i : ℕ) → k ≢ i → 256 ≤ k → 256 ≤ i → (2 * (k - 256) + 2 ≤ 2 * (i - 256)) ⊎ (2 * (i - 256) + 2 ≤ 2 * (k - 256))
    by_order k i apart one two =
        elim (cases_lt k i) [ inl less ↦ inl (omega (arith, less, one, two)) | inr more ↦ inr (omega (arith, more, apart, one, two)) ]
