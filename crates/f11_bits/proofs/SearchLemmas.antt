-- Facts about runs of free blocks, found a bitmap block at a time.
use Rattle.std.proofs.Common.{◌≡◌, inl, inr, ℕ, ◌+◌, ◌-◌, ◌*◌, ◌%◌, ◌<◌, ◌≤◌, min, true, false, ltb, List, get_or, Some, sym, ap, ◌∙◌}
use Rattle.std.proofs.Common.{arith}
use Rattle.std.specs.List.{slice_get}
use Rattle.std.proofs.lemmas.Bool.{cases_lt, and_parts, ltb-true}
use Rattle.f11_dev.specs.bytes.Bits.{bit}
use Rattle.f11_dev.specs.Image.{Image}
use Rattle.f11_bits.specs.Bitmap.{Bitmap, is_free}
use Rattle.f11_bits.specs.Bits.{bit_below}
use Rattle.f11_bits.specs.Run.{IsFirstRun, NoneFrom}
use Rattle.f11_bits.specs.Parts.{IsPart, IsFirstPart, IsFreeRest}
use Rattle.f11_bits.proofs.BitmapLemmas.{is_free-at, is_free-past}

-- a bit that counts is below the end
bit_below-within : (b : List ℕ) (end k : ℕ) → bit_below b end k ≡ true → k < end
bit_below-within b end k is = let parts = and_parts (ltb k end) (bit b k) is in ltb-true k end parts.0

-- as many bits as are 1 from a bit on end below the end
pub bits-within : (b : List ℕ) (end at count : ℕ) → 0 < count → ((k : ℕ) → at ≤ k → k < at + count → bit_below b end k ≡ true)
    → at + count ≤ end
bits-within b end at count some each =
    omega (arith, bit_below-within b end (at + count - 1) (each (at + count - 1) (omega arith) (omega arith)))

-- whether a block of a bitmap block is free
free_at : (image : Image) (bitmap : Bitmap) (index limit lbn k : ℕ) (block : List ℕ) → limit ≡ min (bitmap.size - 4096 * index) 4096
    → lbn ≡ 4096 * index + k → k < 4096
    → slice_get image (get_or bitmap.places index 0) ≡ Some block → is_free image bitmap lbn ≡ bit_below block limit k
free_at image bitmap index limit lbn k block limit_is is below stands =
    ap (is_free image bitmap) is ∙ is_free-at image bitmap index k block below stands
    ∙ ap (λ (end : ℕ). bit_below block end k) (sym limit_is)

-- a run of bits is one of blocks
pub IsPart-found : (size from most index start limit at count : ℕ) (block : List ℕ) → start ≡ from - index * 4096
    → limit ≡ min (size - 4096 * index) 4096
    → IsFirstRun (bit_below block limit) start most at count → IsPart size from most (index * 4096 + at) count
IsPart-found size from most index start limit at count block start_is limit_is run =
    let end = bits-within block limit at count run.some run.each in
    record {
      above = omega (arith, run.above);
      some = run.some;
      few = run.asked;
      one = omega (arith, end, run.some);
      within = omega (arith, end, run.some);
    }

-- and the first of them, where no block before that bitmap block is free
pub IsFirstPart-found : (image : Image) (bitmap : Bitmap) (from most index start limit at count : ℕ) (block : List ℕ) → most ≤ 256
    → start ≡ from - index * 4096 → limit ≡ min (bitmap.size - 4096 * index) 4096
    → slice_get image (get_or bitmap.places index 0) ≡ Some block
    → ((k : ℕ) → from ≤ k → k < 4096 * index → is_free image bitmap k ≡ false)
    → IsFirstRun (bit_below block limit) start most at count
    → IsFirstPart (is_free image bitmap) from most (index * 4096 + at) count
IsFirstPart-found image bitmap from most index start limit at count block few start_is limit_is stands none run =
    let end = bits-within block limit at count run.some run.each in
    record {
      first = λ k low high. elim (cases_lt k (4096 * index)) [
        | inl before ↦ none k low before
        | inr here ↦ free_at image bitmap index limit k (k - 4096 * index) block limit_is (omega arith) (omega arith) stands
            ∙ run.first (k - 4096 * index) (omega arith) (omega arith)
      ];
      each = λ k low high. free_at image bitmap index limit k (k - 4096 * index) block limit_is (omega arith) (omega arith) stands
          ∙ run.each (k - 4096 * index) (omega arith) (omega arith);
      ended = λ cut inside. free_at image bitmap index limit (index * 4096 + at + count) (at + count) block limit_is (omega arith)
          (omega arith) stands ∙ run.ended (omega arith) cut;
    }

-- one bitmap block more without a free block
pub none_free-more : (image : Image) (bitmap : Bitmap) (from index start limit : ℕ) (block : List ℕ)
    → start ≡ from - index * 4096 → limit ≡ min (bitmap.size - 4096 * index) 4096
    → slice_get image (get_or bitmap.places index 0) ≡ Some block
    → ((k : ℕ) → from ≤ k → k < 4096 * index → is_free image bitmap k ≡ false)
    → NoneFrom (bit_below block limit) start
    → (k : ℕ) → from ≤ k → k < 4096 * (index + 1) → is_free image bitmap k ≡ false
none_free-more image bitmap from index start limit block start_is limit_is stands none here k low high = elim (cases_lt k (4096 * index)) [
  | inl before ↦ none k low before
  | inr after ↦ free_at image bitmap index limit k (k - 4096 * index) block limit_is (omega arith) (omega arith) stands
      ∙ here (k - 4096 * index) (omega arith)
]

-- none up to the volume's end is none
pub NoneFrom-all : (image : Image) (bitmap : Bitmap) (from end : ℕ) → bitmap.size ≤ end
    → ((k : ℕ) → from ≤ k → k < end → is_free image bitmap k ≡ false) → NoneFrom (is_free image bitmap) from
NoneFrom-all image bitmap from end past none k low = elim (cases_lt k end) [
  | inl below ↦ none k low below
  | inr beyond ↦ is_free-past image bitmap k (omega arith)
]

-- the rest of a run, where a bitmap block begins
pub IsFreeRest-found : (image : Image) (bitmap : Bitmap) (most end index limit count : ℕ) (block : List ℕ)
    → limit ≡ min (bitmap.size - 4096 * index) 4096 → most ≤ 256 → end ≡ 4096 * index → count ≤ most
    → slice_get image (get_or bitmap.places index 0) ≡ Some block
    → ((k : ℕ) → 0 ≤ k → k < 0 + count → bit_below block limit k ≡ true)
    → (count < most → bit_below block limit (0 + count) ≡ false)
    → IsFreeRest (is_free image bitmap) most end count
IsFreeRest-found image bitmap most end index limit count block limit_is short is few stands each ended = record {
  each = λ k low high. free_at image bitmap index limit k (k - 4096 * index) block limit_is (omega arith) (omega arith) stands
      ∙ each (k - 4096 * index) (omega arith) (omega arith);
  ended = λ cut edge. free_at image bitmap index limit (end + count) (0 + count) block limit_is (omega arith) (omega arith) stands
      ∙ ended cut;
}

-- no bitmap block begins at the end of the first part, or none is to come
pub IsFreeRest-none : (image : Image) (bitmap : Bitmap) (most end : ℕ) → (0 < most → end % 4096 ≡ 0 → bitmap.size ≤ end)
    → IsFreeRest (is_free image bitmap) most end 0
IsFreeRest-none image bitmap most end past = record {
  each = λ k low high. absurd (omega arith);
  ended = λ cut edge. is_free-past image bitmap (end + 0) (omega (arith, past cut edge));
}
