-- Facts about a bitmap's free blocks, and how a write of one of its blocks changes them.
use Rattle.std.proofs.Common.{◌≡◌, ◌≢◌, ◌⊎◌, inl, inr, ℕ, zero, suc, ◌+◌, ◌-◌, ◌*◌, ◌/◌, ◌%◌, ◌<◌, ◌≤◌, min, Bool, IsTrue, true, false}
use Rattle.std.proofs.Common.{◌&&◌, ltb, List, [], ◌∷◌, length, get_or, Some, refl, sym, ap, ◌∙◌, arith, lt-ltb, le-ltb}
use Rattle.std.proofs.Math.ListN.{set}
use Rattle.std.specs.List.{slice_get}
use Rattle.std.proofs.lemmas.List.{length-set, get_or-set_same, get_or-set_other}
use Rattle.std.proofs.lemmas.Bool.{cases_lt, cases_eq, and_left}
use Rattle.std.proofs.lemmas.Option.{get_or_from_slice_get}
use Rattle.f11_dev.specs.bytes.Bits.{bit}
use Rattle.f11_dev.specs.Image.{Image}
use Rattle.f11_bits.specs.Bitmap.{Bitmap, IsBitmap, LiesWithin, bitmap_bit, is_free, count_below, free_blocks, KeepsOthers, Marks}
use Rattle.f11_bits.specs.Bits.{bit_below}
use Rattle.f11_bits.specs.Changes.{Changing}
use Rattle.f11_bits.specs.Parts.{HasBitOf, IsPart}
use Rattle.f11_bits.proofs.CountLemmas.{count_below-more, count_below-append, count_below-zero}

-- a block past the volume's end isn't free
pub is_free-past : (image : Image) (bitmap : Bitmap) (lbn : ℕ) → bitmap.size ≤ lbn → is_free image bitmap lbn ≡ false
unfolding is_free
is_free-past image bitmap lbn past = and_left _ _ (le-ltb lbn bitmap.size past)

-- below it a block is free where its bit is 1
pub is_free-bit : (image : Image) (bitmap : Bitmap) (lbn : ℕ) → lbn < bitmap.size → is_free image bitmap lbn ≡ bitmap_bit image bitmap lbn
unfolding is_free
is_free-bit image bitmap lbn below = ap (λ (b : Bool). b && bitmap_bit image bitmap lbn) (lt-ltb lbn bitmap.size below)

-- so images whose bits agree have the same free blocks
pub is_free-same : (old new : Image) (bitmap : Bitmap) (lbn : ℕ) → bitmap_bit new bitmap lbn ≡ bitmap_bit old bitmap lbn
    → is_free new bitmap lbn ≡ is_free old bitmap lbn
unfolding is_free
is_free-same old new bitmap lbn same = ap (λ (b : Bool). ltb lbn bitmap.size && b) same

-- a bit in the bitmap block that has it
pub bitmap_bit-at : (image : Image) (bitmap : Bitmap) (index k : ℕ) (block : List ℕ) → k < 4096
    → slice_get image (get_or bitmap.places index 0) ≡ Some block → bitmap_bit image bitmap (4096 * index + k) ≡ bit block k
unfolding bitmap_bit
bitmap_bit-at image bitmap index k block below stands =
    let quotient : (4096 * index + k) / 4096 ≡ index = omega arith in
    let rest : (4096 * index + k) % 4096 ≡ k = omega arith in
    rw (quotient, rest, get_or_from_slice_get image (get_or bitmap.places index 0) block [] stands) refl

-- a free block in the bitmap block that has its bit
pub is_free-at : (image : Image) (bitmap : Bitmap) (index k : ℕ) (block : List ℕ) → k < 4096
    → slice_get image (get_or bitmap.places index 0) ≡ Some block
    → is_free image bitmap (4096 * index + k) ≡ bit_below block (min (bitmap.size - 4096 * index) 4096) k
is_free-at image bitmap index k block below stands =
    let bit_is = bitmap_bit-at image bitmap index k block below stands in
    elim (cases_lt (4096 * index + k) bitmap.size) [
      | inl within ↦ is_free-bit image bitmap (4096 * index + k) within ∙ bit_is
          ∙ sym (ap (λ (b : Bool). b && bit block k) (lt-ltb k (min (bitmap.size - 4096 * index) 4096) (omega arith)))
      | inr past ↦ is_free-past image bitmap (4096 * index + k) past
          ∙ sym (and_left _ _ (le-ltb k (min (bitmap.size - 4096 * index) 4096) (omega arith)))
    ]

-- the bit of a block whose bitmap block was written
pub bitmap_bit-written : (old : Image) (bitmap : Bitmap) (index k : ℕ) (block : List ℕ) → k / 4096 ≡ index
    → get_or bitmap.places index 0 < length old
    → bitmap_bit (set old (get_or bitmap.places index 0) block) bitmap k ≡ bit block (k % 4096)
unfolding bitmap_bit
bitmap_bit-written old bitmap index k block here within =
    ap (λ (i : ℕ). bit (get_or (set old (get_or bitmap.places index 0) block) (get_or bitmap.places i 0) []) (k % 4096)) here
    ∙ ap (λ (b : List ℕ). bit b (k % 4096)) (get_or-set_same old (get_or bitmap.places index 0) block [] within)

-- and what it was before
pub bitmap_bit-here : (old : Image) (bitmap : Bitmap) (index k : ℕ) (block : List ℕ) → k / 4096 ≡ index
    → slice_get old (get_or bitmap.places index 0) ≡ Some block → bitmap_bit old bitmap k ≡ bit block (k % 4096)
unfolding bitmap_bit
bitmap_bit-here old bitmap index k block here stands =
    ap (λ (i : ℕ). bit (get_or old (get_or bitmap.places i 0) []) (k % 4096)) here
    ∙ ap (λ (b : List ℕ). bit b (k % 4096)) (get_or_from_slice_get old (get_or bitmap.places index 0) block [] stands)

-- the bit of a block with another bitmap block
pub bitmap_bit-apart : (old : Image) (bitmap : Bitmap) (index k : ℕ) (block : List ℕ) → IsBitmap bitmap → index < length bitmap.places
    → k < 4096 * length bitmap.places
    → k / 4096 ≢ index → bitmap_bit (set old (get_or bitmap.places index 0) block) bitmap k ≡ bitmap_bit old bitmap k
unfolding bitmap_bit
bitmap_bit-apart old bitmap index k block valid within below apart =
    let other : get_or bitmap.places (k / 4096) 0 ≢ get_or bitmap.places index 0 = λ same.
    apart (valid.apart (k / 4096) index (omega arith) within same) in
    ap (λ (b : List ℕ). bit b (k % 4096))
    (get_or-set_other old (get_or bitmap.places index 0) (get_or bitmap.places (k / 4096) 0) block [] other)

-- another element stays
pub slice_get-set_other : (xs : Image) (i j : ℕ) (y : List ℕ) → i ≢ j → slice_get (set xs i y) j ≡ slice_get xs j
slice_get-set_other [] i j y apart = refl
slice_get-set_other (x ∷ xs) zero zero y apart = absurd (apart refl)
slice_get-set_other (x ∷ xs) zero (suc j) y apart = refl
slice_get-set_other (x ∷ xs) (suc i) zero y apart = refl
slice_get-set_other (x ∷ xs) (suc i) (suc j) y apart = slice_get-set_other xs i j y (λ same. apart (ap suc same))

pub KeepsOthers-refl : (bitmap : Bitmap) (image : Image) → KeepsOthers bitmap image image
KeepsOthers-refl bitmap image = record { size = refl; others = λ lbn apart. refl }

pub KeepsOthers-trans : (bitmap : Bitmap) (a b c : Image) → KeepsOthers bitmap a b → KeepsOthers bitmap b c → KeepsOthers bitmap a c
KeepsOthers-trans bitmap a b c first then =
    record { size = then.size ∙ first.size; others = λ lbn apart. then.others lbn apart ∙ first.others lbn apart }

-- a bitmap block was written
pub KeepsOthers-write : (bitmap : Bitmap) (image : Image) (index : ℕ) (block : List ℕ) → index < length bitmap.places
    → KeepsOthers bitmap image (set image (get_or bitmap.places index 0) block)
KeepsOthers-write bitmap image index block within = record {
  size = length-set image (get_or bitmap.places index 0) block;
  others = λ lbn apart. slice_get-set_other image (get_or bitmap.places index 0) lbn block (apart index within);
}

-- and then those that follow
pub Marks-more : (free : Bool) (bitmap : Bitmap) (lbn m n : ℕ) (a b c : Image) → Marks free bitmap lbn m a b
    → Marks free bitmap (lbn + m) n b c → Marks free bitmap lbn (m + n) a c
Marks-more free bitmap lbn m n a b c first then = record {
  keeps = KeepsOthers-trans bitmap a b c first.keeps then.keeps;
  inside = λ k low high. elim (cases_lt k (lbn + m)) [
    | inl early ↦ then.before k early ∙ first.inside k low early
    | inr late ↦ then.inside k late (omega arith)
  ];
  before = λ k low. then.before k (omega arith) ∙ first.before k low;
  after = λ k high. then.after k (omega arith) ∙ first.after k (omega arith);
  past = λ k high below. then.past k high below ∙ first.past k high below;
}

-- the block that has their bits was written
pub Marks-write : (free : Bool) (bitmap : Bitmap) (lbn count : ℕ) (old : Image) (block new : List ℕ) → IsBitmap bitmap
    → LiesWithin bitmap (length old) → IsPart bitmap.size 0 4096 lbn count
    → HasBitOf old bitmap lbn block
    → ((k : ℕ) → lbn % 4096 ≤ k → k < lbn % 4096 + count → bit new k ≡ free)
    → ((k : ℕ) → k < lbn % 4096 → bit new k ≡ bit block k)
    → ((k : ℕ) → lbn % 4096 + count ≤ k → k < 4096 → bit new k ≡ bit block k)
    → Marks free bitmap lbn count old (set old (get_or bitmap.places (lbn / 4096) 0) new)
Marks-write free bitmap lbn count old block new valid lies part stands inside before after = record {
  keeps = KeepsOthers-write bitmap old index new within;
  inside = λ k low high.
      is_free-bit image bitmap k (omega (arith, part.within)) ∙ bitmap_bit-written old bitmap index k new (omega (arith, part.one)) placed
      ∙ inside (k % 4096) (omega (arith, part.one)) (omega (arith, part.one));
  before = λ k low. free_stays k (λ below. bit_before k low);
  after = λ k high. free_stays k (λ below. bit_after k high (omega (arith, valid.covered)));
  past = λ k high below. bit_after k (omega (arith, part.within)) below;
}
  where
    index : ℕ
    index = lbn / 4096

    image : Image
    image = set old (get_or bitmap.places (lbn / 4096) 0) new

    within : lbn / 4096 < length bitmap.places
    within = omega (arith, valid.covered, part.some, part.within)

    placed : get_or bitmap.places (lbn / 4096) 0 < length old
    placed = lies (lbn / 4096) within

    bit_before : (k : ℕ) → k < lbn → bitmap_bit image bitmap k ≡ bitmap_bit old bitmap k
    bit_before k low = elim (cases_eq (k / 4096) (lbn / 4096)) [
      | inl here ↦ bitmap_bit-written old bitmap (lbn / 4096) k new here placed ∙ before (k % 4096) (omega arith)
          ∙ sym (bitmap_bit-here old bitmap (lbn / 4096) k block here stands)
      | inr apart ↦ bitmap_bit-apart old bitmap (lbn / 4096) k new valid within (omega (arith, valid.covered, part.within)) apart
    ]

    bit_after : (k : ℕ) → lbn + count ≤ k → k < 4096 * length bitmap.places → bitmap_bit image bitmap k ≡ bitmap_bit old bitmap k
    bit_after k high below = elim (cases_eq (k / 4096) (lbn / 4096)) [
      | inl here ↦ bitmap_bit-written old bitmap (lbn / 4096) k new here placed ∙ after (k % 4096) (omega arith) (omega arith)
          ∙ sym (bitmap_bit-here old bitmap (lbn / 4096) k block here stands)
      | inr apart ↦ bitmap_bit-apart old bitmap (lbn / 4096) k new valid within below apart
    ]

    free_stays : (k : ℕ) → (k < bitmap.size → bitmap_bit image bitmap k ≡ bitmap_bit old bitmap k)
        → is_free image bitmap k ≡ is_free old bitmap k
    free_stays k same = elim (cases_lt k bitmap.size) [
      | inl below ↦ is_free-same old image bitmap k (same below)
      | inr past ↦ is_free-past image bitmap k past ∙ sym (is_free-past old bitmap k past)
    ]

-- so many blocks more are free
pub free_blocks-given : (bitmap : Bitmap) (lbn count : ℕ) (old new : Image) → lbn + count ≤ bitmap.size
    → Marks true bitmap lbn count old new
    → ((k : ℕ) → lbn ≤ k → k < lbn + count → is_free old bitmap k ≡ false) → free_blocks new bitmap ≡ free_blocks old bitmap + count
free_blocks-given bitmap lbn count old new within marks used =
    count_below-more (is_free new bitmap) (is_free old bitmap) lbn count bitmap.size within marks.inside used marks.before marks.after

-- so many are no longer free
pub free_blocks-taken : (bitmap : Bitmap) (lbn count : ℕ) (old new : Image) → lbn + count ≤ bitmap.size
    → Marks false bitmap lbn count old new
    → ((k : ℕ) → lbn ≤ k → k < lbn + count → is_free old bitmap k ≡ true) → free_blocks old bitmap ≡ free_blocks new bitmap + count
free_blocks-taken bitmap lbn count old new within marks free =
    count_below-more (is_free old bitmap) (is_free new bitmap) lbn count bitmap.size within free marks.inside
    (λ k low. sym (marks.before k low)) (λ k high. sym (marks.after k high))

-- an image with all of them marked
pub Changing-all : (honest free : Bool) (bitmap : Bitmap) (lbn count : ℕ) (old image : Image) → 0 < count → KeepsOthers bitmap old image
    → (IsTrue honest → Marks free bitmap lbn count old image) → Changing honest free bitmap lbn count old image
Changing-all honest free bitmap lbn count old image some keeps marks = record {
  keeps = keeps;
  marking = λ is. record { part = count; some = some; within = omega arith; whole = inl refl; marks = marks is };
}

-- an image while n of them are marked, after the m before them
pub Changing-more : (honest free : Bool) (bitmap : Bitmap) (lbn m n count : ℕ) (old now image : Image) → KeepsOthers bitmap old now
    → (IsTrue honest → Marks free bitmap lbn m old now) → m + n ≤ count → (m + n ≡ count) ⊎ ((lbn + (m + n)) % 4096 ≡ 0)
    → Changing honest free bitmap (lbn + m) n now image → Changing honest free bitmap lbn count old image
Changing-more honest free bitmap lbn m n count old now image keeps marks within whole changing = record {
  keeps = KeepsOthers-trans bitmap old now image keeps changing.keeps;
  marking = λ is.
      let marking = changing.marking is in
      record {
        part = m + marking.part;
        some = omega (arith, marking.some);
        within = omega (arith, marking.within);
        whole = elim marking.whole [
          | inl all ↦ elim whole [
            | inl last ↦ inl (omega arith)
            | inr edge ↦ inr (omega arith)
          ]
          | inr edge ↦ inr (omega arith)
        ];
        marks = Marks-more free bitmap lbn m marking.part old now image (marks is) marking.marks;
      };
}

-- the free blocks of one bitmap block more
pub free_below-more : (image : Image) (bitmap : Bitmap) (index so_far more : ℕ) (block : List ℕ)
    → slice_get image (get_or bitmap.places index 0) ≡ Some block
    → so_far ≡ count_below (is_free image bitmap) (min (4096 * index) bitmap.size)
    → more ≡ count_below (bit block) (min (bitmap.size - 4096 * index) 4096)
    → so_far + more ≡ count_below (is_free image bitmap) (min (4096 * (index + 1)) bitmap.size)
free_below-more image bitmap index so_far more block stands before here =
    elim (cases_lt bitmap.size (4096 * index)) [
      | inl past ↦
          let start : min (4096 * index) bitmap.size ≡ bitmap.size = omega arith in
          let end : min (4096 * (index + 1)) bitmap.size ≡ bitmap.size = omega arith in
          let none : min (bitmap.size - 4096 * index) 4096 ≡ 0 = omega arith in
          omega (
            arith,
            before,
            here,
            ap (count_below (is_free image bitmap)) start,
            ap (count_below (is_free image bitmap)) end,
            ap (count_below (bit block)) none,
            count_below-zero (bit block),
          )
      | inr within ↦
          let start : min (4096 * index) bitmap.size ≡ 4096 * index = omega arith in
          let end : min (4096 * (index + 1)) bitmap.size ≡ 4096 * index + min (bitmap.size - 4096 * index) 4096 = omega arith in
          let sum = count_below-append (is_free image bitmap) (bit block) (4096 * index) (min (bitmap.size - 4096 * index) 4096)
          (λ k below. is_free-bit image bitmap (4096 * index + k) (omega arith) ∙ bitmap_bit-at image bitmap index k block (omega arith)
          stands) in
          omega (arith, before, here, sum, ap (count_below (is_free image bitmap)) start, ap (count_below (is_free image bitmap)) end)
    ]

-- another bitmap block is as it was
pub HasBitOf-apart : (old new : Image) (bitmap : Bitmap) (index lbn : ℕ) (written block : List ℕ) → IsBitmap bitmap
    → index < length bitmap.places → lbn < bitmap.size → lbn / 4096 ≢ index
    → new ≡ set old (get_or bitmap.places index 0) written → HasBitOf old bitmap lbn block → HasBitOf new bitmap lbn block
HasBitOf-apart old new bitmap index lbn written block valid within below apart is stands =
    let other : get_or bitmap.places index 0 ≢ get_or bitmap.places (lbn / 4096) 0 = λ same.
    apart (sym (valid.apart index (lbn / 4096) within (omega (arith, valid.covered)) same)) in
    ap (λ (image : Image). slice_get image (get_or bitmap.places (lbn / 4096) 0)) is
    ∙ slice_get-set_other old (get_or bitmap.places index 0) (get_or bitmap.places (lbn / 4096) 0) written other ∙ stands
