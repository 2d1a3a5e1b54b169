-- A run that is looked for from the first block on that may be free.
use Rattle.std.proofs.Common.{◌≡◌, inl, inr, ℕ, ◌+◌, ◌<◌, ◌≤◌, max, Bool, false, arith, ◌∙◌}
use Rattle.std.proofs.lemmas.Bool.{cases_lt, both_ways}
use Rattle.f11_dev.specs.Image.{Image}
use Rattle.f11_bits.specs.Bitmap.{Bitmap, Marks, is_free}
use Rattle.f11_bits.specs.Room.{IsFirstRoom}
use Rattle.f11_bits.specs.Run.{IsFirstRun, NoneBelow, NoneFrom}
use Rattle.f11_bits.specs.Storage.{StandsAlike}
use Rattle.f11_bits.specs.declared.storage.Storage.{Storage}

-- it is the first of all from a block on
pub IsFirstRun-low : (free : ℕ → Bool) (low from most lbn count : ℕ) → NoneBelow free low → IsFirstRun free (max from low) most lbn count
    → IsFirstRun free from most lbn count
IsFirstRun-low free low from most lbn count none run = record {
  above = omega (arith, run.above);
  first = λ k above below. elim (cases_lt k low) [
    | inl early ↦ none k early
    | inr late ↦ run.first k (omega (arith, above, late)) below
  ];
  some = run.some;
  short = run.short;
  asked = run.asked;
  each = run.each;
  ended = run.ended;
}

-- or there is none from there on
pub NoneFrom-low : (free : ℕ → Bool) (low from : ℕ) → NoneBelow free low → NoneFrom free (max from low) → NoneFrom free from
NoneFrom-low free low from none later k above = elim (cases_lt k low) [
  | inl early ↦ none k early
  | inr late ↦ later k (omega (arith, above, late))
]

-- room for blocks in a row begins no lower
pub IsFirstRoom-low : (free : ℕ → Bool) (low n begin : ℕ) → NoneBelow free low → 0 < n → begin ≤ low → IsFirstRoom free n 0 begin begin
IsFirstRoom-low free low n begin none some below = record {
  above = omega arith;
  within = omega arith;
  room = λ j above near inside. absurd (omega (arith, above, inside));
  first = λ j above early room. both_ways (free j) (none j (omega (arith, early, below)))
      (room j (omega arith) (omega (arith, some)) early);
}

-- blocks that are taken are no lower free ones
pub NoneBelow-marked : (old new : Image) (lbn count : ℕ) (bitmap : Bitmap) (k : ℕ) {low : ℕ} → k < low
    → Marks false bitmap lbn count old new
    → NoneBelow (is_free old bitmap) low → is_free new bitmap k ≡ false
NoneBelow-marked old new lbn count bitmap k below marks none = elim (cases_lt k lbn) [
  | inl before ↦ marks.before k before ∙ none k below
  | inr from ↦ elim (cases_lt k (lbn + count)) [
    | inl inside ↦ marks.inside k from inside
    | inr after ↦ marks.after k after ∙ none k below
  ]
]

-- nor is one that stands before those that are, where they are the first
pub NoneBelow-taken : (old new : Image) (from low lbn count : ℕ) (bitmap : Bitmap) (most k : ℕ) → from ≤ low → k < lbn + count
    → Marks false bitmap lbn count old new → IsFirstRun (is_free old bitmap) from most lbn count → NoneBelow (is_free old bitmap) low
    → is_free new bitmap k ≡ false
NoneBelow-taken old new from low lbn count bitmap most k first below marks run none = elim (cases_lt k lbn) [
  | inl before ↦ marks.before k before ∙ elim (cases_lt k low) [
    | inl early ↦ none k early
    | inr late ↦ run.first k (omega (arith, first, late)) before
  ]
  | inr from ↦ marks.inside k from below
]

-- one that stands alike stands as what it stands like does
pub stands-on : {was now new : Storage} → StandsAlike now new → StandsAlike was now → StandsAlike was new
stands-on second first = record {
  bitmap = second.bitmap ∙ first.bitmap;
  free = second.free ∙ first.free;
  low = second.low ∙ first.low;
}
