-- A bitmap block in which the free blocks are told anew.
use Rattle.std.proofs.Common.{◌≡◌, ◌≢◌, inl, inr, ℕ, ◌*◌, ◌/◌, ◌<◌, List, length, get_or, sym, ◌∙◌, arith}
use Rattle.std.proofs.Math.ListN.{set}
use Rattle.std.proofs.lemmas.Bool.{cases_lt, cases_eq}
use Rattle.f11_dev.specs.Image.{Image}
use Rattle.f11_bits.specs.Bitmap.{Bitmap, IsBitmap, bitmap_bit}
use Rattle.f11_bits.specs.Replacing.{HasBitsPast, Replaces}
use Rattle.f11_bits.proofs.BitmapLemmas.{is_free-past, is_free-bit, is_free-same, bitmap_bit-written, bitmap_bit-apart}
use Rattle.f11_bits.proofs.BitmapLemmas.{slice_get-set_other, KeepsOthers-write}

-- the bitmap block is written
pub replaces-write : (bitmap : Bitmap) (index : ℕ) (block : List ℕ) (old : Image) → IsBitmap bitmap → index < length bitmap.places
    → get_or bitmap.places index 0 < length old → HasBitsPast bitmap index block old
    → Replaces bitmap index block old (set old (get_or bitmap.places index 0) block)
replaces-write bitmap index block old valid within placed past = record {
  keeps = KeepsOthers-write bitmap old index block within;
  here = λ lbn here below. is_free-bit image bitmap lbn below ∙ bitmap_bit-written old bitmap index lbn block here placed;
  elsewhere = λ lbn apart. elim (cases_lt lbn bitmap.size) [
    | inl below ↦ is_free-same old image bitmap lbn (bit-apart lbn (omega (arith, valid.covered, below)) apart)
    | inr outside ↦ is_free-past image bitmap lbn outside ∙ sym (is_free-past old bitmap lbn outside)
  ];
  past = λ k high below. elim (cases_eq (k / 4096) index) [
    | inl here ↦ bitmap_bit-written old bitmap index k block here placed ∙ past k here high
    | inr apart ↦ bit-apart k below apart
  ];
  others = λ i below apart changes.
      changes (slice_get-set_other old (get_or bitmap.places index 0) (get_or bitmap.places i 0) block
      (λ same. apart (valid.apart i index below within (sym same))));
}
  where
    image : Image
    image = set old (get_or bitmap.places index 0) block

    bit-apart : (k : ℕ) → k < 4096 * length bitmap.places → k / 4096 ≢ index → bitmap_bit image bitmap k ≡ bitmap_bit old bitmap k
    bit-apart k below apart = bitmap_bit-apart old bitmap index k block valid within below apart
