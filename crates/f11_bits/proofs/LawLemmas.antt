-- A write of blocks that aren't the bitmap's keeps what is free.
use Rattle.std.proofs.Common.{◌≡◌, ◌≢◌, inl, inr, ℕ, ◌%◌, ◌/◌, ◌<◌, Bool, IsTrue, List, [], length, get_or, Option, unwrap_or, sym, ap, ◌∙◌}
use Rattle.std.proofs.Common.{arith}
use Rattle.std.proofs.Math.ListN.{set}
use Rattle.std.specs.List.{slice_get}
use Rattle.std.proofs.lemmas.Bool.{cases_lt}
use Rattle.std.proofs.lemmas.List.{length-set}
use Rattle.std.proofs.lemmas.Option.{unwrap_or-slice_get}
use Rattle.f11_dev.specs.bytes.Bits.{bit}
use Rattle.f11_dev.specs.Disk.{Disk, with_transfer, with_block_at}
use Rattle.f11_dev.specs.Image.{Image}
use Rattle.f11_bits.specs.Bitmap.{Bitmap, IsBitmap, bitmap_bit, is_free, free_blocks, KeepsBitmap}
use Rattle.f11_bits.specs.Storage.{bitmap_of, Keeps, IsFor}
use Rattle.f11_bits.specs.declared.storage.Storage.{Storage}
use Rattle.f11_bits.proofs.CountLemmas.{count_below-same}
use Rattle.f11_bits.proofs.BitmapLemmas.{slice_get-set_other, is_free-past, is_free-same}

-- another block was written
pub KeepsBitmap-write : (bitmap : Bitmap) (image : Image) (lbn : ℕ) (block : List ℕ)
    → ((i : ℕ) → i < length bitmap.places → get_or bitmap.places i 0 ≢ lbn) → KeepsBitmap bitmap image (set image lbn block)
KeepsBitmap-write bitmap image lbn block apart i within =
    slice_get-set_other image lbn (get_or bitmap.places i 0) block (λ same. apart i within (sym same))

-- a bit whose bitmap block stays
pub bitmap_bit-same : (bitmap : Bitmap) (old new : Image) (k : ℕ)
    → slice_get new (get_or bitmap.places (k / 4096) 0) ≡ slice_get old (get_or bitmap.places (k / 4096) 0)
    → bitmap_bit new bitmap k ≡ bitmap_bit old bitmap k
unfolding bitmap_bit
bitmap_bit-same bitmap old new k same =
    let place = get_or bitmap.places (k / 4096) 0 in
    ap (λ (b : List ℕ). bit b (k % 4096)) (sym (unwrap_or-slice_get new place []) ∙ ap (λ (o : Option (List ℕ)). unwrap_or o []) same
    ∙ unwrap_or-slice_get old place [])

pub is_free-kept : (bitmap : Bitmap) (old new : Image) (k : ℕ) → IsBitmap bitmap → KeepsBitmap bitmap old new
    → is_free new bitmap k ≡ is_free old bitmap k
is_free-kept bitmap old new k valid keeps = elim (cases_lt k bitmap.size) [
  | inl below ↦ is_free-same old new bitmap k (bitmap_bit-same bitmap old new k (keeps (k / 4096) (omega (arith, valid.covered))))
  | inr past ↦ is_free-past new bitmap k past ∙ sym (is_free-past old bitmap k past)
]

pub free_blocks-kept : (bitmap : Bitmap) (old new : Image) → IsBitmap bitmap → KeepsBitmap bitmap old new
    → free_blocks new bitmap ≡ free_blocks old bitmap
free_blocks-kept bitmap old new valid keeps =
    count_below-same (is_free new bitmap) (is_free old bitmap) bitmap.size (λ k. is_free-kept bitmap old new k valid keeps)

pub Keeps-kept : (s : Storage) (old new : Image) → KeepsBitmap (bitmap_of s) old new → Keeps s old → Keeps s new
Keeps-kept s old new keeps before = record {
  free = before.free ∙ sym (free_blocks-kept (bitmap_of s) old new s.valid keeps);
  block = record { within = before.block.within; is_block = keeps s.kept before.block.within ∙ before.block.is_block };
  low = λ k below. is_free-kept (bitmap_of s) old new k s.valid keeps ∙ before.low k below;
}

pub IsFor-write : (s : Storage) (disk : Disk) (passed : Bool) (lbn : ℕ) (block : List ℕ)
    → (IsTrue disk.honest → (i : ℕ) → i < length (bitmap_of s).places → get_or (bitmap_of s).places i 0 ≢ lbn) → IsFor s disk
    → IsFor s (with_transfer passed (with_block_at lbn block disk))
IsFor-write s disk passed lbn block apart is = record {
  within = λ i inside. omega (arith, is.within i inside, length-set disk.image lbn block);
  keeps = λ honest. Keeps-kept s disk.image _ (KeepsBitmap-write (bitmap_of s) disk.image lbn block (apart honest)) (is.keeps honest);
}
