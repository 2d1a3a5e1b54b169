-- Which blocks are free, told anew for one bitmap block (Files-11 On-Disk Structure Level 1, "Storage Bitmap File").
use Rattle.std.specs.Prelude.{◌≡◌, ◌≢◌, ℕ, ◌*◌, ◌/◌, ◌%◌, ◌<◌, ◌≤◌, List, length, slice_index}
use Rattle.std.specs.List.{slice_get}
use Rattle.f11_dev.specs.bytes.Bits.{bit}
use Rattle.f11_dev.specs.Image.{Image}
use Rattle.f11_bits.specs.Bitmap.{Bitmap, bitmap_bit, is_free, KeepsOthers}

-- this block of a bitmap, counted from 0, is another than it was
abbrev pub BitmapBlockChanges : Bitmap → ℕ → Image → Image → Type 0
BitmapBlockChanges bitmap index old new =
    slice_get new (slice_index bitmap.places index) ≢ slice_get old (slice_index bitmap.places index)

-- a block has the bits of this bitmap block, counted from 0, that are past the volume's size
abbrev pub HasBitsPast : Bitmap → ℕ → List ℕ → Image → Type 0
HasBitsPast bitmap index block image =
    (k : ℕ) → k / 4096 ≡ index → bitmap.size ≤ k → bit block (k % 4096) ≡ bitmap_bit image bitmap k

-- The blocks of the volume whose bits are in this bitmap block, counted from 0, are free exactly where the bits that are wanted are 1.
-- All else is as it was, bits past the volume's size too, and each other block of the bitmap.
pub record Replaces (bitmap : Bitmap) (index : ℕ) (wanted : List ℕ) (old new : Image) : Type 0 where
  pub keeps : KeepsOthers bitmap old new
  pub here : (lbn : ℕ) → lbn / 4096 ≡ index → lbn < bitmap.size → is_free new bitmap lbn ≡ bit wanted (lbn % 4096)
  pub elsewhere : (lbn : ℕ) → lbn / 4096 ≢ index → is_free new bitmap lbn ≡ is_free old bitmap lbn
  pub past : (k : ℕ) → bitmap.size ≤ k → k < 4096 * length bitmap.places → bitmap_bit new bitmap k ≡ bitmap_bit old bitmap k
  pub others : (i : ℕ) → i < length bitmap.places → i ≢ index → ¬ BitmapBlockChanges bitmap i old new
