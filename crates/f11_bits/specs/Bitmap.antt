-- The storage bitmap (Files-11 On-Disk Structure Level 1, "Storage Bitmap File"): the set of a volume's free blocks.
use Rattle.std.specs.Prelude.{◌≡◌, ◌≢◌, ◌⊎◌, ℕ, zero, suc, ◌+◌, ◌*◌, ◌/◌, ◌%◌, ◌<◌, ◌≤◌, Bool, ◌&&◌}
use Rattle.std.specs.Prelude.{nat_lt, if◌then◌else◌, List, length, slice_index, Some}
use Rattle.std.specs.List.{slice_get}
use Rattle.f11_dev.specs.bytes.Bits.{bit}
use Rattle.f11_dev.specs.Image.{Image, image_block}

-- where a volume's bitmap is: the LBNs of its blocks in order, and the volume's size in blocks
pub record Bitmap : Type 0 where
  pub places : List ℕ
  pub size : ℕ

-- 1 to 126 different blocks, with a bit for each block of the volume
pub record IsBitmap (bitmap : Bitmap) : Type 0 where
  pub some : 0 < length bitmap.places
  pub few : length bitmap.places ≤ 126
  pub apart : (i j : ℕ) → i < length bitmap.places → j < length bitmap.places → slice_index bitmap.places i ≡ slice_index bitmap.places j →
      i ≡ j
  pub sized : 0 < bitmap.size
  pub covered : bitmap.size ≤ 4096 * length bitmap.places

-- they are below the end of a device of so many blocks
abbrev pub LiesWithin : Bitmap → ℕ → Type 0
LiesWithin bitmap blocks = (i : ℕ) → i < length bitmap.places → slice_index bitmap.places i < blocks

-- this is the bitmap's block of that number, counted from 0
abbrev pub IsBitmapBlock : Image → Bitmap → ℕ → List ℕ → Type 0
IsBitmapBlock image bitmap index block = slice_get image (slice_index bitmap.places index) ≡ Some block

-- the bit of block lbn: a bitmap block has 4096 bits
unfoldable pub bitmap_bit : Image → Bitmap → ℕ → Bool
bitmap_bit image bitmap lbn = bit (image_block image (slice_index bitmap.places (lbn / 4096))) (lbn % 4096)

-- a block of the volume is free where its bit is 1
unfoldable pub is_free : Image → Bitmap → ℕ → Bool
is_free image bitmap lbn = nat_lt lbn bitmap.size && bitmap_bit image bitmap lbn

-- how many numbers below n pass a test
unfoldable pub count_below : (ℕ → Bool) → ℕ → ℕ
count_below test zero = 0
count_below test (suc n) = count_below test n + (if test n then 1 else 0)

-- how many blocks of the volume are free
abbrev pub free_blocks : Image → Bitmap → ℕ
free_blocks image bitmap = count_below (is_free image bitmap) bitmap.size

-- each block but those of the bitmap stays
pub record KeepsOthers (bitmap : Bitmap) (old new : Image) : Type 0 where
  pub size : length new ≡ length old
  pub others : (lbn : ℕ) → ((i : ℕ) → i < length bitmap.places → slice_index bitmap.places i ≢ lbn) → slice_get new lbn ≡ slice_get old lbn

-- each block of the bitmap stays
abbrev pub KeepsBitmap : Bitmap → Image → Image → Type 0
KeepsBitmap bitmap old new = (i : ℕ) → i < length bitmap.places →
    slice_get new (slice_index bitmap.places i) ≡ slice_get old (slice_index bitmap.places i)

-- the bitmap blocks from that number on stay
abbrev pub KeepsFrom : Bitmap → ℕ → Image → Image → Type 0
KeepsFrom bitmap index old new = (i : ℕ) → index ≤ i → i < length bitmap.places →
    slice_get new (slice_index bitmap.places i) ≡ slice_get old (slice_index bitmap.places i)

-- count blocks of the volume from lbn on were marked free (or used), and no other: bits past the size stay too
pub record Marks (free : Bool) (bitmap : Bitmap) (lbn count : ℕ) (old new : Image) : Type 0 where
  pub keeps : KeepsOthers bitmap old new
  pub inside : (k : ℕ) → lbn ≤ k → k < lbn + count → is_free new bitmap k ≡ free
  pub before : (k : ℕ) → k < lbn → is_free new bitmap k ≡ is_free old bitmap k
  pub after : (k : ℕ) → lbn + count ≤ k → is_free new bitmap k ≡ is_free old bitmap k
  pub past : (k : ℕ) → bitmap.size ≤ k → k < 4096 * length bitmap.places → bitmap_bit new bitmap k ≡ bitmap_bit old bitmap k

-- An image while they are marked, a bitmap block at a time: the first so many of them, up to the last of them or to
-- the last whose bit is in the same bitmap block.
pub record IsMarking (free : Bool) (bitmap : Bitmap) (lbn count : ℕ) (old image : Image) : Type 0 where
  pub part : ℕ
  pub some : 0 < part
  pub within : part ≤ count
  pub whole : (part ≡ count) ⊎ ((lbn + part) % 4096 ≡ 0)
  pub marks : Marks free bitmap lbn part old image
