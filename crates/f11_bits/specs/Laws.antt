-- Laws of the storage bitmap: what a write of other blocks leaves, and what one of a bitmap block makes free (profile).
use Rattle.std.specs.Prelude.{◌≡◌, ◌≢◌, ℕ, ◌<◌, Bool, IsTrue, List, length, slice_index, slice_set}
use Rattle.f11_dev.specs.Disk.{Disk, with_transfer, with_block_at}
use Rattle.f11_dev.specs.Image.{Image}
use Rattle.f11_bits.specs.Bitmap.{Bitmap, IsBitmap, is_free, free_blocks, KeepsBitmap}
use Rattle.f11_bits.specs.Replacing.{HasBitsPast, Replaces}
use Rattle.f11_bits.specs.Storage.{bitmap_of, Keeps, IsFor}
use Rattle.f11_bits.specs.declared.storage.Storage.{Storage}

-- a write of a block that isn't one of the bitmap's leaves each of those
abbrev pub OtherWriteKeepsBitmap : Type 0
OtherWriteKeepsBitmap =
    (bitmap : Bitmap) (image : Image) (lbn : ℕ) (block : List ℕ) →
    ((i : ℕ) → i < length bitmap.places → slice_index bitmap.places i ≢ lbn) →
    KeepsBitmap bitmap image (slice_set image lbn block)

-- where they stay, each block is free or used as it was
abbrev pub FreeStays : Type 0
FreeStays =
    (bitmap : Bitmap) (old new : Image) (k : ℕ) →
    IsBitmap bitmap → KeepsBitmap bitmap old new → is_free new bitmap k ≡ is_free old bitmap k

-- as many are free
abbrev pub CountStays : Type 0
CountStays =
    (bitmap : Bitmap) (old new : Image) →
    IsBitmap bitmap → KeepsBitmap bitmap old new → free_blocks new bitmap ≡ free_blocks old bitmap

-- and what a `Storage` keeps is that of the new image
abbrev pub KeptStays : Type 0
KeptStays =
    (s : Storage) (old new : Image) →
    KeepsBitmap (bitmap_of s) old new → Keeps s old → Keeps s new

-- so a `Storage` for a disk is for it still, once such a block was written there
abbrev pub ForStays : Type 0
ForStays =
    (s : Storage) (disk : Disk) (passed : Bool) (lbn : ℕ) (block : List ℕ) →
    (IsTrue disk.honest → (i : ℕ) → i < length (bitmap_of s).places → slice_index (bitmap_of s).places i ≢ lbn) →
    IsFor s disk → IsFor s (with_transfer passed (with_block_at lbn block disk))

-- a write of a bitmap block makes the blocks free whose bits in it are 1, where its bits past the volume's size are those that were there
abbrev pub BlockReplaces : Type 0
BlockReplaces =
    (bitmap : Bitmap) (index : ℕ) (block : List ℕ) (image : Image) →
    IsBitmap bitmap → index < length bitmap.places → slice_index bitmap.places index < length image →
    HasBitsPast bitmap index block image →
    Replaces bitmap index block image (slice_set image (slice_index bitmap.places index) block)
