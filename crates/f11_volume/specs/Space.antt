-- The blocks of a volume, and which of them are free (Files-11 On-Disk Structure Level 1, "Storage Bitmap File").
use Rattle.std.specs.Prelude.{ℕ, ◌+◌, ◌*◌, ◌<◌, ◌≤◌, List, take, drop, slice_index}
use Rattle.f11_bytes.specs.Words.{long}
use Rattle.f11_chain.specs.bits.Bitmap.{Bitmap}
use Rattle.f11_dev.specs.Image.{Image, image_block}
use Rattle.f11_chain.specs.home.Home.{HomeFields}
use Rattle.f11_chain.specs.index.Table.{Table, table_of}
use Rattle.f11_chain.specs.FileHeaders.{file_blocks}

-- how many blocks of the bitmap the control block says there are
abbrev pub bitmap_count : List ℕ → ℕ
bitmap_count control = slice_index control 3

-- the volume's size in blocks, which it states behind a pair of words for each of them
abbrev pub stated_size : List ℕ → ℕ
stated_size control = long control (4 + 4 * bitmap_count control)

-- the blocks of file 2, the storage bitmap file, by VBN: the control block, and then those of the bitmap
abbrev pub bitmap_file : Table → List ℕ
bitmap_file t = file_blocks t 2

-- the control block, which is the first of them
unfoldable pub control_block : Image → Table → List ℕ
control_block image t = image_block image (slice_index (bitmap_file t) 0)

-- A control block is as it should be, in a file of so many blocks on a device of so many: it tells of 1 to 126 bitmap blocks, which are
-- in the file, and of a volume of at least one block, which has no more than there are bits, or than the device has (profile).
pub record IsControlBlock (control : List ℕ) (file device : ℕ) : Type 0 where
  pub some_bitmap : 0 < bitmap_count control
  pub few_bitmap : bitmap_count control ≤ 126
  pub in_file : bitmap_count control + 1 ≤ file
  pub some_blocks : 0 < stated_size control
  pub covered : stated_size control ≤ 4096 * bitmap_count control
  pub on_device : stated_size control ≤ device

-- the storage bitmap of an image
unfoldable pub storage_bitmap : Image → HomeFields → Bitmap
storage_bitmap image home =
    let t = table_of image home in
    let control = control_block image t in
    record { places = take (bitmap_count control) (drop 1 (bitmap_file t)); size = stated_size control }
