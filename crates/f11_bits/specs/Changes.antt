-- The images that stand while a call changes a bitmap.
use Rattle.std.specs.Prelude.{ℕ, Bool, false, IsTrue}
use Rattle.f11_dev.specs.Image.{Image}
use Rattle.f11_bits.specs.Bitmap.{Bitmap, is_free, KeepsOthers, IsMarking}
use Rattle.f11_bits.specs.Run.{IsFirstRun, IsFirstRunOf}

-- Count blocks from lbn on are being marked free (or used), where the device is honest. On any device the blocks
-- that aren't the bitmap's stay.
pub record Changing (honest free : Bool) (bitmap : Bitmap) (lbn count : ℕ) (old image : Image) : Type 0 where
  pub keeps : KeepsOthers bitmap old image
  pub marking : IsTrue honest → IsMarking free bitmap lbn count old image

-- the first free run of the old image is being marked used
pub record Taking (honest : Bool) (bitmap : Bitmap) (from most : ℕ) (old image : Image) : Type 0 where
  pub lbn : ℕ
  pub count : ℕ
  pub run : IsTrue honest → IsFirstRun (is_free old bitmap) from most lbn count
  pub changing : Changing honest false bitmap lbn count old image

-- the first n free blocks in a row of the old image are being marked used
pub record TakingRun (honest : Bool) (bitmap : Bitmap) (n : ℕ) (old image : Image) : Type 0 where
  pub lbn : ℕ
  pub run : IsTrue honest → IsFirstRunOf (is_free old bitmap) n lbn
  pub changing : Changing honest false bitmap lbn n old image
