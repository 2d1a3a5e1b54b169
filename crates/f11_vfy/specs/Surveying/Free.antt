-- The free blocks of a volume as a set.
use Rattle.std.specs.Prelude.{◌≡◌, ℕ, ◌+◌, ◌-◌, ◌/◌, ◌<◌, ◌&&◌, Bool, nat_le, nat_lt, IsTrue, List, length}
use Rattle.f11_bits.specs.Bitmap.{Bitmap, is_free, IsBitmapBlock}
use Rattle.f11_bytes.specs.Bits.{bit}
use Rattle.f11_dev.specs.Disk.{Disk}
use Rattle.f11_dev.specs.Image.{Image}
use Rattle.f11_dev.specs.Looked.{Looked}
use Rattle.f11_vfy.specs.Surveying.Bits.{has, limit_of}
use Rattle.f11_vfy.specs.declared.survey.bits.Bits.{Bits}

-- number j is one of so many from the first on, and its bit in a block whose bits are theirs is 1
unfoldable pub has_bit : List ℕ → ℕ → ℕ → ℕ → Bool
has_bit block first count j = (nat_le first j && nat_lt j (first + count)) && bit block (j - first)

-- this is the last block of a bitmap that has a bit of the volume
abbrev pub IsLastBlock : Image → Bitmap → List ℕ → Type 0
IsLastBlock image bitmap block = IsBitmapBlock image bitmap ((bitmap.size - 1) / 4096) block

-- The free blocks of a volume were read: they are those of its bitmap where the disk is honest, whose last block is in hand.
pub record ReadsFree (bitmap : Bitmap) (free : Bits) (block : List ℕ) (old new : Disk) : Type 0 where
  pub limit : limit_of free ≡ bitmap.size
  pub each : IsTrue old.honest → (lbn : ℕ) → has free lbn ≡ is_free old.image bitmap lbn
  pub last : IsTrue old.honest → 0 < bitmap.size → IsLastBlock old.image bitmap block
  pub looked : Looked old new (length bitmap.places) 0
