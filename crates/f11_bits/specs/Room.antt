-- Room for n free blocks in a row, sought a bitmap block at a time (profile).
use Rattle.std.specs.Prelude.{◌≡◌, ℕ, ◌+◌, ◌-◌, ◌<◌, ◌≤◌, Bool, true, IsTrue, List}
use Rattle.f11_dev.specs.Disk.{Disk}
use Rattle.f11_dev.specs.Looked.{Looked}
use Rattle.f11_bits.specs.Bitmap.{Bitmap, is_free}
use Rattle.f11_bits.specs.Parts.{HasBitOf}
use Rattle.f11_bits.specs.Run.{IsFirstRunOf}
use Rattle.f11_bits.specs.Transfers.{blocks_touched}

-- n blocks from k on are free, or those of them below `end`
abbrev pub IsRoom : (ℕ → Bool) → ℕ → ℕ → ℕ → Type 0
IsRoom free n end k = (j : ℕ) → k ≤ j → j < k + n → j < end → free j ≡ true

-- The first such place from `from` on, up to `end`.
pub record IsFirstRoom (free : ℕ → Bool) (n from end k : ℕ) : Type 0 where
  pub above : from ≤ k
  pub within : k ≤ end
  pub room : IsRoom free n end k
  pub first : (j : ℕ) → from ≤ j → j < k → ¬ IsRoom free n end j

-- n free blocks in a row were found, the image's first where the device is honest, with the bitmap block that has the bit of the
-- last of them. Each bitmap block up to that one was read once at most.
pub record FindsRunOf (bitmap : Bitmap) (n lbn : ℕ) (block : List ℕ) (old new : Disk) : Type 0 where
  pub within : lbn + n ≤ bitmap.size
  pub first : IsTrue old.honest → IsFirstRunOf (is_free old.image bitmap) n lbn
  pub block_is : IsTrue old.honest → HasBitOf old.image bitmap (lbn + n - 1) block
  pub looked : Looked old new (blocks_touched 0 (lbn + n)) 0
