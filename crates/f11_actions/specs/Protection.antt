-- The protection of files for which none is given (Files-11 On-Disk Structure Level 1, "Home Block").
use Rattle.std.specs.Prelude.{◌≡◌, ◌/◌, ◌+◌, ℕ, IsTrue, length}
use Rattle.f11_bytes.specs.Words.{word}
use Rattle.f11_dev.specs.Disk.{Disk}
use Rattle.f11_dev.specs.Image.{image_block}
use Rattle.f11_dev.specs.Looked.{Looked}
use Rattle.f11_home.specs.Home.{HasNoHome, HomeFields, IsHomeOf, candidates}
use Rattle.f11_home.specs.declared.home.HomeFault.{HomeFault}
use Rattle.f11_home.specs.declared.home.HomeFault.TheVariants.{DeviceFault, NoHome}

-- The word is H.DFPR (byte 36) of the image's home block, where the device is honest; it was looked for by a transfer a candidate up to it,
-- and one more, and nothing was written.
pub record TellsProtection (old new : Disk) (protection : ℕ) : Type 0 where
  pub home : HomeFields
  pub home_is : IsTrue old.honest → IsHomeOf old.image home
  pub protection_is : IsTrue old.honest → protection ≡ word (image_block old.image home.lbn) 36
  pub looked : Looked old new (home.lbn / 256 + 2) 0

-- or there is none, or a transfer failed, and nothing was written
abbrev pub LooksInVain : HomeFault → Disk → Disk → Type 0
LooksInVain NoHome old new = (IsTrue old.honest → HasNoHome old.image) × Looked old new (candidates (length old.image)) 0
LooksInVain DeviceFault old new = Looked old new (candidates (length old.image) + 1) 1
