-- The home block of an image (Files-11 On-Disk Structure Level 1, "Home Block"; profile: the search).
use Rattle.std.specs.Prelude.{◌≡◌, ℕ, zero, suc, ◌+◌, ◌*◌, ◌/◌, ◌<◌, nat_le, if◌then◌else◌, List, length, IsTrue}
use Rattle.f11_dev.specs.Disk.{Disk}
use Rattle.f11_dev.specs.Image.{Image, image_block}
use Rattle.f11_dev.specs.Looked.{Looked}
use Rattle.f11_home.specs.HomeBlock.{IsHomeBlock, index_lbn, index_blocks, max_files, label}

-- candidate k for the home block: LBN 1, 256, 512 and each further multiple of 256
abbrev pub candidate : ℕ → ℕ
candidate zero = 1
candidate (suc k) = 256 * suc k

-- how many candidates are below the end of a device of so many blocks
abbrev pub candidates : ℕ → ℕ
candidates blocks = if nat_le blocks 1 then 0 else (blocks + 255) / 256

-- candidate k of the image is a valid home block
pub record IsCandidate (image : Image) (k : ℕ) : Type 0 where
  pub within : candidate k < length image
  pub valid : IsHomeBlock (image_block image (candidate k)) (length image)

-- none of the first n candidates is a valid home block
abbrev pub NoneBelow : Image → ℕ → Type 0
NoneBelow image n = (k : ℕ) → k < n → ¬ IsCandidate image k

-- what is read off a home block, and its place
pub record HomeFields : Type 0 where
  pub lbn : ℕ
  pub index_lbn : ℕ
  pub index_blocks : ℕ
  pub max_files : ℕ
  pub label : List ℕ

abbrev pub fields_of : ℕ → List ℕ → HomeFields
fields_of lbn b = record { lbn = lbn; index_lbn = index_lbn b; index_blocks = index_blocks b; max_files = max_files b; label = label b }

-- the home block of an image is its first candidate that is a valid home block
pub record IsHomeOf (image : Image) (home : HomeFields) : Type 0 where
  pub place : ℕ
  pub found : IsCandidate image place
  pub first : NoneBelow image place
  pub fields : home ≡ fields_of (candidate place) (image_block image (candidate place))

-- The fields are those of a valid home block, at a place below the end of a device of so many blocks.
pub record IsSound (home : HomeFields) (blocks : ℕ) : Type 0 where
  pub block : List ℕ
  pub valid : IsHomeBlock block blocks
  pub fields : home ≡ fields_of home.lbn block
  pub within : home.lbn < blocks

-- an image has no home block where no candidate is valid
abbrev pub HasNoHome : Image → Type 0
HasNoHome image = (k : ℕ) → ¬ IsCandidate image k

-- The home block was found. It is the image's where the device is honest, its fields are sound on any device, and it was
-- looked for by at most one transfer a candidate up to it.
pub record FindsHome (old new : Disk) (home : HomeFields) : Type 0 where
  pub is_home : IsTrue old.honest → IsHomeOf old.image home
  pub sound : IsSound home (length old.image)
  pub looked : Looked old new (home.lbn / 256 + 1) 0

-- There is none, which is so where the device is honest, and each candidate was looked at once at most.
pub record FindsNoHome (old new : Disk) : Type 0 where
  pub has_none : IsTrue old.honest → HasNoHome old.image
  pub looked : Looked old new (candidates (length old.image)) 0

-- A transfer failed, one of at most one a candidate.
abbrev pub FailsToFind : Disk → Disk → Type 0
FailsToFind old new = Looked old new (candidates (length old.image)) 1
