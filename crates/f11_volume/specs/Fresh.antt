-- An image on which a fresh volume was made (profile).
use Rattle.std.specs.Prelude.{◌≡◌, ◌⊎◌, ℕ, ◌<◌, ◌≤◌, length}
use Rattle.std.specs.List.{slice_get}
use Rattle.f11_dev.specs.Image.{Image, image_block}
use Rattle.f11_chain.specs.home.Home.{candidate, IsCandidate}
use Rattle.f11_layout.specs.Fresh.{IsFreshBlock}
use Rattle.f11_layout.specs.Places.{used_blocks}
use Rattle.f11_layout.specs.declared.layout.Layout.{Layout}

-- how many blocks a layout has in use
abbrev pub used_by : Layout → ℕ
used_by l = used_blocks l.max_files l.slots l.blocks

-- the blocks at the front of an image, so many, are those of a fresh volume
abbrev pub IsFreshUpTo : Layout → Image → ℕ → Type 0
IsFreshUpTo l image count = (lbn : ℕ) → lbn < count → IsFreshBlock l lbn (image_block image lbn)

-- No block behind the front changed.
pub record KeepsBehind (l : Layout) (old new : Image) : Type 0 where
  pub size : length new ≡ length old
  pub behind : (lbn : ℕ) → used_by l ≤ lbn → slice_get new lbn ≡ slice_get old lbn

-- A fresh volume with this layout was made on an image, of which no other block changed.
pub record IsFreshVolume (l : Layout) (old new : Image) : Type 0 where
  pub front : IsFreshUpTo l new (used_by l)
  pub keeps : KeepsBehind l old new

-- No candidate became a home block: each that is one on the new image holds what it held.
abbrev pub MakesNoHome : Image → Image → Type 0
MakesNoHome old new = (k : ℕ) → IsCandidate new k → image_block new (candidate k) ≡ image_block old (candidate k)

-- What may stand while a fresh volume is made: no block behind the front changed, and no candidate became a home block, or else the
-- whole volume is there.
pub record MayStand (l : Layout) (old image : Image) : Type 0 where
  pub keeps : KeepsBehind l old image
  pub home : MakesNoHome old image ⊎ IsFreshVolume l old image
