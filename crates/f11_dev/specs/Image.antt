-- An image: the blocks of a device, in the order of their logical block numbers (LBN), from 0 (Files-11
-- On-Disk Structure Level 1, "Medium").
use Rattle.std.specs.Prelude.{◌≡◌, ℕ, ◌^◌, ◌<◌, List, [], length, replicate, slice_index_or, Some}
use Rattle.std.specs.List.{slice_get}
use Rattle.f11_bytes.specs.Block.{IsBlock, zero_block}

abbrev pub Image : Type 0
Image = List (List ℕ)

-- an image has fewer than 2^32 blocks, and each of them is a block
pub record IsImage (image : Image) : Type 0 where
  pub size : length image < 2 ^ 32
  pub each : (lbn : ℕ) (b : List ℕ) → slice_get image lbn ≡ Some b → IsBlock b

-- an image of so many blocks
pub record IsImageOf (image : Image) (blocks : ℕ) : Type 0 where
  pub is_image : IsImage image
  pub size : length image ≡ blocks

-- block `lbn` of an image, which has no bytes past the image's end
abbrev pub image_block : Image → ℕ → List ℕ
image_block image lbn = slice_index_or image lbn []

-- n blocks of zeros
abbrev pub zero_image : ℕ → Image
zero_image n = replicate n zero_block
