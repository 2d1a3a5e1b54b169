-- Laws of the blocks of an image.
use Rattle.std.proofs.Common.{◌≡◌, ◌≢◌, ℕ, ◌<◌, List, [], length, Some}
use Rattle.std.specs.Prelude.{slice_set}
use Rattle.std.specs.List.{slice_get}
use Rattle.std.proofs.lemmas.List.{get_or-set_same, get_or-set_other}
use Rattle.std.proofs.lemmas.Option.{slice_get-get_or, get_or_from_slice_get}
use Rattle.f11_dev.specs.Image.{Image, image_block}

-- the block that was written
pub image_block-written : (image : Image) (lbn : ℕ) (block : List ℕ) → lbn < length image
    → image_block (slice_set image lbn block) lbn ≡ block
image_block-written image lbn block within = get_or-set_same image lbn block [] within

-- another block stays
pub image_block-other : (image : Image) (lbn other : ℕ) (block : List ℕ) → other ≢ lbn
    → image_block (slice_set image lbn block) other ≡ image_block image other
image_block-other image lbn other block apart = get_or-set_other image lbn other block [] apart

-- a block before the end, as a read gives it
pub slice_get-image_block : (image : Image) (lbn : ℕ) → lbn < length image → slice_get image lbn ≡ Some (image_block image lbn)
slice_get-image_block image lbn within = slice_get-get_or image lbn [] within

-- what a read gave
pub image_block-read : (image : Image) (lbn : ℕ) (block : List ℕ) → slice_get image lbn ≡ Some block → image_block image lbn ≡ block
image_block-read image lbn block reads = get_or_from_slice_get image lbn block [] reads
