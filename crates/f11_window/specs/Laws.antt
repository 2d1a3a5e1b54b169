-- Laws of parts of a disk.
use Rattle.std.specs.Prelude.{◌≡◌, ◌⊎◌, ℕ, ◌+◌, ◌<◌, ◌≤◌, ◌∷◌, All}
use Rattle.f11_dev.specs.Disk.{Disk}
use Rattle.f11_dev.specs.Image.{Image, image_block}
use Rattle.f11_window.specs.Part.{IsSameOutside, KeepsOutside, image_part, images_since}

-- block k of a part is block `first + k` of the image
abbrev pub PartIsItsBlocks : Type 0
PartIsItsBlocks = (first blocks : ℕ) (image : Image) (k : ℕ) → k < blocks
    → image_block (image_part first blocks image) k ≡ image_block image (first + k)

-- what was done in a part left each block outside it as it was, in each image that stood since, and in the last
abbrev pub BlocksOutsideStay : Type 0
BlocksOutsideStay = (first blocks : ℕ) (made now : Disk) (lbn : ℕ) → KeepsOutside first blocks made now
    → (lbn < first) ⊎ (first + blocks ≤ lbn)
    → All (λ (image : Image). image_block image lbn ≡ image_block made.image lbn) (now.image ∷ images_since made now)

-- an image is a part and what is outside it, and nothing else
abbrev pub ImageIsPartAndOutside : Type 0
ImageIsPartAndOutside = (first blocks : ℕ) (made image : Image) → IsSameOutside first blocks made image
    → image_part first blocks image ≡ image_part first blocks made → image ≡ made
