-- That a part of an image is one, as the trait of devices asks.
use Rattle.std.specs.Prelude.{◌≡◌, ℕ, ◌+◌, ◌<◌, ◌≤◌, List, length, drop}
use Rattle.std.proofs.Common.{refl, sym, ◌∙◌, arith, get_or}
use Rattle.std.proofs.Math.Nat.{min-le_left}
use Rattle.std.proofs.lemmas.List.{length-take, length-drop, get_or-take, get_or-drop}
use Rattle.std.proofs.lemmas.Option.{slice_get_read, slice_get_within, get_or_from_slice_get}
use Rattle.f11_dev.specs.Image.{Image, IsImage}
use Rattle.f11_window.specs.Part.{image_part}

-- a part has no more blocks than are asked,
pub part-few : (first blocks : ℕ) (image : Image) → length (image_part first blocks image) ≤ blocks
part-few first blocks image =
    omega (arith, length-take blocks (drop first image), min-le_left blocks (length (drop first image)))

-- and no more than the image
part-fits : (first blocks : ℕ) (image : Image) → length (image_part first blocks image) ≤ length image
part-fits first blocks image = omega (arith, length-take blocks (drop first image), length-drop first image)

-- a block of a part
pub part-get : (first blocks : ℕ) (image : Image) (lbn : ℕ) (d : List ℕ) → lbn < blocks
    → get_or (image_part first blocks image) lbn d ≡ get_or image (first + lbn) d
part-get first blocks image lbn d below = get_or-take blocks (drop first image) lbn d below ∙ get_or-drop first image lbn d

-- a part is an image, too
pub part-is_image : (first blocks : ℕ) (image : Image) → IsImage image → IsImage (image_part first blocks image)
part-is_image first blocks image is = record {
  size = omega (arith, part-fits first blocks image, is.size);
  each = λ lbn b at.
      let within : lbn < length (image_part first blocks image) = slice_get_within (image_part first blocks image) lbn b at in
      let below : lbn < blocks = omega (arith, within, part-few first blocks image) in
      let there : first + lbn < length image = omega (arith, within, length-take blocks (drop first image), length-drop first image) in
      is.each (first + lbn) b (slice_get_read image (length image) (first + lbn) b refl there
      (sym (sym (part-get first blocks image lbn b below) ∙ get_or_from_slice_get (image_part first blocks image) lbn b b at)));
}
