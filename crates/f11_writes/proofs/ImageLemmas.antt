-- Blocks that two images have alike.
use Rattle.std.proofs.Common.{◌≡◌, ℕ, ◌<◌, List, length, Option, Some, unwrap_or, sym, ap, ◌∙◌, arith}
use Rattle.std.specs.Prelude.{slice_index_or}
use Rattle.std.specs.List.{slice_get}
use Rattle.std.proofs.lemmas.Option.{unwrap_or-slice_get}
use Rattle.f11_dev.specs.Image.{Image, image_block}
use Rattle.f11_dev.proofs.ImageLemmas.{slice_get-image_block}

-- as they are read
pub same-read : (old new : Image) (lbn : ℕ) → length new ≡ length old → lbn < length old → image_block new lbn ≡ image_block old lbn
    → slice_get new lbn ≡ slice_get old lbn
same-read old new lbn size within same =
    slice_get-image_block new lbn (omega (arith, size, within)) ∙ ap Some same ∙ sym (slice_get-image_block old lbn within)

-- whatever counts as a block past the end
pub same-or : (old new : Image) (lbn : ℕ) (none : List ℕ) → slice_get new lbn ≡ slice_get old lbn
    → slice_index_or new lbn none ≡ slice_index_or old lbn none
same-or old new lbn none same =
    sym (unwrap_or-slice_get new lbn none) ∙ ap (λ (o : Option (List ℕ)). unwrap_or o none) same ∙ unwrap_or-slice_get old lbn none
