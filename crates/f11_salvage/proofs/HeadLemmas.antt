-- What is read before a directory, and of it.
use Rattle.std.proofs.Common.{◌≡◌, ◌∙◌, ℕ, List, ◌++◌, length, Some, ap, sym, arith}
use Rattle.std.specs.List.{slice_get}
use Rattle.std.specs.Prelude.{slice_index}
use Rattle.f11_bytes.specs.Words.{word}
use Rattle.f11_dev.specs.Image.{Image, image_block}
use Rattle.f11_dev.proofs.ImageLemmas.{image_block-read}
use Rattle.rt11_volume.specs.Directory.{count_of}
use Rattle.rt11_volume.specs.Segment.{segment_words, words_in}
use Rattle.rt11_volume.proofs.Rewriting.Words.{words_of-low}

-- how many segments there are stands in the first word of the directory
pub count-read : (image later : Image) (block : List ℕ) → later ≡ image → slice_get later 6 ≡ Some block → length block ≡ 512
    → count_of image ≡ word block 0
unfolding segment_words
count-read image later block same read size =
    ap (λ (low : List ℕ). slice_index (words_in (low ++ image_block image 7)) 0)
    (image_block-read image 6 block (ap (λ (i : Image). slice_get i 6) (sym same) ∙ read))
    ∙ words_of-low block (image_block image 7) 0 size (omega arith)
