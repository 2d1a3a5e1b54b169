-- A segment number is a byte.
use Rattle.std.proofs.Common.{ℕ, zero, suc, ◌+◌, ◌-◌, ◌*◌, ◌<◌, List, [], length, take, drop, ap, ◌∙◌, inl, inr, arith}
use Rattle.std.specs.Prelude.{slice_index}
use Rattle.std.proofs.lemmas.Bool.{cases_lt}
use Rattle.std.proofs.lemmas.List.{get_or-take, get_or-drop, get_or_past}
use Rattle.f11_dev.specs.Image.{Image, IsImage, image_block}
use Rattle.f11_dev.proofs.ImageLemmas.{slice_get-image_block}
use Rattle.f11_map.specs.header.Fields.{map_offset}
use Rattle.f11_map.specs.HeaderBlock.{segment_number}
use Rattle.f11_index.specs.Headers.{HasByteSegments}
use Rattle.f11_index.specs.IndexFile.{Index, header_lbn}
use Rattle.f11_index.specs.Table.{table_in}

-- the first byte of a part of a block, and past its end
byte-first : (b : List ℕ) (low n : ℕ) → ((i : ℕ) → slice_index b i < 256) → slice_index (take n (drop low b)) 0 < 256
byte-first b low zero bytes = omega arith
byte-first b low (suc n) bytes =
    let here = get_or-take (suc n) (drop low b) 0 0 (omega arith) ∙ get_or-drop low b 0 0 in omega (arith, here, bytes (low + 0))

-- the bytes of a block of an image, and past its end
pub image_block-bytes : (image : Image) (lbn i : ℕ) → IsImage image → slice_index (image_block image lbn) i < 256
image_block-bytes image lbn i is = elim (cases_lt lbn (length image)) [
  | inl within ↦ (is.each lbn (image_block image lbn) (slice_get-image_block image lbn within)).bytes i
  | inr past ↦ let none = ap (λ (b : List ℕ). slice_index b i) (get_or_past image lbn [] past) in omega (arith, none)
]

-- a segment number is one of its bytes
pub segment-low : (b : List ℕ) → ((i : ℕ) → slice_index b i < 256) → segment_number b < 256
unfolding segment_number
segment-low b bytes = byte-first b (2 * map_offset b) (510 - 2 * map_offset b) bytes

pub segment_number-byte : (image : Image) (lbn : ℕ) → IsImage image → segment_number (image_block image lbn) < 256
segment_number-byte image lbn is = segment-low (image_block image lbn) (λ i. image_block-bytes image lbn i is)

pub table-bytes : (image : Image) (index : Index) → IsImage image → HasByteSegments (table_in image index)
unfolding table_in
table-bytes image index is = λ n. segment_number-byte image (header_lbn index n) is
