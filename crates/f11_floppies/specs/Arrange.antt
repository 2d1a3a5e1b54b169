-- The blocks of an image in sector order.
use Rattle.std.specs.Prelude.{◌≡◌, ◌≢◌, ℕ, ◌-◌, ◌<◌, List, ◌++◌, drop, length, map, replicate, slice_index, take}
use Rattle.std.specs.List.{range_with_len}
use Rattle.f11_dev.specs.Image.{Image}
use Rattle.f11_floppies.specs.Order.{block_count, image_size, place, unused_bytes}
use Rattle.f11_floppies.specs.declared.order.Order.{Order}

-- byte i of a block is the image's byte at its place, and zero where that is past the image's end
unfoldable pub logical_block : Order → List ℕ → ℕ → List ℕ
logical_block order image b = map (λ i. slice_index image (place order b i)) (range_with_len 0 512)

-- the blocks in logical order
unfoldable pub logical_image : Order → List ℕ → Image
logical_image order image = map (logical_block order image) (range_with_len 0 (block_count order))

-- numbers that are bytes
pub record AreBytes (bytes : List ℕ) : Type 0 where
  pub fits : (i : ℕ) → slice_index bytes i < 256

-- A block was put back into its sectors: these bytes are the block's, and all others are as they were.
pub record PutsBlock (order : Order) (lbn : ℕ) (block old new : List ℕ) : Type 0 where
  pub size : length new ≡ length old
  pub there : (i : ℕ) → i < 512 → slice_index new (place order lbn i) ≡ slice_index block i
  pub others : (at : ℕ) → ((i : ℕ) → i < 512 → at ≢ place order lbn i) → slice_index new at ≡ slice_index old at

-- an image with zeros behind it, where it is shorter than a whole one
abbrev pub padded : Order → List ℕ → List ℕ
padded order bytes = bytes ++ replicate (image_size order - length bytes) 0

-- What is no block's is the same in two images: track 0, where it isn't used, and what is behind the image's end.
pub record IsSameOutside (order : Order) (made image : List ℕ) : Type 0 where
  pub size : length image ≡ length made
  pub before : take (unused_bytes order) image ≡ take (unused_bytes order) made
  pub behind : drop (image_size order) image ≡ drop (image_size order) made
