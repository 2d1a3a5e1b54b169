-- Laws of sector order.
use Rattle.std.specs.Prelude.{◌≡◌, ◌≢◌, ℕ, ◌<◌, ◌≤◌, List, Some, length, slice_set}
use Rattle.f11_floppies.specs.Arrange.{IsSameOutside, PutsBlock, logical_block, logical_image}
use Rattle.f11_floppies.specs.Order.{block_count, image_size, order_of_blocks, order_of_length, place, unused_bytes}
use Rattle.f11_floppies.specs.declared.order.Order.{Order}

-- how many blocks there are tells the order,
abbrev pub BlocksTellTheOrder : Type 0
BlocksTellTheOrder = (order : Order) → order_of_blocks (block_count order) ≡ order

-- and a length that tells one is that of a whole image
abbrev pub LengthIsOfAWholeImage : Type 0
LengthIsOfAWholeImage = (order : Order) (bytes : ℕ) → order_of_length bytes ≡ Some order → bytes ≡ image_size order

-- a place of an image in sector order is that of one byte of one block at most
abbrev pub BytesAreApart : Type 0
BytesAreApart = (order : Order) (b c i j : ℕ) → b < block_count order → c < block_count order → i < 512 → j < 512
    → place order b i ≡ place order c j → (b ≡ c) × (i ≡ j)

-- it is before the image's end,
abbrev pub BytesAreInTheImage : Type 0
BytesAreInTheImage = (order : Order) (b i : ℕ) → b < block_count order → i < 512 → place order b i < image_size order

-- and behind track 0, where that isn't used
abbrev pub BytesAreBehindTrackZero : Type 0
BytesAreBehindTrackZero = (order : Order) (b i : ℕ) → b < block_count order → i < 512 → unused_bytes order ≤ place order b i

-- a place that is a block's
pub record IsPlace (order : Order) (at : ℕ) : Type 0 where
  pub block : ℕ
  pub byte : ℕ
  pub is_block : block < block_count order
  pub in_block : byte < 512
  pub stands : place order block byte ≡ at

-- and each place between is some block's
abbrev pub EachByteIsABlocks : Type 0
EachByteIsABlocks = (order : Order) (at : ℕ) → unused_bytes order ≤ at → at < image_size order → IsPlace order at

-- a block that was put back is read again,
abbrev pub WhatIsPutIsRead : Type 0
WhatIsPutIsRead = (order : Order) (lbn : ℕ) (block old new : List ℕ) → length block ≡ 512
    → PutsBlock order lbn block old new → logical_block order new lbn ≡ block

-- every other one is as it was,
abbrev pub OtherBlocksStay : Type 0
OtherBlocksStay = (order : Order) (lbn other : ℕ) (block old new : List ℕ) → lbn < block_count order → other < block_count order
    → other ≢ lbn → PutsBlock order lbn block old new → logical_block order new other ≡ logical_block order old other

-- so that it is the write of a block;
abbrev pub PuttingIsWriting : Type 0
PuttingIsWriting = (order : Order) (lbn : ℕ) (block old new : List ℕ) → length block ≡ 512 → lbn < block_count order
    → PutsBlock order lbn block old new → logical_image order new ≡ slice_set (logical_image order old) lbn block

-- and what is no block's stays
abbrev pub OutsideStays : Type 0
OutsideStays = (order : Order) (lbn : ℕ) (block old new : List ℕ) → lbn < block_count order
    → PutsBlock order lbn block old new → IsSameOutside order old new

-- a whole image is its blocks and what is no block's, and nothing else
abbrev pub ImageIsBlocksAndOutside : Type 0
ImageIsBlocksAndOutside = (order : Order) (made image : List ℕ) → image_size order ≤ length made → IsSameOutside order made image
    → logical_image order image ≡ logical_image order made → image ≡ made
