-- The blocks of the index file, and what it says of headers (Files-11 On-Disk Structure Level 1, "Index File").
use Rattle.std.specs.Prelude.{◌≡◌, ℕ, zero, suc, ◌+◌, ◌-◌, ◌*◌, ◌/◌, ◌%◌, ◌<◌, ◌≤◌, min, nat_lt, nat_le, Bool, true, ◌&&◌, List, []}
use Rattle.std.specs.Prelude.{◌++◌, length, take, drop, map, replicate, slice_index, slice_index_or, Option, Some, None}
use Rattle.std.specs.List.{slice_get, range_with_len}
use Rattle.f11_bytes.specs.Bits.{bit}
use Rattle.f11_dev.specs.Image.{Image, image_block}
use Rattle.f11_home.specs.Home.{HomeFields}
use Rattle.f11_map.specs.HeaderBlock.{blocks_named, link_of}
use Rattle.f11_map.specs.store.Store.{free_among}

-- The virtual blocks of the index file are, from 1 on: the boot block, the home block, the H.IBSZ blocks of the index bitmap,
-- and the headers. Header n is block 2 + H.IBSZ + n, whose place in a list is one less.
abbrev pub header_place : HomeFields → ℕ → ℕ
header_place home n = home.index_blocks + 1 + n

-- the LBN of header n among the first blocks of the index file, where they have it; number 0 is no header's
abbrev pub header_among : HomeFields → List ℕ → ℕ → Option ℕ
header_among home blocks zero = None
header_among home blocks (suc n) = slice_get blocks (header_place home (suc n))

-- These blocks of the index file, then those that its header at this LBN names, then those of the header that this one links
-- to, and so on: so many headers at most. Each header is found among the blocks that those before it name (profile).
unfoldable pub blocks_on : ℕ → Image → HomeFields → List ℕ → Option ℕ → List ℕ
blocks_on zero image home blocks at = blocks
blocks_on (suc most) image home blocks None = blocks
blocks_on (suc most) image home blocks (Some lbn) =
    let header = image_block image lbn in
    let more = blocks ++ blocks_named header in
    blocks_on most image home more (header_among home more (link_of header).number)

-- the LBN of header 1, which stands behind the index bitmap
abbrev pub first_header_lbn : HomeFields → ℕ
first_header_lbn home = home.index_lbn + home.index_blocks

-- the blocks of the index file, file 1, by VBN: a file has 256 headers at most (profile)
unfoldable pub index_file_blocks : Image → HomeFields → List ℕ
index_file_blocks image home = blocks_on 256 image home [] (Some (first_header_lbn home))

-- how many headers there can be: one for each bit of the index bitmap, and no more than a file number can tell
abbrev pub most_slots : HomeFields → ℕ
most_slots home = min (4096 * home.index_blocks) 65535

-- What the index file says of headers: the blocks of its bitmap, and where each header is.
pub record Index : Type 0 where
  -- the LBN of the first block of the index bitmap
  pub bitmap_lbn : ℕ
  -- its blocks
  pub bitmap : List (List ℕ)
  -- the LBN of each header, from header 1 on
  pub headers : List ℕ

-- the LBNs of the headers, where the blocks of the index file are these
abbrev pub headers_among : HomeFields → List ℕ → List ℕ
headers_among home blocks = take (most_slots home) (drop (2 + home.index_blocks) blocks)

-- what the index file of an image says
unfoldable pub index_of : Image → HomeFields → Index
index_of image home = record {
  bitmap_lbn = home.index_lbn;
  bitmap = map (image_block image) (range_with_len home.index_lbn home.index_blocks);
  headers = headers_among home (index_file_blocks image home);
}

-- the number of slots: they are numbered from 1 on
abbrev pub slots : Index → ℕ
slots index = length index.headers

-- There are 1 to 16 bitmap blocks, and 16 slots or more: no more than there are bits, nor than a file number can tell.
pub record IsIndex (index : Index) : Type 0 where
  pub some_bitmap : 0 < length index.bitmap
  pub small_bitmap : length index.bitmap ≤ 16
  pub first_slots : 16 ≤ slots index
  pub few_slots : slots index ≤ min (4096 * length index.bitmap) 65535

-- the bit of slot n, which is bit n - 1 of the index bitmap; a block of it has 4096 bits
unfoldable pub bit_of_slot : List (List ℕ) → ℕ → Bool
bit_of_slot bitmap n = bit (slice_index_or bitmap ((n - 1) / 4096) []) ((n - 1) % 4096)

abbrev pub slot_bit : Index → ℕ → Bool
slot_bit index n = bit_of_slot index.bitmap n

-- slot n is in use: there is such a slot, and its bit is 1
unfoldable pub is_in_use : Index → ℕ → Bool
is_in_use index n = nat_lt 0 n && (nat_le n (slots index) && slot_bit index n)

-- the block of ones
unfoldable pub one_block : List ℕ
one_block = replicate 512 255

-- the same slots, as if each were in use, whatever its bit: so a header is read that stands in a slot out of use (profile)
abbrev pub all_in_use : Index → Index
all_in_use index = record index { bitmap = replicate (length index.bitmap) one_block }

-- the LBN of header n
unfoldable pub header_lbn : Index → ℕ → ℕ
header_lbn index n = slice_index index.headers (n - 1)

-- the free slots, in order
abbrev pub free_slots_in : Index → List ℕ
free_slots_in index = free_among (slots index) (is_in_use index)

-- slot n's bit is 1, and there is no such slot
pub record IsPastSlots (index : Index) (n : ℕ) : Type 0 where
  pub past : slots index < n
  pub bit : slot_bit index n ≡ true

-- n is the least of them
pub record IsFirstPast (index : Index) (n : ℕ) : Type 0 where
  pub past : IsPastSlots index n
  pub first : (m : ℕ) → m < n → ¬ IsPastSlots index m

-- there is none
abbrev pub HasNonePast : Index → Type 0
HasNonePast index = (n : ℕ) → ¬ IsPastSlots index n
