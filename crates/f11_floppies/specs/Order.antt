-- The sectors of DEC's floppies, and the blocks in them: interleave and skew as in RT-11's handlers DX and DY (RT-11 Volume and File
-- Formats Manual), of the RX50 as they are commonly told.
use Rattle.std.specs.Prelude.{ℕ, ◌+◌, ◌-◌, ◌*◌, ◌/◌, ◌%◌, ◌==◌, nat_le, if◌then◌else◌, Option, Some, None}
use Rattle.f11_floppies.specs.declared.order.Order.{Order}
use Rattle.f11_floppies.specs.declared.order.Order.TheVariants.{Rx01, Rx02, Rx50}

-- how many tracks there are, from track 0 on,
abbrev pub tracks : Order → ℕ
tracks Rx01 = 77
tracks Rx02 = 77
tracks Rx50 = 80

-- how many sectors each of them has, from sector 1 on,
abbrev pub sectors_of_track : Order → ℕ
sectors_of_track Rx01 = 26
sectors_of_track Rx02 = 26
sectors_of_track Rx50 = 10

-- and how many bytes a sector
abbrev pub sector_bytes : Order → ℕ
sector_bytes Rx01 = 128
sector_bytes Rx02 = 256
sector_bytes Rx50 = 512

-- an image in sector order is all of them
abbrev pub image_size : Order → ℕ
image_size order = tracks order * sectors_of_track order * sector_bytes order

-- the length of an image tells that it is one of an RX01 or an RX02 in sector order, and of no other (profile)
abbrev pub order_of_length : ℕ → Option Order
order_of_length bytes = if bytes == 256256 then Some Rx01 else if bytes == 512512 then Some Rx02 else None

-- a block is so many sectors,
abbrev pub sectors_of_block : Order → ℕ
sectors_of_block order = 512 / sector_bytes order

-- and there are so many: of an RX01 and an RX02 those of tracks 1 to 76, of an RX50 those of all tracks
abbrev pub block_count : Order → ℕ
block_count Rx01 = 494
block_count Rx02 = 988
block_count Rx50 = 800

-- which tells the order
abbrev pub order_of_blocks : ℕ → Order
order_of_blocks blocks = if blocks == 494 then Rx01 else if blocks == 988 then Rx02 else Rx50

-- the first bytes of an image, which are no block's: those of track 0, which is used on an RX50 alone
abbrev pub unused_bytes : Order → ℕ
unused_bytes Rx01 = 26 * 128
unused_bytes Rx02 = 26 * 256
unused_bytes Rx50 = 0

-- the logical sectors that these are
abbrev pub sector_count : Order → ℕ
sector_count order = sectors_of_block order * block_count order

-- The sector, from 1, of logical sector l on a track of n sectors: logical sectors are two sectors apart, those of the second half of a
-- track go into the gaps, and each track begins so many sectors behind the one before.
abbrev pub interleaved : ℕ → ℕ → ℕ → ℕ
interleaved n skew l = (2 * (l % n) + (if nat_le (n / 2) (l % n) then 1 else 0) + skew * (l / n)) % n + 1

-- the track of logical sector l: an RX01 and an RX02 begin with track 1, an RX50 too, and it ends with track 0
abbrev pub track_of : Order → ℕ → ℕ
track_of Rx01 l = l / 26 + 1
track_of Rx02 l = l / 26 + 1
track_of Rx50 l = (l / 10 + 1) % 80

-- its sector on that track
abbrev pub sector_of : Order → ℕ → ℕ
sector_of Rx01 l = interleaved 26 6 l
sector_of Rx02 l = interleaved 26 6 l
sector_of Rx50 l = interleaved 10 2 l

-- the first byte of a sector of a track, in an image in sector order
abbrev pub sector_start : Order → ℕ → ℕ → ℕ
sector_start order track sector = (sectors_of_track order * track + sector - 1) * sector_bytes order

-- the first byte of logical sector l
abbrev pub start_of : Order → ℕ → ℕ
start_of order l = sector_start order (track_of order l) (sector_of order l)

-- Byte i of block b is one of logical sector n b + k, where a block is n sectors, and k whole ones of them stand before the byte.
abbrev pub place : Order → ℕ → ℕ → ℕ
place order b i = start_of order (sectors_of_block order * b + i / sector_bytes order) + i % sector_bytes order
