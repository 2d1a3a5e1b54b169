-- How many bitmap blocks a call reads and writes, as if none were kept.
use Rattle.std.specs.Prelude.{ℕ, ◌+◌, ◌-◌, ◌*◌, ◌/◌, ◌<◌, min, length}
use Rattle.f11_bits.specs.Bitmap.{Bitmap}
use Rattle.f11_dev.specs.Disk.{Disk}

-- how many bitmap blocks there are from that of block `from` on
abbrev pub blocks_from : Bitmap → ℕ → ℕ
blocks_from bitmap from = length bitmap.places - from / 4096

-- how many there are from that of block `from` to that of block `to`, or to the last
abbrev pub blocks_to : Bitmap → ℕ → ℕ → ℕ
blocks_to bitmap from to = min (to / 4096 + 1) (length bitmap.places) - from / 4096

-- how many have the bits of count blocks from lbn on
abbrev pub blocks_touched : ℕ → ℕ → ℕ
blocks_touched lbn count = (lbn + count + 4095) / 4096 - lbn / 4096

-- how many transfers take a run, where block `from` and those behind it were looked at
abbrev pub taking_transfers : Bitmap → ℕ → ℕ → ℕ → ℕ
taking_transfers bitmap from lbn count = blocks_to bitmap from (lbn + count) + blocks_touched lbn count

-- how many give a run back
abbrev pub giving_transfers : ℕ → ℕ → ℕ
giving_transfers lbn count = 2 * blocks_touched lbn count

-- How many take n free blocks in a row that begin at lbn: each bitmap block up to that of the last of them is looked at, and each that
-- has their bits is read and written then, but that the last one is in hand.
abbrev pub run_transfers : ℕ → ℕ → ℕ
run_transfers lbn n = blocks_touched 0 (lbn + n) + (giving_transfers lbn n - 1)

-- fewer than so many were made
abbrev pub MakesFewer : ℕ → Disk → Disk → Type 0
MakesFewer most old new = new.transfers < old.transfers + most
