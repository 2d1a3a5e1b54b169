-- A run of free blocks whose bits are in one bitmap block, or go on in the next, and how it is found.
use Rattle.std.specs.Prelude.{◌≡◌, ℕ, ◌+◌, ◌-◌, ◌/◌, ◌%◌, ◌<◌, ◌≤◌, Bool, true, false, List, IsTrue}
use Rattle.f11_dev.specs.Disk.{Disk}
use Rattle.f11_dev.specs.Image.{Image}
use Rattle.f11_dev.specs.Looked.{Looked}
use Rattle.f11_bits.specs.Bitmap.{Bitmap, IsBitmapBlock, is_free}
use Rattle.f11_bits.specs.Run.{IsFirstRun, IsRunWithin}
use Rattle.f11_bits.specs.Transfers.{blocks_from, blocks_to}

-- this is the bitmap block that has the bit of block lbn
abbrev pub HasBitOf : Image → Bitmap → ℕ → List ℕ → Type 0
HasBitOf image bitmap lbn block = IsBitmapBlock image bitmap (lbn / 4096) block

-- count blocks from lbn on, at or above `from` and at most `most`, with their bits in one bitmap block
pub record IsPart (size from most lbn count : ℕ) : Type 0 where
  pub above : from ≤ lbn
  pub some : 0 < count
  pub few : count ≤ most
  pub one : lbn % 4096 + count ≤ 4096
  pub within : lbn + count ≤ size

-- they are the first run of free blocks as far as that bitmap block has it
pub record IsFirstPart (free : ℕ → Bool) (from most lbn count : ℕ) : Type 0 where
  pub first : (k : ℕ) → from ≤ k → k < lbn → free k ≡ false
  pub each : (k : ℕ) → lbn ≤ k → k < lbn + count → free k ≡ true
  pub ended : count < most → lbn % 4096 + count < 4096 → free (lbn + count) ≡ false

-- count blocks from `end` on, at most `most`: none but where a bitmap block begins there
pub record IsRest (size most end count : ℕ) : Type 0 where
  pub few : count ≤ most
  pub next : 0 < count → end % 4096 ≡ 0
  pub within : end + count ≤ size

-- they are free, as far as that bitmap block has them
pub record IsFreeRest (free : ℕ → Bool) (most end count : ℕ) : Type 0 where
  pub each : (k : ℕ) → end ≤ k → k < end + count → free k ≡ true
  pub ended : count < most → end % 4096 ≡ 0 → free (end + count) ≡ false

-- The first part of the first run was found, with the bitmap block that has its bits. Each bitmap block from that of
-- block `from` to that one was read once.
pub record FindsPart (bitmap : Bitmap) (from most lbn count : ℕ) (block : List ℕ) (old new : Disk) : Type 0 where
  pub part : IsPart bitmap.size from most lbn count
  pub first : IsTrue old.honest → IsFirstPart (is_free old.image bitmap) from most lbn count
  pub block_is : IsTrue old.honest → HasBitOf old.image bitmap lbn block
  pub looked : Looked old new (lbn / 4096 - from / 4096 + 1) 0

-- The rest of a run that ends its part at `end` was found, with the bitmap block that has its bits where there are any.
pub record FindsRest (bitmap : Bitmap) (most end count : ℕ) (block : List ℕ) (old new : Disk) : Type 0 where
  pub rest : IsRest bitmap.size most end count
  pub free : IsTrue old.honest → IsFreeRest (is_free old.image bitmap) most end count
  pub block_is : IsTrue old.honest → 0 < count → HasBitOf old.image bitmap end block
  pub looked : Looked old new (blocks_to bitmap (end + 4095) end) 0

-- The bits of a run are in this bitmap block, and those of its second part in the next.
pub record HasBits (bitmap : Bitmap) (lbn here beyond : ℕ) (block next : List ℕ) (disk : Disk) : Type 0 where
  pub here_is : IsPart bitmap.size 0 256 lbn here
  pub beyond_is : IsRest bitmap.size (256 - here) (lbn + here) beyond
  pub block_is : IsTrue disk.honest → HasBitOf disk.image bitmap lbn block
  pub next_is : IsTrue disk.honest → 0 < beyond → HasBitOf disk.image bitmap (lbn + here) next

-- The first run was found, in two parts, with the bitmap blocks that have its bits.
pub record FindsRun (bitmap : Bitmap) (from most lbn here beyond : ℕ) (block next : List ℕ) (old new : Disk) : Type 0 where
  pub bits : HasBits bitmap lbn here beyond block next new
  pub within : IsRunWithin bitmap.size from most lbn (here + beyond)
  pub first : IsTrue old.honest → IsFirstRun (is_free old.image bitmap) from most lbn (here + beyond)
  pub looked : Looked old new (blocks_to bitmap from (lbn + here + beyond)) 0

-- A transfer failed, one of at most one a bitmap block from that of block `from` on.
abbrev pub FailsToFindPart : Bitmap → ℕ → Disk → Disk → Type 0
FailsToFindPart bitmap from old new = Looked old new (blocks_from bitmap from) 1

-- A transfer failed, one of at most one.
abbrev pub FailsToFindRest : Bitmap → ℕ → Disk → Disk → Type 0
FailsToFindRest bitmap end old new = Looked old new (blocks_to bitmap (end + 4095) end) 1
