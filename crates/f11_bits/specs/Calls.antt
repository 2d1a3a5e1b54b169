-- What each call of a storage bitmap does to a disk, by its outcome.
use Rattle.std.specs.Prelude.{◌≡◌, ℕ, ◌+◌, ◌*◌, ◌≤◌, length, Bool, true, false, IsTrue}
use Rattle.f11_dev.specs.Disk.{Disk}
use Rattle.f11_dev.specs.Looked.{Looked}
use Rattle.f11_dev.specs.Went.{Went}
use Rattle.f11_bits.specs.Bitmap.{Bitmap, free_blocks, is_free, Marks}
use Rattle.f11_bits.specs.Changes.{Changing, Taking, TakingRun}
use Rattle.f11_bits.specs.Run.{IsFirstRun, IsFirstRunOf, IsRunWithin, NoneFrom, NoRunOf}
use Rattle.f11_bits.specs.Transfers.{blocks_from, taking_transfers, giving_transfers, run_transfers}

-- The free blocks were counted, and each bitmap block was read once at most.
pub record Counts (bitmap : Bitmap) (count : ℕ) (old new : Disk) : Type 0 where
  pub free : IsTrue old.honest → count ≡ free_blocks old.image bitmap
  pub looked : Looked old new (length bitmap.places) 0

-- A transfer failed, one of at most one a bitmap block.
abbrev pub FailsToCount : Bitmap → Disk → Disk → Type 0
FailsToCount bitmap old new = Looked old new (length bitmap.places) 1

-- Count blocks from lbn on were marked free (or used), in at most so many transfers; at each moment a front of them was.
pub record MarksOnDisk (free : Bool) (bitmap : Bitmap) (lbn count most : ℕ) (old new : Disk) : Type 0 where
  pub marks : IsTrue old.honest → Marks free bitmap lbn count old.image new.image
  pub went : Went (Changing old.honest free bitmap lbn count old.image) old new most 0

-- A transfer failed while they were being marked.
abbrev pub FailsToMark : Bool → Bitmap → ℕ → ℕ → ℕ → Disk → Disk → Type 0
FailsToMark free bitmap lbn count most old new = Went (Changing old.honest free bitmap lbn count old.image) old new most 1

-- Count blocks from lbn on were given back: each bitmap block that has their bits was read once at most, and written once.
abbrev pub Gives : Bitmap → ℕ → ℕ → Disk → Disk → Type 0
Gives bitmap lbn count old new = MarksOnDisk true bitmap lbn count (giving_transfers lbn count) old new

-- A transfer failed while they were being given back.
abbrev pub FailsToGive : Bitmap → ℕ → ℕ → Disk → Disk → Type 0
FailsToGive bitmap lbn count old new = FailsToMark true bitmap lbn count (giving_transfers lbn count) old new

-- A run was taken, which is the image's first where the disk is honest. The bitmap blocks from that of block `from` to that
-- of the block after the run were read once at most, and each that has the run's bits was written once.
pub record Takes (bitmap : Bitmap) (from most lbn count : ℕ) (old new : Disk) : Type 0 where
  pub within : IsRunWithin bitmap.size from most lbn count
  pub first : IsTrue old.honest → IsFirstRun (is_free old.image bitmap) from most lbn count
  pub marked : MarksOnDisk false bitmap lbn count (taking_transfers bitmap from lbn count) old new

-- No block at or above `from` is free where the disk is honest, and the bitmap blocks from there on were read once at most.
pub record FindsNone (bitmap : Bitmap) (from : ℕ) (old new : Disk) : Type 0 where
  pub none : IsTrue old.honest → NoneFrom (is_free old.image bitmap) from
  pub looked : Looked old new (blocks_from bitmap from) 0

-- A transfer failed, before or while the run was being marked used.
abbrev pub FailsToTake : Bitmap → ℕ → ℕ → Disk → Disk → Type 0
FailsToTake bitmap from most old new = Went (Taking old.honest bitmap from most old.image) old new (blocks_from bitmap from + 2) 1

-- n free blocks in a row were taken, which are the image's first where the device is honest, and are blocks of the volume on any.
pub record TakesRun (bitmap : Bitmap) (n lbn : ℕ) (old new : Disk) : Type 0 where
  pub within : lbn + n ≤ bitmap.size
  pub first : IsTrue old.honest → IsFirstRunOf (is_free old.image bitmap) n lbn
  pub marked : MarksOnDisk false bitmap lbn n (run_transfers lbn n) old new

-- Nowhere are n free blocks in a row where the disk is honest, and each bitmap block was read once at most.
pub record FindsNoRun (bitmap : Bitmap) (n : ℕ) (old new : Disk) : Type 0 where
  pub none : IsTrue old.honest → NoRunOf (is_free old.image bitmap) n
  pub looked : Looked old new (length bitmap.places) 0

-- A transfer failed, before or while they were being marked used.
abbrev pub FailsToTakeRun : Bitmap → ℕ → Disk → Disk → Type 0
FailsToTakeRun bitmap n old new = Went (TakingRun old.honest bitmap n old.image) old new (3 * length bitmap.places) 1
