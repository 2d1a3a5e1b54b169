-- What contracts know of a `Storage`.
use Rattle.std.specs.Prelude.{◌≡◌, ℕ, ◌+◌, ◌-◌, ◌/◌, ◌<◌, ◌≤◌, length, max, take, IsTrue}
use Rattle.f11_dev.specs.Disk.{Disk}
use Rattle.f11_dev.specs.Image.{Image}
use Rattle.f11_dev.specs.Looked.{Looked}
use Rattle.f11_bits.specs.Bitmap.{Bitmap, IsBitmapBlock, free_blocks, is_free, LiesWithin}
use Rattle.f11_bits.specs.Calls.{Takes, FindsNone, TakesRun, FindsNoRun}
use Rattle.f11_bits.specs.Run.{NoneBelow}
use Rattle.f11_bits.specs.Transfers.{MakesFewer, run_transfers, taking_transfers}
use Rattle.f11_bits.specs.declared.storage.Storage.{Storage}

-- the bitmap that it stands for
abbrev pub bitmap_of : Storage → Bitmap
bitmap_of s = record { places = take s.used s.places; size = s.size }

-- the number of free blocks that it keeps
abbrev pub count_of : Storage → ℕ
count_of s = s.free

-- the number of the bitmap block that it keeps, counted from 0
abbrev pub kept_at : Storage → ℕ
kept_at s = s.kept

-- where it looks for free blocks from: none below is free
abbrev pub low_of : Storage → ℕ
low_of s = s.low

-- It stands for the same bitmap as it did, keeps the same number of free blocks, and looks for them from the same block on.
pub record StandsAlike (was now : Storage) : Type 0 where
  pub bitmap : bitmap_of now ≡ bitmap_of was
  pub free : count_of now ≡ count_of was
  pub low : low_of now ≡ low_of was

-- the bitmap block that it keeps is the image's
pub record KeepsBlock (s : Storage) (image : Image) : Type 0 where
  pub within : s.kept < length (bitmap_of s).places
  pub is_block : IsBitmapBlock image (bitmap_of s) s.kept s.block

-- what it keeps is that of the image
pub record Keeps (s : Storage) (image : Image) : Type 0 where
  pub free : s.free ≡ free_blocks image (bitmap_of s)
  pub block : KeepsBlock s image
  pub low : NoneBelow (is_free image (bitmap_of s)) (low_of s)

-- its blocks are on this disk, and the one that it keeps is that of the image where the disk is honest
pub record IsOn (s : Storage) (disk : Disk) : Type 0 where
  pub within : LiesWithin (bitmap_of s) (length disk.image)
  pub block : IsTrue disk.honest → KeepsBlock s disk.image

-- It is for this disk: its blocks are there, and what it keeps is that of the image where the disk is honest.
pub record IsFor (s : Storage) (disk : Disk) : Type 0 where
  pub within : LiesWithin (bitmap_of s) (length disk.image)
  pub keeps : IsTrue disk.honest → Keeps s disk.image

-- The bitmap was loaded, and each of its blocks was read once at most.
pub record LoadsBitmap (bitmap : Bitmap) (s : Storage) (old new : Disk) : Type 0 where
  pub bitmap_is : bitmap_of s ≡ bitmap
  pub is_for : IsFor s new
  pub looked : Looked old new (length bitmap.places) 0

-- A run was taken or given back: where it begins in the bitmap block that was kept fewer than so many transfers were made, and the one
-- that has its last bit is kept then.
pub record UsesKept (most lbn count : ℕ) (was now : Storage) (old new : Disk) : Type 0 where
  pub saves : kept_at was ≡ lbn / 4096 → MakesFewer most old new
  pub keeps : kept_at now ≡ (lbn + count - 1) / 4096

-- A run that was looked for from a block on was looked for from the first one on that may be free. Where that is the first of all,
-- none is free then below what comes behind the run; where the run was looked for behind that one, it stays the one to look from.
pub record LooksFromLow (from lbn count : ℕ) (was now : Storage) (old new : Disk) : Type 0 where
  pub few : new.transfers ≤ old.transfers + taking_transfers (bitmap_of was) (max from (low_of was)) lbn count
  pub low : from ≤ low_of was → low_of now ≡ lbn + count
  pub later : low_of was < from → low_of now ≡ low_of was

-- n blocks in a row that were looked for were looked for from there on.
pub record RunLooksFromLow (lbn n : ℕ) (was now : Storage) (old new : Disk) : Type 0 where
  pub few : new.transfers ≤ old.transfers + (run_transfers lbn n - low_of was / 4096)
  pub low : low_of now ≡ low_of was

-- n blocks in a row were taken: where the bitmap block that was kept is one of those up to that of the last of them, fewer than so many
-- transfers were made, and the one that has its bit is kept then.
pub record RunUsesKept (most lbn n : ℕ) (was now : Storage) (old new : Disk) : Type 0 where
  pub saves : kept_at was ≤ (lbn + n - 1) / 4096 → MakesFewer most old new
  pub keeps : kept_at now ≡ (lbn + n - 1) / 4096

-- A run was taken, the first from a block on: what that did to the disk, which bitmap block is kept, and where free ones are looked for.
pub record TakesFrom (from most lbn count : ℕ) (was now : Storage) (old new : Disk) : Type 0 where
  pub takes : Takes (bitmap_of was) from most lbn count old new
  pub kept : UsesKept (taking_transfers (bitmap_of was) from lbn count) lbn count was now old new
  pub low : LooksFromLow from lbn count was now old new

-- None was found from there on, and all that is kept stays.
pub record FindsNoneFrom (from : ℕ) (was now : Storage) (old new : Disk) : Type 0 where
  pub none : FindsNone (bitmap_of was) from old new
  pub kept : now ≡ was

-- n blocks in a row were taken: what that did to the disk, which bitmap block is kept, and where free ones are looked for.
pub record TakesRunOf (n lbn : ℕ) (was now : Storage) (old new : Disk) : Type 0 where
  pub takes : TakesRun (bitmap_of was) n lbn old new
  pub kept : RunUsesKept (run_transfers lbn n) lbn n was now old new
  pub low : RunLooksFromLow lbn n was now old new

-- So many were found nowhere, and all that is kept stays.
pub record FindsNoRunOf (n : ℕ) (was now : Storage) (old new : Disk) : Type 0 where
  pub none : FindsNoRun (bitmap_of was) n old new
  pub kept : now ≡ was
