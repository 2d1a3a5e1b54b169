-- Blocks that no header names are made zeros, and all else stays as it was (profile: a file grows by zeros).
use Rattle.std.specs.Prelude.{◌≡◌, ℕ, ◌+◌, ◌<◌, ◌≤◌, IsTrue}
use Rattle.f11_bytes.specs.Block.{zero_block}
use Rattle.f11_dev.specs.Disk.{Disk}
use Rattle.f11_dev.specs.Image.{Image}
use Rattle.f11_dev.specs.Went.{Went}
use Rattle.f11_home.specs.Home.{HomeFields}
use Rattle.f11_volume.specs.Contents.{block_or_zeros}
use Rattle.f11_writes.specs.Kept.{KeepsVolume}
use Rattle.f11_image_store.specs.StoreOf.{store_of}

-- So many blocks from `lbn` on hold zeros.
pub record HoldsZeros (image : Image) (lbn count : ℕ) : Type 0 where
  pub each : (k : ℕ) → lbn ≤ k → k < lbn + count → block_or_zeros image k ≡ zero_block

-- The volume is sound and as it was, and so is its store.
pub record KeepsStore (home : HomeFields) (old new : Image) : Type 0 where
  pub volume : KeepsVolume home old new
  pub store : store_of new home ≡ store_of old home

-- that of an honest disk, in an image that stands meanwhile
abbrev pub Keeping : HomeFields → Disk → Image → Type 0
Keeping home old image = IsTrue old.honest → KeepsStore home old.image image

-- So many blocks from `lbn` on were made zeros, in as many transfers.
pub record Zeroes (home : HomeFields) (lbn count : ℕ) (old new : Disk) : Type 0 where
  pub keeps : Keeping home old new.image
  pub zeros : IsTrue old.honest → HoldsZeros new.image lbn count
  pub went : Went (Keeping home old) old new count 0

-- A transfer failed.
abbrev pub FailsToZero : HomeFields → ℕ → Disk → Disk → Type 0
FailsToZero home count old new = Went (Keeping home old) old new count 1
