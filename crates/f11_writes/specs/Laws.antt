-- Laws of writes: what each kind of write of one block leaves of a sound volume (Files-11 On-Disk Structure Level 1; profile).
use Rattle.std.specs.Prelude.{◌≡◌, ◌≢◌, ◌⊎◌, ℕ, ◌+◌, ◌<◌, ◌≤◌, true, false, List, Some, slice_set}
use Rattle.f11_bits.specs.Bitmap.{is_free, KeepsOthers, Marks}
use Rattle.f11_dev.specs.Image.{Image}
use Rattle.f11_volume.specs.home.Home.{HomeFields, candidate}
use Rattle.f11_index.specs.IndexFile.{index_file_blocks}
use Rattle.f11_index.specs.Sound.{IsNoneOf}
use Rattle.f11_index.specs.Table.{table_of, IsFile}
use Rattle.f11_volume.specs.chain.FileHeaders.{block_by_vbn}
use Rattle.f11_volume.specs.Sound.{HasSoundVolume}
use Rattle.f11_volume.specs.Space.{bitmap_file, storage_bitmap}
use Rattle.f11_volume.specs.Volume.{IsNamed}
use Rattle.f11_writes.specs.Kept.{KeepsVolume, KeepsFiles, WritesBlock, KeepsButFree}

-- A volume isn't read from block lbn: it is no candidate for the home block before that, and in neither the index file, which has the home
-- block, nor the storage bitmap file.
pub record IsUnread (image : Image) (home : HomeFields) (lbn : ℕ) : Type 0 where
  pub candidates : (k : ℕ) → candidate k < home.lbn → candidate k ≢ lbn
  pub index_file : IsNoneOf lbn (index_file_blocks image home)
  pub bitmap_file : IsNoneOf lbn (bitmap_file (table_of image home))

-- a write of a block that the volume isn't read from leaves the volume
abbrev pub UnreadWriteKeeps : Type 0
UnreadWriteKeeps =
    (image : Image) (home : HomeFields) (lbn : ℕ) (block : List ℕ) →
    HasSoundVolume image home → IsUnread image home lbn → KeepsVolume home image (slice_set image lbn block)

-- so a write of a block of a file from 4 on leaves all but that block
abbrev pub FileWriteKeeps : Type 0
FileWriteKeeps =
    (image : Image) (home : HomeFields) (f vbn lbn : ℕ) (block : List ℕ) →
    HasSoundVolume image home → IsFile (table_of image home) f → 4 ≤ f → block_by_vbn (table_of image home) f vbn ≡ Some lbn →
    WritesBlock f vbn block home image (slice_set image lbn block)

-- and a write of a block that no header names leaves all
abbrev pub UnnamedWriteKeeps : Type 0
UnnamedWriteKeeps =
    (image : Image) (home : HomeFields) (lbn : ℕ) (block : List ℕ) →
    HasSoundVolume image home → ¬ IsNamed (table_of image home) lbn → KeepsFiles home image (slice_set image lbn block)

-- where only blocks of the storage bitmap are written, and none that a header names is free then that wasn't, all else stays
abbrev pub BitmapWriteKeeps : Type 0
BitmapWriteKeeps =
    (old new : Image) (home : HomeFields) → HasSoundVolume old home → KeepsOthers (storage_bitmap old home) old new →
    ((lbn : ℕ) → is_free new (storage_bitmap old home) lbn ≡ true →
    (is_free old (storage_bitmap old home) lbn ≡ true) ⊎ (¬ IsNamed (table_of old home) lbn)) →
    KeepsButFree home old new

-- so where blocks are marked used
abbrev pub UsedMarksKeep : Type 0
UsedMarksKeep =
    (old new : Image) (home : HomeFields) (lbn count : ℕ) → HasSoundVolume old home →
    Marks false (storage_bitmap old home) lbn count old new →
    KeepsButFree home old new

-- and where blocks are marked free that no header names
abbrev pub FreeMarksKeep : Type 0
FreeMarksKeep =
    (old new : Image) (home : HomeFields) (lbn count : ℕ) → HasSoundVolume old home →
    Marks true (storage_bitmap old home) lbn count old new →
    ((k : ℕ) → lbn ≤ k → k < lbn + count → ¬ IsNamed (table_of old home) k) →
    KeepsButFree home old new
