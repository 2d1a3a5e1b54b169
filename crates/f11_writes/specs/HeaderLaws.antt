-- Laws of writes of headers: what each leaves of a sound volume (Files-11 On-Disk Structure Level 1, "Index File" and "File Header").
use Rattle.std.specs.Prelude.{◌≡◌, ℕ, ◌+◌, ◌<◌, ◌≤◌, true, false, List, length}
use Rattle.f11_dev.specs.Image.{Image}
use Rattle.f11_volume.specs.header.Header.{IsDead}
use Rattle.f11_volume.specs.home.Home.{HomeFields}
use Rattle.f11_index.specs.Calls.{SetsBit, with_bitmap_block}
use Rattle.f11_index.specs.Growth.{MayNameMore, MayLinkOn, with_header}
use Rattle.f11_index.specs.Headers.{IsInFile}
use Rattle.f11_index.specs.IndexFile.{Index, index_of, slots, is_in_use}
use Rattle.f11_index.specs.Laws.{LeadsAlike}
use Rattle.f11_index.specs.Table.{Table, table_of, IsLive, IsDeadSlot, IsNext, IsHeaderOf}
use Rattle.f11_volume.specs.Sound.{HasSoundVolume}
use Rattle.f11_volume.specs.Volume.{volume_of}
use Rattle.f11_writes.specs.Kept.{WritesHeader, WritesSlotBit, WritesGrowth}
use Rattle.f11_writes.specs.Volumes.{MayBecome}

-- a header that is written into a slot that isn't in use leaves all else
abbrev pub UnusedHeaderWriteKeeps : Type 0
UnusedHeaderWriteKeeps =
    (image : Image) (home : HomeFields) (n : ℕ) (block : List ℕ) →
    HasSoundVolume image home → 0 < n → n ≤ slots (index_of image home) → is_in_use (index_of image home) n ≡ false →
    WritesHeader n block home image (with_header image home n block)

-- so does a dead one over a header from 5 on to which no header of a file links
abbrev pub KillKeeps : Type 0
KillKeeps =
    (image : Image) (home : HomeFields) (n : ℕ) (block : List ℕ) →
    HasSoundVolume image home → 5 ≤ n → n ≤ slots (index_of image home) → IsDead block →
    ((m : ℕ) → IsInFile (table_of image home) m → ¬ IsNext (table_of image home) m n) →
    WritesHeader n block home image (with_header image home n block)

-- Header n isn't one of the storage bitmap file's, 2, or of file 3's, and where it is one of the index file's, 1, this block
-- leads to the same.
pub record SparesOwnFiles (t : Table) (n : ℕ) (block : List ℕ) : Type 0 where
  pub two : ¬ IsHeaderOf t 2 n
  pub three : ¬ IsHeaderOf t 3 n
  pub one : IsHeaderOf t 1 n → LeadsAlike (t.header n) block

-- so does, over a live header, a block that may become it
abbrev pub HeaderRewriteKeeps : Type 0
HeaderRewriteKeeps =
    (image : Image) (home : HomeFields) (n : ℕ) (block : List ℕ) →
    HasSoundVolume image home → IsLive (table_of image home) n → MayBecome (volume_of image home) n block →
    SparesOwnFiles (table_of image home) n block →
    WritesHeader n block home image (with_header image home n block)

-- as over a header of a file from 4 on
abbrev pub FileHeaderRewriteKeeps : Type 0
FileHeaderRewriteKeeps =
    (image : Image) (home : HomeFields) (f n : ℕ) (block : List ℕ) →
    HasSoundVolume image home → 4 ≤ f → IsHeaderOf (table_of image home) f n → MayBecome (volume_of image home) n block →
    WritesHeader n block home image (with_header image home n block)

-- where the block in a slot that isn't in use may become its header, the bit may be set
abbrev pub BitSetKeeps : Type 0
BitSetKeeps =
    (image : Image) (home : HomeFields) (n : ℕ) (after : Index) →
    HasSoundVolume image home → 0 < n → n ≤ slots (index_of image home) → is_in_use (index_of image home) n ≡ false →
    MayBecome (volume_of image home) n ((table_of image home).header n) → SetsBit true n (index_of image home) after →
    WritesSlotBit n after home image (with_bitmap_block image after n)

-- and where the header is dead, it may be cleared
abbrev pub BitClearKeeps : Type 0
BitClearKeeps =
    (image : Image) (home : HomeFields) (n : ℕ) (after : Index) →
    HasSoundVolume image home → IsDeadSlot (table_of image home) n → SetsBit false n (index_of image home) after →
    WritesSlotBit n after home image (with_bitmap_block image after n)

-- the index file may grow where its last header names more blocks
abbrev pub IndexFileMayGrow : Type 0
IndexFileMayGrow =
    (image : Image) (home : HomeFields) (n : ℕ) (block : List ℕ) (lbn count : ℕ) →
    HasSoundVolume image home → MayNameMore (table_of image home) n block lbn count → lbn + count ≤ length image →
    MayBecome (volume_of image home) n block →
    WritesGrowth n block lbn count home image (with_header image home n block)

-- and where it links to a header that does
abbrev pub IndexFileMayGrowByHeader : Type 0
IndexFileMayGrowByHeader =
    (image : Image) (home : HomeFields) (n m : ℕ) (block : List ℕ) (lbn count : ℕ) →
    HasSoundVolume image home → MayLinkOn (table_of image home) n m block lbn count → lbn + count ≤ length image →
    MayBecome (volume_of image home) n block →
    WritesGrowth n block lbn count home image (with_header image home n block)
