-- Laws of the order of writes: each kind of write of one block is in order where these are met (profile).
use Rattle.std.specs.Prelude.{◌≡◌, ◌≢◌, ◌⊎◌, ℕ, suc, ◌+◌, ◌<◌, ◌≤◌, true, false, IsTrue, List, All, length, Some, slice_set}
use Rattle.std.specs.List.{slice_get}
use Rattle.f11_bits.specs.Bitmap.{is_free, KeepsOthers}
use Rattle.f11_bytes.specs.Block.{zero_block}
use Rattle.f11_volume.specs.chain.FileHeaders.{block_by_vbn}
use Rattle.f11_dev.specs.Disk.{Disk, with_transfer, with_block_at}
use Rattle.f11_dev.specs.Image.{Image, image_block}
use Rattle.f11_dev.specs.Looked.{Looked}
use Rattle.f11_volume.specs.header.Header.{IsHeader, IsDead}
use Rattle.f11_volume.specs.home.Home.{HomeFields}
use Rattle.f11_index.specs.Calls.{SetsBit, with_bitmap_block}
use Rattle.f11_index.specs.Growth.{MayNameMore, MayLinkOn, with_header}
use Rattle.f11_index.specs.Headers.{IsInFile}
use Rattle.f11_index.specs.IndexFile.{Index, index_of, slots, is_in_use}
use Rattle.f11_index.specs.Table.{table_of, IsFile, IsLive, IsDeadSlot, IsNext, IsHeaderOf}
use Rattle.f11_volume.specs.map.HeaderBlock.{blocks_named}
use Rattle.f11_volume.specs.Sound.{HasSoundVolume}
use Rattle.f11_volume.specs.Space.{storage_bitmap}
use Rattle.f11_volume.specs.Volume.{volume_of, IsNamed}
use Rattle.f11_writes.specs.Fixed.{IsFixed, KeepsFixed}
use Rattle.f11_writes.specs.HeaderLaws.{SparesOwnFiles}
use Rattle.f11_writes.specs.Order.{AreInOrder, IsOrderlyWrite, WritesInOrder, image_before}
use Rattle.f11_writes.specs.Volumes.{MayBecome}

-- a write of a block of a file from 4 on is in order
abbrev pub FileWriteIsOrderly : Type 0
FileWriteIsOrderly =
    (image : Image) (home : HomeFields) (f vbn lbn : ℕ) (block : List ℕ) →
    HasSoundVolume image home → IsFile (table_of image home) f → 4 ≤ f → block_by_vbn (table_of image home) f vbn ≡ Some lbn →
    IsOrderlyWrite home image (slice_set image lbn block)

-- so is one of a block of the volume that is used, and that no header names
abbrev pub LostWriteIsOrderly : Type 0
LostWriteIsOrderly =
    (image : Image) (home : HomeFields) (lbn : ℕ) (block : List ℕ) →
    HasSoundVolume image home → lbn < (volume_of image home).size → (volume_of image home).free lbn ≡ false →
    ¬ IsNamed (table_of image home) lbn →
    IsOrderlyWrite home image (slice_set image lbn block)

-- and one of the storage bitmap, where no block that a header names is free then that wasn't
abbrev pub BitmapWriteIsOrderly : Type 0
BitmapWriteIsOrderly =
    (old new : Image) (home : HomeFields) → HasSoundVolume old home → KeepsOthers (storage_bitmap old home) old new →
    ((lbn : ℕ) → is_free new (storage_bitmap old home) lbn ≡ true →
    (is_free old (storage_bitmap old home) lbn ≡ true) ⊎ (¬ IsNamed (table_of old home) lbn)) →
    IsOrderlyWrite home old new

-- each block that this header names holds zeros, or one names it already
abbrev pub NamesZeros : Image → HomeFields → List ℕ → Type 0
NamesZeros image home block =
    (i lbn : ℕ) → slice_get (blocks_named block) i ≡ Some lbn → IsNamed (table_of image home) lbn ⊎ (image_block image lbn ≡ zero_block)

-- a header that is written into a slot that isn't in use
abbrev pub UnusedHeaderWriteIsOrderly : Type 0
UnusedHeaderWriteIsOrderly =
    (image : Image) (home : HomeFields) (n : ℕ) (block : List ℕ) →
    HasSoundVolume image home → 0 < n → n ≤ slots (index_of image home) → is_in_use (index_of image home) n ≡ false →
    IsOrderlyWrite home image (with_header image home n block)

-- a dead one over a header from 5 on to which no header of a file links
abbrev pub KillIsOrderly : Type 0
KillIsOrderly =
    (image : Image) (home : HomeFields) (n : ℕ) (block : List ℕ) →
    HasSoundVolume image home → 5 ≤ n → n ≤ slots (index_of image home) → IsDead block →
    ((m : ℕ) → IsInFile (table_of image home) m → ¬ IsNext (table_of image home) m n) →
    IsOrderlyWrite home image (with_header image home n block)

-- over a live one a block that may become it, and names zeros
abbrev pub HeaderRewriteIsOrderly : Type 0
HeaderRewriteIsOrderly =
    (image : Image) (home : HomeFields) (n : ℕ) (block : List ℕ) →
    HasSoundVolume image home → IsLive (table_of image home) n → MayBecome (volume_of image home) n block →
    SparesOwnFiles (table_of image home) n block → NamesZeros image home block →
    IsOrderlyWrite home image (with_header image home n block)

-- as over a header of a file from 4 on
abbrev pub FileHeaderRewriteIsOrderly : Type 0
FileHeaderRewriteIsOrderly =
    (image : Image) (home : HomeFields) (f n : ℕ) (block : List ℕ) →
    HasSoundVolume image home → 4 ≤ f → IsHeaderOf (table_of image home) f n → MayBecome (volume_of image home) n block →
    NamesZeros image home block → IsOrderlyWrite home image (with_header image home n block)

-- the bit of a slot is set whose block may become its header, and names zeros
abbrev pub BitSetIsOrderly : Type 0
BitSetIsOrderly =
    (image : Image) (home : HomeFields) (n : ℕ) (after : Index) →
    HasSoundVolume image home → 0 < n → n ≤ slots (index_of image home) → is_in_use (index_of image home) n ≡ false →
    MayBecome (volume_of image home) n ((table_of image home).header n) → NamesZeros image home ((table_of image home).header n) →
    SetsBit true n (index_of image home) after → IsOrderlyWrite home image (with_bitmap_block image after n)

-- or cleared whose header is dead
abbrev pub BitClearIsOrderly : Type 0
BitClearIsOrderly =
    (image : Image) (home : HomeFields) (n : ℕ) (after : Index) →
    HasSoundVolume image home → IsDeadSlot (table_of image home) n → SetsBit false n (index_of image home) after →
    IsOrderlyWrite home image (with_bitmap_block image after n)

-- the index file's last header names more blocks, which hold zeros
abbrev pub IndexFileGrowsInOrder : Type 0
IndexFileGrowsInOrder =
    (image : Image) (home : HomeFields) (n : ℕ) (block : List ℕ) (lbn count : ℕ) →
    HasSoundVolume image home → MayNameMore (table_of image home) n block lbn count → lbn + count ≤ length image →
    MayBecome (volume_of image home) n block → NamesZeros image home block →
    IsOrderlyWrite home image (with_header image home n block)

-- or links to a header that names them
abbrev pub IndexFileGrowsByHeaderInOrder : Type 0
IndexFileGrowsByHeaderInOrder =
    (image : Image) (home : HomeFields) (n m : ℕ) (block : List ℕ) (lbn count : ℕ) →
    HasSoundVolume image home → MayLinkOn (table_of image home) n m block lbn count → lbn + count ≤ length image →
    MayBecome (volume_of image home) n block → IsOrderlyWrite home image (with_header image home n block)

-- calls that only read wrote in order,
abbrev pub LooksAreInOrder : Type 0
LooksAreInOrder = (old new : Disk) (most faults : ℕ) → Looked old new most faults → WritesInOrder old new

-- so did one that wrote a block in order, or failed to,
abbrev pub WriteIsInOrder : Type 0
WriteIsInOrder =
    (old new : Disk) (home : HomeFields) (lbn : ℕ) (block : List ℕ) → (IsTrue old.honest → HasSoundVolume old.image home) →
    (IsTrue old.honest → IsOrderlyWrite home old.image (slice_set old.image lbn block)) →
    new ≡ with_transfer true (with_block_at lbn block old) → WritesInOrder old new

abbrev pub FailedWriteIsInOrder : Type 0
FailedWriteIsInOrder =
    (old new : Disk) (home : HomeFields) (lbn : ℕ) (block : List ℕ) → (IsTrue old.honest → HasSoundVolume old.image home) →
    (IsTrue old.honest → IsOrderlyWrite home old.image (slice_set old.image lbn block)) →
    (new ≡ with_transfer false old) ⊎ (new ≡ with_transfer false (with_block_at lbn block old)) → WritesInOrder old new

-- and calls that did one after another
abbrev pub OrderIsKept : Type 0
OrderIsKept = (a b c : Disk) → WritesInOrder a b → WritesInOrder b c → WritesInOrder a c

-- where the first volume is sound, each of the images that stood is, and each write was in order
abbrev pub OrderIsSound : Type 0
OrderIsSound =
    (home : HomeFields) (old : Image) (since : List Image) → HasSoundVolume old home → AreInOrder home old since →
    (k : ℕ) → k < length since → IsOrderlyWrite home (image_before (suc k) since old) (image_before k since old)

-- and keeps the fixed blocks of the first
abbrev pub OrderKeepsFixed : Type 0
OrderKeepsFixed =
    (home : HomeFields) (old : Image) (since : List Image) → HasSoundVolume old home → AreInOrder home old since →
    All (KeepsFixed home old) since

-- What is out of order: a write of a free block that changes it,
abbrev pub FreeBlocksAreSpared : Type 0
FreeBlocksAreSpared =
    (image : Image) (home : HomeFields) (lbn : ℕ) (block : List ℕ) →
    (volume_of image home).free lbn ≡ true → slice_get (slice_set image lbn block) lbn ≢ slice_get image lbn →
    ¬ IsOrderlyWrite home image (slice_set image lbn block)

-- one of a fixed block that does,
abbrev pub FixedBlocksAreSpared : Type 0
FixedBlocksAreSpared =
    (image : Image) (home : HomeFields) (lbn : ℕ) (block : List ℕ) → IsFixed image home lbn →
    slice_get (slice_set image lbn block) lbn ≢ slice_get image lbn → ¬ IsOrderlyWrite home image (slice_set image lbn block)

-- a slot that comes into use before its header is there,
abbrev pub SlotsComeWithHeaders : Type 0
SlotsComeWithHeaders =
    (old new : Image) (home : HomeFields) (n : ℕ) → (table_of old home).in_use n ≡ false → (table_of new home).in_use n ≡ true →
    ¬ IsHeader ((table_of old home).header n) n → ¬ IsOrderlyWrite home old new

-- a slot that leaves use while its header is live,
abbrev pub LiveSlotsStay : Type 0
LiveSlotsStay =
    (old new : Image) (home : HomeFields) (n : ℕ) → IsLive (table_of old home) n → (table_of new home).in_use n ≡ false →
    ¬ IsOrderlyWrite home old new

-- a header that is killed before the one in front of it,
abbrev pub LinkedHeadersStay : Type 0
LinkedHeadersStay =
    (old new : Image) (home : HomeFields) (m n : ℕ) → IsInFile (table_of old home) m → IsNext (table_of old home) m n →
    ¬ IsLive (table_of new home) n → ¬ IsOrderlyWrite home old new

-- and a block that is named before it is used, or made zeros, or is free before it is named by none
abbrev pub NamedBlocksHoldZeros : Type 0
NamedBlocksHoldZeros =
    (old new : Image) (home : HomeFields) (lbn : ℕ) → IsNamed (table_of new home) lbn → ¬ IsNamed (table_of old home) lbn →
    image_block old lbn ≢ zero_block → ¬ IsOrderlyWrite home old new

abbrev pub NamedBlocksStayUsed : Type 0
NamedBlocksStayUsed =
    (old new : Image) (home : HomeFields) (lbn : ℕ) → IsNamed (table_of old home) lbn → (volume_of old home).free lbn ≡ false →
    (volume_of new home).free lbn ≡ true → ¬ IsOrderlyWrite home old new
