-- Laws of what is freed without touching a file: orphan headers, slots with dead headers, and blocks that no header names (profile).
use Rattle.std.specs.Prelude.{◌≡◌, ◌⊎◌, ℕ, true, false, List}
use Rattle.f11_bits.specs.Bitmap.{is_free, KeepsOthers}
use Rattle.f11_dev.specs.Image.{Image}
use Rattle.f11_header.specs.Fields.{file_sequence}
use Rattle.f11_header.specs.Header.{IsDead}
use Rattle.f11_volume.specs.home.Home.{HomeFields}
use Rattle.f11_index.specs.Calls.{SetsBit, with_bitmap_block}
use Rattle.f11_index.specs.Growth.{with_header}
use Rattle.f11_index.specs.IndexFile.{Index, index_of}
use Rattle.f11_index.specs.Table.{table_of, last_sequence, IsLive, IsDeadSlot}
use Rattle.f11_volume.specs.Sound.{HasSoundVolume}
use Rattle.f11_volume.specs.Space.{storage_bitmap}
use Rattle.f11_volume.specs.Volume.{IsNamed}
use Rattle.f11_image_store.specs.Freeing.{IsFreeing}
use Rattle.f11_image_store.specs.SlotLaws.{IsFileless}
use Rattle.f11_image_store.specs.StoreOf.{store_of}

-- a dead header with the same sequence number may be written over a live one of no file: the files stay
abbrev pub OrphanMayBeKilled : Type 0
OrphanMayBeKilled =
    (image : Image) (home : HomeFields) (n : ℕ) (block : List ℕ) → HasSoundVolume image home → IsLive (table_of image home) n →
    IsFileless (table_of image home) n → IsDead block → file_sequence block ≡ last_sequence (table_of image home) n →
    IsFreeing home (store_of image home) (with_header image home n block)

-- a slot whose header is dead may leave use: they stay
abbrev pub DeadSlotMayBeFreed : Type 0
DeadSlotMayBeFreed =
    (image : Image) (home : HomeFields) (n : ℕ) (after : Index) → HasSoundVolume image home → IsDeadSlot (table_of image home) n →
    SetsBit false n (index_of image home) after → IsFreeing home (store_of image home) (with_bitmap_block image after n)

-- and blocks that no header names may become free: they stay, where no other block of the image changes and none that was free is used then
abbrev pub UnnamedMayBeFreed : Type 0
UnnamedMayBeFreed =
    (old new : Image) (home : HomeFields) → HasSoundVolume old home → KeepsOthers (storage_bitmap old home) old new →
    ((lbn : ℕ) → is_free new (storage_bitmap old home) lbn ≡ true →
    (is_free old (storage_bitmap old home) lbn ≡ true) ⊎ (¬ IsNamed (table_of old home) lbn)) →
    ((lbn : ℕ) → is_free old (storage_bitmap old home) lbn ≡ true → is_free new (storage_bitmap old home) lbn ≡ true) →
    IsFreeing home (store_of old home) new
