-- A header for a file that grows past its last one: it is written into a slot that isn't in use, and then the slot's bit is set.
-- No file has it until the file's last header links to it (Files-11 On-Disk Structure Level 1, "Index File" and "File Header").
use Rattle.std.specs.Prelude.{◌≡◌, ℕ, ◌<◌, ◌≤◌, true, false, List, [], ◌∷◌}
use Rattle.std.specs.List.{range_with_len}
use Rattle.f11_dev.specs.Image.{Image}
use Rattle.f11_header.specs.Fields.{file_sequence}
use Rattle.f11_header.specs.Header.{IsHeader}
use Rattle.f11_volume.specs.home.Home.{HomeFields}
use Rattle.f11_index.specs.Calls.{SetsBit}
use Rattle.f11_index.specs.Growth.{with_header}
use Rattle.f11_volume.specs.map.HeaderBlock.{segment_number, blocks_named, LinksToNone}
use Rattle.f11_index.specs.Headers.{IsInFile}
use Rattle.f11_index.specs.IndexFile.{Index, index_of, slots, is_in_use}
use Rattle.f11_index.specs.Table.{table_of, IsLive, IsNext, IsHeaderOf}
use Rattle.f11_store.specs.Changes.{with_slots, next_sequence}
use Rattle.f11_store.specs.Store.{Store}
use Rattle.f11_volume.specs.Sound.{HasSoundVolume}
use Rattle.f11_volume.specs.Volume.{volume_of}
use Rattle.f11_writes.specs.Kept.{WritesHeader, WritesSlotBit}
use Rattle.f11_writes.specs.NameLaws.{AreUnreferenced}
use Rattle.f11_writes.specs.Worked.{with_new_header}
use Rattle.f11_image_store.specs.SlotLaws.{with_use, with_last}
use Rattle.f11_image_store.specs.StoreOf.{store_of}

-- a slot that comes into use with its next sequence number is one that was taken
abbrev pub SlotIsTaken : Type 0
SlotIsTaken = (s : Store) (n sequence : ℕ) → sequence ≡ next_sequence (s.last n) →
    with_use (with_last s n sequence) n true ≡ with_slots s (n ∷ [])

-- A block is a valid header for a slot that isn't in use, and no file's first: it names these blocks and links to none.
pub record IsNewExtension (index : Index) (n lbn count : ℕ) (block : List ℕ) : Type 0 where
  pub some : 0 < n
  pub slot : n ≤ slots index
  pub unused : is_in_use index n ≡ false
  pub valid : IsHeader block n
  pub later : 0 < segment_number block
  pub no_link : LinksToNone block
  pub names : blocks_named block ≡ range_with_len lbn count

-- It was written, and then its bit set: the volume is sound after each write, the header is live and no file's, and each header
-- of a file is one of it still and as it was. In the store its slot alone has changed.
pub record EntersExtension (n : ℕ) (block : List ℕ) (after : Index) (home : HomeFields) (old first second : Image) : Type 0 where
  pub header : WritesHeader n block home old first
  pub bit : WritesSlotBit n after home first second
  pub store : store_of second home ≡ with_use (with_last (store_of old home) n (file_sequence block)) n true
  pub live : IsLive (table_of second home) n
  pub block_is : (table_of second home).header n ≡ block
  pub unlinked : (m : ℕ) → IsInFile (table_of second home) m → ¬ IsNext (table_of second home) m n
  pub files : (f m : ℕ) → IsHeaderOf (table_of old home) f m → IsHeaderOf (table_of second home) f m
  pub others : (m : ℕ) → (table_of old home).in_use m ≡ true → (table_of second home).header m ≡ (table_of old home).header m

-- where the blocks are unreferenced, it may be
abbrev pub ExtensionMayBeEntered : Type 0
ExtensionMayBeEntered =
    (image : Image) (home : HomeFields) (n lbn count : ℕ) (block : List ℕ) (after : Index) → HasSoundVolume image home →
    IsNewExtension (index_of image home) n lbn count block → AreUnreferenced (volume_of image home) lbn count →
    SetsBit true n (index_of image home) after →
    EntersExtension n block after home image (with_header image home n block) (with_new_header image home n block after)
