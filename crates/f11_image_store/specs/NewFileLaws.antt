-- A new file: its header is written into the least free slot, and then the slot's bit is set (Files-11 On-Disk Structure Level 1,
-- "Index File" and "File Header"; profile: which slot, and its sequence number).
use Rattle.std.specs.Prelude.{◌≡◌, ℕ, ◌≤◌, true, false, IsTrue, List}
use Rattle.f11_bytes.specs.Words.{word_sum}
use Rattle.f11_dev.specs.Image.{Image}
use Rattle.f11_header.specs.Fields.{check_word}
use Rattle.f11_header.specs.Header.{holds_header, header_in, header_with, IsEmptyHeader}
use Rattle.f11_volume.specs.home.Home.{HomeFields}
use Rattle.f11_index.specs.Calls.{SetsBit}
use Rattle.f11_index.specs.Growth.{with_header}
use Rattle.f11_index.specs.IndexFile.{Index, index_of, slots, is_in_use, free_slots_in}
use Rattle.f11_index.specs.Slots.{IsLeastFree}
use Rattle.f11_index.specs.Table.{table_of, last_sequence}
use Rattle.f11_store.specs.Changes.{after_create, next_sequence}
use Rattle.f11_store.specs.Store.{free_slots as free_in}
use Rattle.f11_store.specs.declared.callers.Uic.{Uic}
use Rattle.f11_store.specs.declared.files.FileId.{FileId}
use Rattle.f11_volume.specs.Sound.{HasSoundVolume}
use Rattle.f11_writes.specs.Kept.{WritesHeader, WritesSlotBit}
use Rattle.f11_writes.specs.Worked.{with_new_header}
use Rattle.f11_image_store.specs.SlotLaws.{with_last}
use Rattle.f11_image_store.specs.StoreOf.{store_of}

-- the free slots of an image's store are those of its index file
abbrev pub FreeSlotsAreStored : Type 0
FreeSlotsAreStored = (image : Image) (home : HomeFields) → free_in (store_of image home) ≡ free_slots_in (index_of image home)

-- A block is the first header of a new file: sealed, it says what an empty header does but for this ident area and these attributes.
pub record IsNewFirst (id : FileId) (owned : Uic) (protects : ℕ) (ident attr empty block : List ℕ) : Type 0 where
  pub blank : IsEmptyHeader empty id owned protects 0
  pub holds : IsTrue (holds_header empty)
  pub says : header_in block ≡ header_with (λ h. record h { ident = ident; attributes = attr }) empty
  pub sum : check_word block ≡ word_sum block 255

-- It was written into its slot, which isn't in use: the volume is sound, and the slot has the sequence number.
pub record WritesNewFirst (id : FileId) (block : List ℕ) (home : HomeFields) (old new : Image) : Type 0 where
  pub header : WritesHeader id.number block home old new
  pub store : store_of new home ≡ with_last (store_of old home) id.number id.sequence

-- such a block may be written there
abbrev pub NewFirstMayBeWritten : Type 0
NewFirstMayBeWritten =
    (image : Image) (home : HomeFields) (id : FileId) (owned : Uic) (protects : ℕ) (ident attr empty block : List ℕ) →
    HasSoundVolume image home →
    IsNewFirst id owned protects ident attr empty block → id.number ≤ slots (index_of image home) →
    is_in_use (index_of image home) id.number ≡ false →
    WritesNewFirst id block home image (with_header image home id.number block)

-- Then its bit was set: the volume is sound, and its store is the one of before with the file that Create makes.
pub record EntersNewFile (n : ℕ) (after : Index) (owned : Uic) (protects : ℕ) (ident attr : List ℕ) (home : HomeFields)
    (old first second : Image) : Type 0 where
  pub bit : WritesSlotBit n after home first second
  pub store : store_of second home ≡ after_create (store_of old home) owned protects ident attr

-- so does the bit of the least free slot, with the slot's next sequence number
abbrev pub NewFileMayBeEntered : Type 0
NewFileMayBeEntered =
    (image : Image) (home : HomeFields) (id : FileId) (owned : Uic) (protects : ℕ) (ident attr empty block : List ℕ) (after : Index) →
    HasSoundVolume image home →
    IsNewFirst id owned protects ident attr empty block → IsLeastFree (index_of image home) id.number →
    id.sequence ≡ next_sequence (last_sequence (table_of image home) id.number) → SetsBit true id.number (index_of image home) after →
    EntersNewFile id.number after owned protects ident attr home image (with_header image home id.number block)
    (with_new_header image home id.number block after)
