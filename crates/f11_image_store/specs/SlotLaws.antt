-- What a write of one slot, of its header or of its bit, makes of the store of an image, in the words of the plain store (profile).
use Rattle.std.specs.Prelude.{◌≡◌, ◌≢◌, ℕ, ◌+◌, ◌<◌, ◌≤◌, ◌==◌, Bool, true, false, List, Some, None, if◌then◌else◌}
use Rattle.f11_dev.specs.Image.{Image}
use Rattle.f11_header.specs.Fields.{file_sequence}
use Rattle.f11_header.specs.Header.{IsDead}
use Rattle.f11_volume.specs.home.Home.{HomeFields}
use Rattle.f11_index.specs.IndexFile.{Index}
use Rattle.f11_index.specs.Table.{Table, table_of, last_sequence, IsFile, IsHeaderOf}
use Rattle.f11_store.specs.Changes.{with_file, with_more_slots}
use Rattle.f11_store.specs.Store.{Store}
use Rattle.f11_writes.specs.Kept.{file_in, KeepsButSlot, WritesHeader, WritesSlotBit, WritesGrowth}
use Rattle.f11_image_store.specs.StoreOf.{as_seen, file_at, last_given, store_of}

-- slot n is in use now, or isn't
abbrev pub with_use : Store → ℕ → Bool → Store
with_use s n used = record s { in_use = λ m. if m == n then used else s.in_use m }

-- slot n was last given this sequence number
abbrev pub with_last : Store → ℕ → ℕ → Store
with_last s n sequence = record s { last = λ m. if m == n then sequence else s.last m }

-- There are as many slots, and each but n keeps its block.
pub record KeepsOtherBlocks (n : ℕ) (old new : Table) : Type 0 where
  pub slots : new.slots ≡ old.slots
  pub header : (m : ℕ) → 0 < m → m ≤ old.slots → m ≢ n → new.header m ≡ old.header m

-- Of the files the header in slot n concerns file f alone: it is one of no other's, and no other is made or lost.
pub record ConcernsFile (n f : ℕ) (old new : Table) : Type 0 where
  pub no_other : (g : ℕ) → g ≢ f → ¬ IsHeaderOf new g n
  pub not_first : n ≢ f → ¬ IsFile old n × ¬ IsFile new n

-- where a slot was written, the store has file f and the slot as they are now, and all else as it was
abbrev pub SlotIsStored : Type 0
SlotIsStored =
    (old new : Image) (home : HomeFields) (n f : ℕ) → KeepsButSlot n home old new →
    KeepsOtherBlocks n (table_of old home) (table_of new home) →
    ConcernsFile n f (table_of old home) (table_of new home) →
    store_of new home ≡
    with_last (with_use (with_file (store_of old home) f (file_at new (table_of new home) f)) n ((table_of new home).in_use n)) n
    (last_given (table_of new home) n)

-- a header that is written into a slot that isn't in use gives the slot its sequence number
abbrev pub UnusedSlotIsGiven : Type 0
UnusedSlotIsGiven =
    (old new : Image) (home : HomeFields) (n : ℕ) (block : List ℕ) → WritesHeader n block home old new → 0 < n →
    n ≤ (table_of old home).slots →
    (table_of old home).in_use n ≡ false → store_of new home ≡ with_last (store_of old home) n (file_sequence block)

-- header n is one of no file
abbrev pub IsFileless : Table → ℕ → Type 0
IsFileless t n = (f : ℕ) → ¬ IsHeaderOf t f n

-- a slot that comes into use with a file's first header makes the file
abbrev pub FileIsEntered : Type 0
FileIsEntered =
    (old new : Image) (home : HomeFields) (n : ℕ) (after : Index) → WritesSlotBit n after home old new → IsFile (table_of new home) n →
    store_of new home ≡ with_use (with_file (store_of old home) n (Some (as_seen n (file_in home n new)))) n true

-- one whose header is one of no file before and after is in use, or isn't, and that is all
abbrev pub FilelessSlotIsSet : Type 0
FilelessSlotIsSet =
    (old new : Image) (home : HomeFields) (n : ℕ) (after : Index) → WritesSlotBit n after home old new → IsFileless (table_of old home) n →
    IsFileless (table_of new home) n → store_of new home ≡ with_use (store_of old home) n ((table_of new home).in_use n)

-- a header of no file that is written with the sequence number that the slot has, and is of no file then, leaves the store
abbrev pub FilelessHeaderIsWritten : Type 0
FilelessHeaderIsWritten =
    (old new : Image) (home : HomeFields) (n : ℕ) (block : List ℕ) → WritesHeader n block home old new →
    file_sequence block ≡ last_sequence (table_of old home) n →
    IsFileless (table_of old home) n → IsFileless (table_of new home) n → store_of new home ≡ store_of old home

-- a file's first header that is killed takes the file away
abbrev pub FileIsKilled : Type 0
FileIsKilled =
    (old new : Image) (home : HomeFields) (n : ℕ) (block : List ℕ) → WritesHeader n block home old new →
    file_sequence block ≡ last_sequence (table_of old home) n →
    IsFile (table_of old home) n → IsDead block → store_of new home ≡ with_file (store_of old home) n None

-- a header of file f that is written as one of it, with its sequence number, changes that file alone
abbrev pub FileIsRewritten : Type 0
FileIsRewritten =
    (old new : Image) (home : HomeFields) (f n : ℕ) (block : List ℕ) → WritesHeader n block home old new →
    file_sequence block ≡ last_sequence (table_of old home) n →
    IsHeaderOf (table_of old home) f n → IsHeaderOf (table_of new home) f n →
    store_of new home ≡ with_file (store_of old home) f (Some (as_seen f (file_in home f new)))

-- The index file has so many slots more, none of which was given a sequence number, where header n of file 1 was written with the
-- sequence number that it had.
pub record GivesSlots (n count : ℕ) (old new : Table) : Type 0 where
  pub of_old : IsHeaderOf old 1 n
  pub of_new : IsHeaderOf new 1 n
  pub sequence : last_sequence new n ≡ last_sequence old n
  pub slots : new.slots ≡ old.slots + count
  pub unnumbered : (m : ℕ) → old.slots < m → m ≤ old.slots + count → last_sequence new m ≡ 0

-- then the store has them, and file 1 as it is now
abbrev pub IndexFileIsStored : Type 0
IndexFileIsStored =
    (old new : Image) (home : HomeFields) (n : ℕ) (block : List ℕ) (lbn count : ℕ) → WritesGrowth n block lbn count home old new →
    GivesSlots n count (table_of old home) (table_of new home) →
    store_of new home ≡ with_more_slots (with_file (store_of old home) 1 (Some (as_seen 1 (file_in home 1 new)))) count
