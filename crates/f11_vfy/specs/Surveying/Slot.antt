-- What is kept of a slot and its header (Files-11 On-Disk Structure Level 1, "File Header").
use Rattle.std.specs.Prelude.{◌≡◌, ◌+◌, ◌<◌, ◌&&◌, ◌==◌, ℕ, Bool, true, false, List, length, slice_index, slice_index_or}
use Rattle.f11_bytes.specs.Words.{word}
use Rattle.f11_header.specs.Fields.{file_sequence, characteristics, attributes, ident_area}
use Rattle.f11_header.specs.Header.{IsHeader, IsDead}
use Rattle.f11_map.specs.HeaderBlock.{segment_number, link_of, blocks_named}
use Rattle.f11_index.specs.Table.{Table, IsLive, IsDeadSlot}
use Rattle.f11_vfy.specs.Surveying.Extent.{LieAs}
use Rattle.f11_vfy.specs.declared.survey.extent.Extent.TheVariants.{Empty}
use Rattle.f11_vfy.specs.declared.survey.slot.Slot.{Slot}
use Rattle.f11_vfy.specs.declared.survey.slot.State.{State}
use Rattle.f11_vfy.specs.declared.survey.slot.State.TheVariants.{Unused, Dead, Bad, Live}

-- the header is that of a directory: ident type DIR (6778 in Radix-50), record type 1, record size 16 ("Directories")
unfoldable pub says_directory : List ℕ → Bool
says_directory b = (word (ident_area b) 6 == 6778) && (slice_index (attributes b) 0 == 1) && (word (attributes b) 2 == 16)

-- what is kept of a valid header
pub record KeepsValidHeader (b : List ℕ) (s : Slot) : Type 0 where
  pub segment : s.segment ≡ segment_number b
  pub sequence : s.sequence ≡ file_sequence b
  pub characteristics_are : s.characteristics ≡ characteristics b
  pub link : s.link ≡ link_of b
  pub directory : segment_number b ≡ 0 → s.directory ≡ says_directory b
  pub extent : LieAs (blocks_named b) s.extent

-- header n is in use, and neither valid nor dead
pub record IsBadSlot (t : Table) (n : ℕ) : Type 0 where
  pub in_use : t.in_use n ≡ true
  pub not_dead : ¬ IsDead (t.header n)
  pub not_valid : ¬ IsHeader (t.header n) n

-- slot n is in this state
pub data HasState (t : Table) (n : ℕ) : State → Type 0 where
  unused : t.in_use n ≡ false → HasState t n Unused
  dead : IsDeadSlot t n → HasState t n Dead
  bad : IsBadSlot t n → HasState t n Bad
  live : IsLive t n → HasState t n Live

-- what is kept of slot n
pub record KeepsSlot (t : Table) (n : ℕ) (s : Slot) : Type 0 where
  pub state : HasState t n s.state
  pub header : s.state ≡ Live → KeepsValidHeader (t.header n) s

-- a slot not in use
abbrev pub unused_slot : Slot
unused_slot = record {
  state = Unused;
  segment = 0;
  sequence = 0;
  characteristics = 0;
  link =
      record { number = 0; sequence = 0; volume = 0 };
  directory = false;
  extent = Empty;
}

-- what is kept of slot k + 1
abbrev pub kept_slot : List Slot → ℕ → Slot
kept_slot slots k = slice_index_or slots k unused_slot

-- what is kept of the first slots, from slot 1 on
pub record KeepsSlots (t : Table) (n : ℕ) (slots : List Slot) : Type 0 where
  pub count : length slots ≡ n
  pub each : (k : ℕ) (d : Slot) → k < n → KeepsSlot t (k + 1) (slice_index_or slots k d)
