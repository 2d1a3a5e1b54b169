-- What a survey of a volume's headers tells: how often each block is named, which pointers leave the volume, and what is kept of each
-- slot (Files-11 On-Disk Structure Level 1, "File Header" and "Map Area").
use Rattle.std.specs.Prelude.{◌≡◌, ◌≢◌, ◌≤◌, ◌<◌, ◌+◌, ℕ, IsTrue, List, [], ◌∷◌, ◌++◌, length, if◌then◌else◌, Some}
use Rattle.std.specs.List.{slice_get}
use Rattle.f11_dev.specs.Disk.{Disk}
use Rattle.f11_dev.specs.Looked.{Looked}
use Rattle.f11_header.specs.Fields.{map_area}
use Rattle.f11_header.specs.Header.{IsHeader}
use Rattle.f11_map.specs.HeaderBlock.{blocks_named}
use Rattle.f11_index.specs.IndexFile.{Index, slots, is_in_use}
use Rattle.f11_index.specs.Table.{Table, table_in}
use Rattle.f11_map.specs.MapArea.{runs_of}
use Rattle.f11_vfy.specs.Surveying.Bits.{limit_of}
use Rattle.f11_vfy.specs.Surveying.Count.{Shows, times_among, times_named, sum_to}
use Rattle.f11_findings.specs.Found.{Finds}
use Rattle.f11_vfy.specs.Surveying.Slot.{HasState, KeepsValidHeader, KeepsSlots}
use Rattle.f11_volume.specs.Volume.{HasPointer}
use Rattle.f11_vfy.specs.declared.survey.slot.Slot.{Slot}
use Rattle.f11_vfy.specs.declared.survey.slot.State.{State}
use Rattle.f11_vfy.specs.declared.survey.slot.State.TheVariants.{Live}
use Rattle.f11_vfy.specs.declared.survey.headers.Survey.{Survey}

-- a block of pointer i of a header isn't in a volume of so many
pub record IsOutside (b : List ℕ) (size i : ℕ) : Type 0 where
  pub run : ℕ × ℕ
  pub pointer : slice_get (runs_of (map_area b)) i ≡ Some run
  pub outside : size < run.0 + run.1

-- so it is a finding of code 8, by the header's number and the pointer's
abbrev pub OutsideOf : List ℕ → ℕ → ℕ → ℕ → ℕ → ℕ → Type 0
OutsideOf b n size code a i = (code ≡ 8) × ((a ≡ n) × IsOutside b size i)

-- and so is one of headers 1 to n, where that is live
pub record OutsideUpTo (t : Table) (size n code a i : ℕ) : Type 0 where
  pub code_is : code ≡ 8
  pub within : a ≤ n
  pub run : ℕ × ℕ
  pub pointer : HasPointer t a i run
  pub outside : size < run.0 + run.1

-- one read where slot n is in use, else none
abbrev pub reads_of : Index → ℕ → ℕ
reads_of index n = if is_in_use index n then 1 else 0

-- how many of the first n slots are in use
abbrev pub used_of : Index → ℕ → ℕ
used_of index n = sum_to (λ k. reads_of index (k + 1)) n

-- how many slots are in use
abbrev pub used_slots : Index → ℕ
used_slots index = used_of index (slots index)

-- The header of slot n was read, where the slot is in use, and its state is this.
pub record ReadsSlot (index : Index) (n : ℕ) (state : State) (block : List ℕ) (old new : Disk) : Type 0 where
  pub valid : state ≡ Live → IsHeader block n
  pub state_is : IsTrue old.honest → HasState (table_in old.image index) n state
  pub block_is : IsTrue old.honest → state ≡ Live → block ≡ (table_in old.image index).header n
  pub looked : Looked old new (reads_of index n) 0

-- A slot in this state was taken into a survey, and its header where that is valid.
pub record SurveysSlot (n : ℕ) (state : State) (block : List ℕ) (size : ℕ) (old new : Survey) : Type 0 where
  pub room : limit_of old.tally.once ≤ limit_of new.tally.once
  pub slot : Slot
  pub slots : new.slots.items ≡ old.slots.items ++ slot ∷ []
  pub state_is : slot.state ≡ state
  pub keeps : state ≡ Live → KeepsValidHeader block slot
  pub named : state ≡ Live → (c : ℕ → ℕ) → Shows old.tally c → Shows new.tally (λ l. c l + times_among (blocks_named block) l)
  pub outside : state ≡ Live → Finds (OutsideOf block n size) old.outside new.outside
  pub tally_stays : state ≢ Live → new.tally ≡ old.tally
  pub outside_stays : state ≢ Live → new.outside ≡ old.outside

-- what a survey of headers 1 to n has, whatever they say: room for a volume of so many blocks, and a place for each slot
pub record IsSurvey (size n : ℕ) (s : Survey) : Type 0 where
  pub room : size ≤ limit_of s.tally.once
  pub count : length s.slots.items ≡ n

-- a survey of headers 1 to n of a table
pub record Surveys (t : Table) (size n : ℕ) (s : Survey) : Type 0 where
  pub shows : Shows s.tally (times_named t n)
  pub outside : Finds (OutsideUpTo t size n) [] s.outside
  pub slots : KeepsSlots t n s.slots.items

-- A disk's headers were surveyed, each that is in use read once.
pub record SurveysDisk (index : Index) (size : ℕ) (s : Survey) (old new : Disk) : Type 0 where
  pub is_survey : IsSurvey size (slots index) s
  pub surveys : IsTrue old.honest → Surveys (table_in old.image index) size (slots index) s
  pub looked : Looked old new (used_slots index) 0

-- a survey of no header
pub record IsNewSurvey (size : ℕ) (s : Survey) : Type 0 where
  pub room : limit_of s.tally.once ≡ size
  pub shows : Shows s.tally (λ l. 0)
  pub none_outside : s.outside ≡ []
  pub no_slots : s.slots.items ≡ []
