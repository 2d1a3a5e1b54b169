-- Which headers are headers of files, and which are the next of which, by what is kept of them (Files-11 On-Disk Structure Level 1,
-- "File Header").
use Rattle.std.specs.Prelude.{◌≡◌, ◌≢◌, ◌≤◌, ◌<◌, ◌+◌, ◌&&◌, ◌==◌, ◌↔◌, ℕ, zero, suc, true, not, if◌then◌else◌, List, length, slice_index}
use Rattle.std.specs.Prelude.{Option, Some, None}
use Rattle.f11_map.specs.HeaderBlock.{segment_number}
use Rattle.f11_index.specs.Table.{Table, IsNext}
use Rattle.f11_vfy.specs.Surveying.Bits.{has, limit_of}
use Rattle.f11_vfy.specs.Surveying.Count.{within}
use Rattle.f11_vfy.specs.Surveying.Slot.{KeepsSlots}
use Rattle.f11_index.specs.Headers.{IsInFile}
use Rattle.f11_vfy.specs.declared.survey.bits.Bits.{Bits}
use Rattle.f11_vfy.specs.declared.chains.Chains.{Chains}
use Rattle.f11_vfy.specs.declared.survey.slot.Slot.{Slot}

-- A table as the format has them: slots in use are numbered from 1 on, by words, and a segment number is a byte.
pub record IsFit (t : Table) : Type 0 where
  pub few : t.slots < 65536
  pub low : (n : ℕ) → t.in_use n ≡ true → 1 ≤ n
  pub high : (n : ℕ) → t.in_use n ≡ true → n ≤ t.slots
  pub segments : (n : ℕ) → segment_number (t.header n) < 256

-- the list keeps what there is of the headers of a table, from slot 1 on
pub record KeepsTable (t : Table) (slots : List Slot) : Type 0 where
  pub fit : IsFit t
  pub keeps : KeepsSlots t t.slots slots

-- the next header of each of the first n, 0 for none
pub record NextsTo (t : Table) (nexts : List ℕ) (n : ℕ) : Type 0 where
  pub some : (k : ℕ) → k < n → slice_index nexts k ≢ 0 → IsNext t (k + 1) (slice_index nexts k)
  pub all : (k m : ℕ) → k < n → IsNext t (k + 1) m → slice_index nexts k ≡ m

-- what is kept of the next headers of a table's slots
pub record KnowsNexts (t : Table) (kept : List ℕ) : Type 0 where
  pub fit : IsFit t
  pub count : length kept ≡ t.slots
  pub nexts : NextsTo t kept t.slots

-- the header with this number; number 0 is none
abbrev pub numbered : ℕ → Option ℕ
numbered zero = None
numbered (suc n) = Some (suc n)

-- all marked headers are headers of files, and so are those that are next of them
pub record IsClosed (t : Table) (marked : Bits) : Type 0 where
  pub sound : (k : ℕ) → has marked k ≡ true → IsInFile t k
  pub next : (k m : ℕ) → has marked k ≡ true → IsNext t k m → has marked m ≡ true

-- how often header k + 1 links to m: once, if it is a header of a file
unfoldable pub points_at : Bits → List ℕ → ℕ → ℕ → ℕ
points_at marked nexts k m =
    if has marked (k + 1) && not (slice_index nexts k == 0) then within (slice_index nexts k) (slice_index nexts k + 1) m else 0

-- header m is the next of two headers of files
pub record IsLinkedTwice (t : Table) (m : ℕ) : Type 0 where
  pub one : ℕ
  pub other : ℕ
  pub apart : one ≢ other
  pub one_in_file : IsInFile t one
  pub other_in_file : IsInFile t other
  pub next_of_one : IsNext t one m
  pub next_of_other : IsNext t other m

-- there is room for so many slots
pub record IsSized (chains : Chains) (n : ℕ) : Type 0 where
  pub nexts : length chains.nexts.items ≡ n
  pub in_file : limit_of chains.in_file ≡ n + 1
  pub linked : limit_of chains.linked.once ≡ n + 1

-- what is known of a table's files
pub record ShowsChains (t : Table) (chains : Chains) : Type 0 where
  pub nexts : NextsTo t chains.nexts.items t.slots
  pub in_file : (n : ℕ) → has chains.in_file n ≡ true ↔ IsInFile t n
  pub twice : (n : ℕ) → has chains.linked.twice n ≡ true ↔ IsLinkedTwice t n
