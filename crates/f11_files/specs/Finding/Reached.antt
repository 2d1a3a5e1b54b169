-- How the header that names a block of a file is reached: from the one that was reached last, or from the file's first (profile).
use Rattle.std.specs.Prelude.{◌≡◌, ℕ, ◌+◌, ◌-◌, ◌<◌, ◌≤◌, true, IsTrue, List, length, Option, Some, IfSome}
use Rattle.std.specs.List.{slice_get}
use Rattle.f11_chain.specs.Calls.{Seeks}
use Rattle.f11_chain.specs.FileHeaders.{blocks_before}
use Rattle.f11_chain.specs.declared.blocks.Place.{Place}
use Rattle.f11_dev.specs.Disk.{Disk}
use Rattle.f11_home.specs.Home.{HomeFields}
use Rattle.f11_index.specs.Headers.{headers_of}
use Rattle.f11_index.specs.Table.{Table, table_of, last_sequence}
use Rattle.f11_map.specs.HeaderBlock.{blocks_named, segment_number}
use Rattle.f11_store.specs.declared.files.FileId.{FileId}
use Rattle.f11_image_store.specs.StoreOf.{is_first}
use Rattle.f11_files.specs.Finding.First.{IsFileOf}
use Rattle.f11_files.specs.Structure.{index_in}
use Rattle.f11_files.specs.declared.find.reach.Seen.{Seen}
use Rattle.f11_files.specs.declared.structure.Structure.{Structure}

-- a header that was reached is there: a file with its sequence number has it, in the place of its segment number, behind so many blocks
abbrev pub IsSeen : Table → Seen → Type 0
IsSeen t s =
    (is_first t s.at.file ≡ true) × (last_sequence t s.at.file ≡ s.sequence) ×
    (slice_get (headers_of t s.at.file) (segment_number (t.header s.at.number)) ≡ Some s.at.number) ×
    (s.at.before ≡ blocks_before t s.at.file s.at.number)

-- so is the one that is kept, if one is, where the disk is honest
abbrev pub LiesSeen : Option Seen → HomeFields → Disk → Type 0
LiesSeen seen home disk = IfSome seen (λ s. IsTrue disk.honest → IsSeen (table_of disk.image home) s)

-- The header is one of the file, and doesn't begin behind block `vbn`.
pub record IsBefore (f : FileId) (vbn : ℕ) (s : Seen) : Type 0 where
  pub file : s.at.file ≡ f.number
  pub sequence : s.sequence ≡ f.sequence
  pub before : s.at.before < vbn

-- The header of file f that names block `vbn` is in hand; no header was read behind it.
pub record Reaches (s : Structure) (f : FileId) (vbn : ℕ) (place : Place) (block : List ℕ) (old new : Disk) : Type 0 where
  pub there : IsTrue old.honest → IsFileOf f (index_in s) old
  pub seeks : Seeks (index_in s) f.number 0 (vbn - 1) place block old new

-- Where the header that was reached last is one of the file and not behind the block, none before it was read.
abbrev pub GoesOn : Option Seen → FileId → ℕ → ℕ → HomeFields → Disk → Disk → Type 0
GoesOn seen f vbn segment home old new =
    (s : Seen) → seen ≡ Some s → IsBefore f vbn s → IsTrue old.honest →
    new.transfers + segment_number ((table_of old.image home).header s.at.number) ≤ old.transfers + segment + 1

-- The header of the file that names its block `vbn` is kept. Where the one that was kept before is one of the file, too, and doesn't begin
-- behind that block, only those from it up to the one that is kept now were read.
pub record ReachesOn (f : FileId) (vbn : ℕ) (was now : Option Seen) (home : HomeFields) (old new : Disk) : Type 0 where
  pub seen : Seen
  pub seen_is : now ≡ Some seen
  pub of : IsBefore f vbn seen
  pub names : IsTrue old.honest → vbn ≤ seen.at.before + length (blocks_named ((table_of old.image home).header seen.at.number))
  pub few : (s : Seen) → was ≡ Some s → IsBefore f vbn s → IsTrue old.honest →
      new.transfers + segment_number ((table_of old.image home).header s.at.number) ≤
      old.transfers + segment_number ((table_of old.image home).header seen.at.number) + 1
