-- How the headers of an index file are read, one after another, and the blocks that they name are judged (Files-11 On-Disk
-- Structure Level 1, "Index File").
use Rattle.std.specs.Prelude.{◌≡◌, ℕ, zero, suc, ◌+◌, ◌-◌, ◌<◌, ◌≤◌, Bool, true, false, IsTrue, List, []}
use Rattle.std.specs.Prelude.{◌++◌, length, take, drop, slice_index, Option, Some, None}
use Rattle.std.specs.List.{slice_get}
use Rattle.f11_dev.specs.Disk.{Disk}
use Rattle.f11_dev.specs.Image.{Image, image_block}
use Rattle.f11_dev.specs.Looked.{Looked}
use Rattle.f11_map.specs.header.Fields.{file_sequence}
use Rattle.f11_map.specs.header.Header.{IsHeader}
use Rattle.f11_home.specs.Home.{HomeFields}
use Rattle.f11_map.specs.HeaderBlock.{segment_number, link_of, blocks_named}
use Rattle.f11_index.specs.Calls.{LooksAlong}
use Rattle.f11_index.specs.IndexFile.{most_slots, index_file_blocks, index_of, bit_of_slot}
use Rattle.f11_index.specs.Sound.{IsPlaced, IsIndexFile}
use Rattle.f11_index.specs.Table.{table_of, last_sequence, IsWholeFile}
use Rattle.f11_index.specs.declared.blocks.Blocks.{Blocks}
use Rattle.f11_index.specs.declared.walk.Due.{Due}
use Rattle.f11_map.specs.store.declared.files.FileId.{FileId}

-- The blocks of the index bitmap were read.
pub record ReadsBitmap (home : HomeFields) (bitmap : List (List ℕ)) (old new : Disk) : Type 0 where
  pub size : length bitmap ≡ home.index_blocks
  pub blocks : IsTrue old.honest → bitmap ≡ (index_of old.image home).bitmap
  pub looked : Looked old new home.index_blocks 0

-- where the block at this place among the first ones of the index file should be: the boot block, the home block, then the
-- index bitmap and the headers behind it in a row
abbrev pub lbn_due : HomeFields → ℕ → ℕ
lbn_due home zero = 0
lbn_due home (suc zero) = home.lbn
lbn_due home (suc (suc i)) = home.index_lbn + i

-- the place of header 1
abbrev pub first_place : HomeFields → ℕ
first_place home = 2 + home.index_blocks

-- A block may be the index file's at this place: it is on a device of so many blocks, and where it should be if it is one of
-- the first.
pub record FitsAt (home : HomeFields) (end place lbn : ℕ) : Type 0 where
  pub within : lbn < end
  pub due : place < first_place home + 16 → lbn ≡ lbn_due home place

-- Each of these may be, from this place on.
pub record FitFrom (home : HomeFields) (end place : ℕ) (lbns : List ℕ) : Type 0 where
  pub each : (i lbn : ℕ) → slice_get lbns i ≡ Some lbn → FitsAt home end (place + i) lbn

-- the LBNs of the headers, where these blocks come behind so many others: as far as there can be headers
abbrev pub headers_with : HomeFields → List ℕ → ℕ → List ℕ → List ℕ
headers_with home lbns places headers = take (most_slots home) (headers ++ drop (first_place home - places) lbns)

-- These blocks were added behind so many others, and the headers among them behind their LBNs.
pub record AddsPlaces (home : HomeFields) (lbns : List ℕ) (places : ℕ) (headers : List ℕ) (places_now : ℕ)
    (headers_now : List ℕ) : Type 0 where
  pub places_are : places_now ≡ places + length lbns
  pub headers_are : headers_now ≡ headers_with home lbns places headers

-- the blocks that are kept before and after
abbrev pub AddsTo : HomeFields → List ℕ → Blocks → Blocks → Type 0
AddsTo home lbns old new = AddsPlaces home lbns old.places old.headers.items new.places new.headers.items

-- They were added if they fit; else they don't fit.
abbrev pub AddsIf : Bool → HomeFields → ℕ → List ℕ → Blocks → Blocks → Type 0
AddsIf true home end lbns old new = AddsTo home lbns old new × FitFrom home end old.places lbns
AddsIf false home end lbns old new = ¬ FitFrom home end old.places lbns

-- A block is the header that is looked for: its slot is in use, and it is the valid header of that number, sequence number and
-- segment.
pub record IsDue (bitmap : List (List ℕ)) (due : Due) (segment : ℕ) (header : List ℕ) : Type 0 where
  pub bit : bit_of_slot bitmap due.number ≡ true
  pub valid : IsHeader header due.number
  pub sequence_is : file_sequence header ≡ due.sequence
  pub segment_is : segment_number header ≡ segment

-- The walk may go on from this header: it is the one that is looked for, the blocks that it names fit, and its link is to a
-- header among them or to none.
pub record MayStep (home : HomeFields) (bitmap : List (List ℕ)) (end : ℕ) (due : Due) (segment : ℕ) (blocks : Blocks)
    (header : List ℕ) : Type 0 where
  pub is_due : IsDue bitmap due segment header
  pub fit : FitFrom home end blocks.places (blocks_named header)
  pub linked : (link_of header).number ≤ length (headers_with home (blocks_named header) blocks.places blocks.headers.items)

-- the header that a link is to, where these are the LBNs of the headers; number 0 is none
abbrev pub IsNextDue : List ℕ → FileId → Option Due → Type 0
IsNextDue headers link None = link.number ≡ 0
IsNextDue headers link (Some due) =
    (0 < link.number) × ((link.number ≤ length headers) ×
    (due ≡ record { lbn = slice_index headers (link.number - 1); number = link.number; sequence = link.sequence }))

-- One header was read, and its blocks were added.
pub record Steps (home : HomeFields) (bitmap : List (List ℕ)) (due : Due) (segment : ℕ) (before after : Blocks) (next : Option Due)
    (old new : Disk) : Type 0 where
  pub header : List ℕ
  pub read : IsTrue old.honest → image_block old.image due.lbn ≡ header
  pub may : MayStep home bitmap (length old.image) due segment before header
  pub adds : AddsTo home (blocks_named header) before after
  pub few : after.places ≤ before.places + 32512
  pub next_is : IsNextDue after.headers.items (link_of header) next
  pub looked : Looked old new 1 0

-- It isn't one that the walk may go on from.
pub record Misfits (home : HomeFields) (bitmap : List (List ℕ)) (due : Due) (segment : ℕ) (before : Blocks) (old new : Disk) : Type 0 where
  pub misfits : IsTrue old.honest → ¬ MayStep home bitmap (length old.image) due segment before (image_block old.image due.lbn)
  pub looked : Looked old new 1 0

-- The file's headers link rightly, and its first is that of the file 1,1.
pub record IsFileOne (image : Image) (home : HomeFields) : Type 0 where
  pub whole : IsWholeFile (table_of image home) 1
  pub sequence : last_sequence (table_of image home) 1 ≡ 1

-- All headers were read, and these are the blocks that they name.
pub record Follows (home : HomeFields) (blocks : Blocks) (old new : Disk) : Type 0 where
  pub lbns : List ℕ
  pub adds : AddsPlaces home lbns 0 [] blocks.places blocks.headers.items
  pub fit : FitFrom home (length old.image) 0 lbns
  pub is_file : IsTrue old.honest → lbns ≡ index_file_blocks old.image home
  pub whole : IsTrue old.honest → IsPlaced home lbns → IsFileOne old.image home
  pub looked : LooksAlong home 0 old new 0

-- They aren't as they should be.
pub record Strays (home : HomeFields) (old new : Disk) : Type 0 where
  pub misplaced : IsTrue old.honest → ¬ IsIndexFile old.image home
  pub looked : LooksAlong home 0 old new 0
