-- A new last header of a file, and what is done with a run of blocks: the last header names them, or links to a new one that does (Files-11
-- On-Disk Structure Level 1, "File Header" and "Map Area"; profile: what a header that is added says).
use Rattle.std.specs.Prelude.{◌≡◌, [], ℕ, ◌+◌, ◌-◌, ◌<◌, ◌≤◌, true, IsTrue, List, ◌∷◌, replicate}
use Rattle.std.specs.List.{range_with_len}
use Rattle.f11_chain.specs.Calls.{HoldsHeader}
use Rattle.f11_dev.specs.Disk.{Disk}
use Rattle.f11_dev.specs.Image.{Image}
use Rattle.f11_header.specs.Fields.{file_sequence, owner, protection, characteristics, attributes, ident_room}
use Rattle.f11_header.specs.Header.{IsHeader}
use Rattle.f11_index.specs.Calls.{SetsBit}
use Rattle.f11_map.specs.HeaderBlock.{segment_number, blocks_named, LinksToNone}
use Rattle.f11_index.specs.Kept.{room}
use Rattle.f11_index.specs.Table.{table_of}
use Rattle.f11_store.specs.Changes.{with_slots}
use Rattle.f11_store.specs.File.{run_pointers}
use Rattle.f11_store.specs.Store.{least_free}
use Rattle.f11_store.specs.declared.files.FileId.{FileId}
use Rattle.f11_image_store.specs.Allocation.{AddsFileless, AddsZeroSlots, NamesMore}
use Rattle.f11_files.specs.Answers.{WritesAtMost}
use Rattle.f11_image_store.specs.Confines.{new_header}
use Rattle.f11_store.specs.Pieces.{with_more_free}
use Rattle.f11_image_store.specs.FileLaws.{pointers_in, room_in}
use Rattle.f11_files.specs.Extending.Growing.{WhileTaking, GrowingInto, Grew, SameFree}
use Rattle.f11_files.specs.Extending.Link.{MayFollow}
use Rattle.f11_image_store.specs.StoreOf.{store_of}
use Rattle.f11_files.specs.Structure.{index_in, bitmap_in, home_of, store_on}
use Rattle.f11_files.specs.Extending.Tail.{HoldsLast, ownership_of, whose}
use Rattle.f11_files.specs.Extending.Zeros.{HoldsZeros}
use Rattle.f11_files.specs.declared.structure.Structure.{Structure}
use Rattle.f11_files.specs.declared.extend.tail.Tail.{Tail}

-- A block is a valid header for the run, in a file behind its last one: it has the owner and the protection of the file, no
-- characteristics, attributes and an ident area of zeros, no more pointers in 102 places than one run takes, and no link.
pub record IsExtension (tail : Tail) (id : FileId) (lbn count : ℕ) (block : List ℕ) : Type 0 where
  pub valid : IsHeader block id.number
  pub sequence : file_sequence block ≡ id.sequence
  pub owner_is : owner block ≡ tail.owner
  pub protection_is : protection block ≡ tail.protection
  pub no_characteristics : characteristics block ≡ 0
  pub no_attributes : attributes block ≡ replicate 32 0
  pub no_ident : ident_room block ≡ replicate 46 0
  pub segment : segment_number block ≡ segment_number tail.block + 1
  pub no_link : LinksToNone block
  pub names : blocks_named block ≡ range_with_len lbn count
  pub some : 0 < pointers_in block
  pub few : pointers_in block ≤ run_pointers count
  pub room : room_in block ≡ 102 - pointers_in block

-- The bit of header n's slot, which was 0, is 1; else the index file and where the storage bitmap is are kept as they were.
pub record TakesSlot (s after : Structure) (n : ℕ) : Type 0 where
  pub was_new : new_header (index_in s) n ≡ true
  pub bit : SetsBit true n (index_in s) (index_in after)
  pub bitmap : bitmap_in after ≡ bitmap_in s

-- It was written into the least free slot, and then its bit: the file's last header may link to it.
pub record EntersHeader (s after : Structure) (tail : Tail) (lbn count : ℕ) (id : FileId) (block : List ℕ) (old new : Disk) : Type 0 where
  pub extension : IsExtension tail id lbn count block
  pub holds : HoldsHeader (index_in after) id.number block new
  pub follows : IsTrue old.honest → MayFollow (table_of new.image (home_of s)) tail id
  pub last : HoldsLast after tail new
  pub zeros : IsTrue old.honest → HoldsZeros new.image lbn count
  pub bitmap : bitmap_in after ≡ bitmap_in s
  pub left : room after.index ≡ room s.index
  pub free : IsTrue old.honest → SameFree (home_of s) old.image new.image
  pub adds :
      IsTrue old.honest → AddsFileless tail.file.number id.number (ownership_of tail) (table_of old.image (home_of s))
      (table_of new.image (home_of s))
  pub slots : IsTrue old.honest → AddsZeroSlots (table_of old.image (home_of s)) (table_of new.image (home_of s))
  pub slot : IsTrue old.honest → id.number ≡ least_free (store_on s old)
  pub store : IsTrue old.honest → store_of new.image (home_of s) ≡ with_slots (store_on s old) (id.number ∷ [])
  pub writes : WritesAtMost (WhileTaking (home_of s) 0 1 (store_on s old) old) 3 old new 0

-- what stands while a file is given so many blocks that were marked used before
abbrev pub AppendingRun : Structure → Tail → ℕ → Disk → Image → Type 0
AppendingRun s tail count old =
    GrowingInto (home_of s) (store_on s old) (with_more_free (store_on s old) count) tail.file.number count (run_pointers count) old

-- It has them, from `lbn` on: its last header is in hand.
pub record AppendsRun (s after : Structure) (tail later : Tail) (lbn count most : ℕ) (old new : Disk) : Type 0 where
  pub file : whose later ≡ whose tail
  pub last : HoldsLast after later new
  pub bitmap : bitmap_in after ≡ bitmap_in s
  pub left : room s.index ≤ room after.index + count
  pub free : IsTrue old.honest → SameFree (home_of s) old.image new.image
  pub names :
      IsTrue old.honest →
      NamesMore tail.file.number (ownership_of tail) (range_with_len lbn count) (table_of old.image (home_of s))
      (table_of new.image (home_of s))
  pub slots : IsTrue old.honest → AddsZeroSlots (table_of old.image (home_of s)) (table_of new.image (home_of s))
  pub grew :
      Grew (AppendingRun s tail count old) (home_of s) (with_more_free (store_on s old) count) tail.file.number count (run_pointers count)
      most old
      new
