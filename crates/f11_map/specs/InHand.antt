-- What calls on a header in hand leave: a block that holds a header, valid or valid but for its check word.
use Rattle.std.specs.Prelude.{◌≡◌, ℕ, ◌+◌, ◌++◌, List, length, take}
use Rattle.std.specs.List.{range_with_len}
use Rattle.f11_header.specs.Fields.{ident_room, map_area}
use Rattle.f11_header.specs.Header.{header_in, header_with}
use Rattle.f11_header.specs.Writing.{IsSealed}
use Rattle.f11_map.specs.MapArea.{runs_of, blocks_of}
use Rattle.f11_map.specs.MapWriting.{with_blocks, fewest_runs, cut_to, WritesPointers, WritesLink}
use Rattle.f11_header.specs.store.File.{run_pointers}
use Rattle.f11_header.specs.store.declared.files.FileId.{FileId}

-- The block is sealed, and holds the same header with another map area: number, sequence number, owner, protection,
-- characteristics, user attributes and ident area are as they were, and so is each byte behind the ident area's offset.
pub record RewritesMap (old new : List ℕ) : Type 0 where
  pub seals : IsSealed old new
  pub fields : header_in new ≡ header_with (λ h. record h { map = map_area new }) old
  pub ident : ident_room new ≡ ident_room old

-- it names these blocks too, behind its others
pub record AppendsBlocks (old new : List ℕ) (lbn count : ℕ) : Type 0 where
  pub header : RewritesMap old new
  pub pointers : runs_of (map_area new) ≡ with_blocks (runs_of (map_area old)) lbn count
  pub blocks : blocks_of (map_area new) ≡ blocks_of (map_area old) ++ range_with_len lbn count
  pub rest : WritesPointers (map_area old) (map_area new)

-- it names these blocks too, behind its others, by the fewest pointers that can name them, all of them new
pub record AppendsRuns (old new : List ℕ) (lbn count : ℕ) : Type 0 where
  pub header : RewritesMap old new
  pub pointers : runs_of (map_area new) ≡ runs_of (map_area old) ++ fewest_runs lbn count
  pub more : length (runs_of (map_area new)) ≡ length (runs_of (map_area old)) + run_pointers count
  pub blocks : blocks_of (map_area new) ≡ blocks_of (map_area old) ++ range_with_len lbn count
  pub rest : WritesPointers (map_area old) (map_area new)

-- it names the first so many of its blocks
pub record CutsBlocks (old new : List ℕ) (place : ℕ) : Type 0 where
  pub header : RewritesMap old new
  pub pointers : runs_of (map_area new) ≡ cut_to (runs_of (map_area old)) place
  pub blocks : blocks_of (map_area new) ≡ take place (blocks_of (map_area old))
  pub rest : WritesPointers (map_area old) (map_area new)

-- the next header of the file is another, and its blocks are as they were
pub record SetsLink (old new : List ℕ) (id : FileId) : Type 0 where
  pub header : RewritesMap old new
  pub link : WritesLink (map_area old) (map_area new) id
  pub pointers : runs_of (map_area new) ≡ runs_of (map_area old)
