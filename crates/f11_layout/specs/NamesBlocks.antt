-- Blocks in a row, named in a header (Files-11 On-Disk Structure Level 1, "Retrieval Pointers").
use Rattle.std.specs.Prelude.{◌≡◌, ℕ, IsTrue, List, []}
use Rattle.std.specs.List.{range_with_len}
use Rattle.f11_bytes.specs.Words.{word_sum}
use Rattle.f11_map.specs.header.Fields.{check_word, map_area}
use Rattle.f11_map.specs.header.Header.{holds_header, header_in, header_with}
use Rattle.f11_map.specs.header.MapFields.{places}
use Rattle.f11_map.specs.header.Writing.{KeepsHeader}
use Rattle.f11_map.specs.MapArea.{runs_of, blocks_of}
use Rattle.f11_map.specs.MapWriting.{fewest_runs, WritesPointers}

-- a sealed header with 102 places for pointers names no block
pub record HasNoPointers (b : List ℕ) : Type 0 where
  pub holds : IsTrue (holds_header b)
  pub sum : check_word b ≡ word_sum b 255
  pub room : places (map_area b) ≡ 102
  pub none : runs_of (map_area b) ≡ []

-- Blocks are named, `count` of them from LBN `first` on, by as few pointers as can be, and the header says all else as before; it
-- is sealed.
pub record NamesBlocks (first count : ℕ) (old new : List ℕ) : Type 0 where
  pub keeps : KeepsHeader old new
  pub sum : check_word new ≡ word_sum new 255
  pub fields : header_in new ≡ header_with (λ h. record h { map = map_area new }) old
  pub room : places (map_area new) ≡ 102
  pub pointers : runs_of (map_area new) ≡ fewest_runs first count
  pub blocks : blocks_of (map_area new) ≡ range_with_len first count
  pub rest : WritesPointers (map_area old) (map_area new)
