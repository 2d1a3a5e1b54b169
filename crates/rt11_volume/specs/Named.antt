-- The files of an RT-11 volume by their names (RT-11 Volume and File Formats Manual, "Directory Structure"; profile: a name means the
-- first).
use Rattle.std.specs.Prelude.{ℕ, ◌+◌, List, [], ◌∷◌, map, filter, flat_map}
use Rattle.std.specs.List.{range_with_len}
use Rattle.rt11_volume.specs.Entry.{kind, name_words, area_length, date, is_protected, is_file_named}
use Rattle.rt11_volume.specs.Segment.{Segment}
use Rattle.rt11_volume.specs.Store.{RtStore, Area}

-- An entry, and where its area begins.
pub record Placed : Type 0 where
  pub entry : List ℕ
  pub start : ℕ

-- entries whose areas lie one behind another, the first at this block
unfoldable pub placed : ℕ → List (List ℕ) → List Placed
placed start [] = []
placed start (e ∷ es) = record { entry = e; start = start } ∷ placed (start + area_length e) es

-- those of these segments
unfoldable pub placed_in : List Segment → List Placed
placed_in segments = flat_map (λ seg. placed seg.first seg.entries) segments

-- the area that an entry stands for, where these are the blocks
abbrev pub area_of : (ℕ → List ℕ) → Placed → Area
area_of block p = record {
  kind = kind p.entry;
  name = name_words p.entry;
  start = p.start;
  length = area_length p.entry;
  date = date p.entry;
  protected = is_protected p.entry;
  contents = map block (range_with_len p.start (area_length p.entry));
}

-- the files of this name, in the order of the segments and of their entries: the name means the first
unfoldable pub files_named : List ℕ → RtStore → List Area
files_named name store = map (area_of store.block) (filter (λ p. is_file_named name p.entry) (placed_in store.segments))
