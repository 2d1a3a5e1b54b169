-- What an RT-11 volume keeps: its segments in link order, each a list of areas, and the contents of the areas (RT-11 Volume and File
-- Formats Manual, "Directory Structure").
use Rattle.std.specs.Prelude.{ℕ, Bool, if◌then◌else◌, nat_le, List, [], length, map, slice_index_or}
use Rattle.std.specs.List.{flat_map, range_with_len}
use Rattle.f11_dev.specs.Image.{Image, image_block}
use Rattle.rt11_volume.specs.Directory.{count_of, data_start, extra_of, segment_of, visited}
use Rattle.rt11_volume.specs.Entry.{kind, name_words, area_length, date, is_protected}
use Rattle.rt11_volume.specs.Segment.{Segment, segment_words, highest_segment, area_start}
use Rattle.rt11_volume.specs.declared.area.RtKind.{RtKind}

pub record RtStore : Type 0 where
  -- the number of segments
  pub count : ℕ
  -- the highest in use
  pub highest : ℕ
  -- the extra bytes of each entry
  pub extra : ℕ
  -- the segments in link order
  pub segments : List Segment
  -- the blocks behind the directory by their number; none elsewhere
  pub block : ℕ → List ℕ

-- the store of an image
unfoldable pub rt_store_of : Image → RtStore
rt_store_of image = record {
  count = count_of image;
  highest = highest_segment (segment_words image 1);
  extra = extra_of image;
  segments = map (segment_of image) (visited image);
  block = λ lbn. if nat_le (data_start image) lbn then image_block image lbn else [];
}

-- An area: what its entry says, where it begins, and what stands in its blocks.
pub record Area : Type 0 where
  pub kind : RtKind
  pub name : List ℕ
  pub start : ℕ
  pub length : ℕ
  pub date : ℕ
  pub protected : Bool
  pub contents : List (List ℕ)

-- area i of a segment with this entry
unfoldable pub area_at : RtStore → Segment → ℕ → Area
area_at store seg i =
    let entry = slice_index_or seg.entries i [] in
    record {
      kind = kind entry;
      name = name_words entry;
      start = area_start seg i;
      length = area_length entry;
      date = date entry;
      protected = is_protected entry;
      contents = map store.block (range_with_len (area_start seg i) (area_length entry));
    }

-- the areas of a store, in the order of the segments and of their entries
unfoldable pub areas_of : RtStore → List Area
areas_of store = flat_map (λ seg. map (area_at store seg) (range_with_len 0 (length seg.entries))) store.segments
