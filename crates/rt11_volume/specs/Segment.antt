-- A segment of an RT-11 directory: two blocks, seen as 512 words (RT-11 Volume and File Formats Manual, "Directory Segments").
use Rattle.std.specs.Prelude.{ℕ, ◌+◌, ◌*◌, ◌/◌, ◌<◌, IsTrue, List, ◌++◌, map, take, sum_by, slice_index, slice_range}
use Rattle.std.specs.List.{before_first, range_with_len}
use Rattle.f11_bytes.specs.Words.{word}
use Rattle.f11_dev.specs.Image.{Image, image_block}
use Rattle.rt11_volume.specs.Entry.{entry_size, status, area_length, is_end}

-- the first of the two blocks of segment k, from 1: segment 1 is in blocks 6 and 7 (profile: it always is), and each other one in the
-- next two
abbrev pub segment_lbn : ℕ → ℕ
segment_lbn k = 4 + 2 * k

-- the words of 1024 bytes
unfoldable pub words_in : List ℕ → List ℕ
words_in bytes = map (λ i. word bytes (2 * i)) (range_with_len 0 512)

-- the words of segment k
unfoldable pub segment_words : Image → ℕ → List ℕ
segment_words image k = words_in (image_block image (segment_lbn k) ++ image_block image (segment_lbn k + 1))

-- The header of a segment is its first five words.
-- how many segments there are, which counts in segment 1 alone
abbrev pub segment_count : List ℕ → ℕ
segment_count s = slice_index s 0

-- the number of the next segment; 0 is none
abbrev pub next_segment : List ℕ → ℕ
next_segment s = slice_index s 1

-- the highest segment in use, which counts in segment 1 alone
abbrev pub highest_segment : List ℕ → ℕ
highest_segment s = slice_index s 2

-- the extra bytes of each entry
abbrev pub extra_bytes : List ℕ → ℕ
extra_bytes s = slice_index s 3

-- the first block of the segment's areas
abbrev pub first_block : List ℕ → ℕ
first_block s = slice_index s 4

-- where entry i stands, from 0, behind the header, if each has so many extra bytes
abbrev pub entry_place : ℕ → ℕ → ℕ
entry_place extra i = 5 + i * entry_size extra

-- the words of entry i
abbrev pub entry_words : ℕ → List ℕ → ℕ → List ℕ
entry_words extra s i = slice_range s (entry_place extra i) (entry_place extra (i + 1))

-- how many whole entries have room in a segment
abbrev pub entry_room : ℕ → ℕ
entry_room extra = 507 / entry_size extra

-- the entries of a segment: the whole ones before the first end mark
unfoldable pub entries : ℕ → List ℕ → List (List ℕ)
entries extra s = before_first (λ e. is_end (status e)) (map (entry_words extra s) (range_with_len 0 (entry_room extra)))

-- A segment has an end: an end mark stands where an entry's status would, if only in the space behind the last whole entry.
pub record HasEnd (extra : ℕ) (s : List ℕ) : Type 0 where
  pub place : ℕ
  pub within : entry_place extra place < 512
  pub end : IsTrue (is_end (slice_index s (entry_place extra place)))

-- a segment as its words say: the first block of its areas, and its entries
pub record Segment : Type 0 where
  pub number : ℕ
  pub first : ℕ
  pub entries : List (List ℕ)

-- segment k with these words
abbrev pub segment_with : ℕ → List ℕ → Segment
segment_with k s = record { number = k; first = first_block s; entries = entries (extra_bytes s) s }

-- where area i of a segment begins: each follows the one before it
abbrev pub area_start : Segment → ℕ → ℕ
area_start seg i = seg.first + sum_by area_length (take i seg.entries)

-- where its areas end
abbrev pub areas_end : Segment → ℕ
areas_end seg = seg.first + sum_by area_length seg.entries
