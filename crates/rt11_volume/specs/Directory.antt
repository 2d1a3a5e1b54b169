-- The directory of an RT-11 volume: its segments in link order (RT-11 Volume and File Formats Manual, "Directory Structure").
use Rattle.std.specs.Prelude.{
  ◌≡◌,
  ◌⊎◌,
  ℕ,
  zero,
  suc,
  ◌+◌,
  ◌*◌,
  ◌%◌,
  ◌<◌,
  ◌≤◌,
  ◌==◌,
  ◌&&◌,
  ◌||◌,
  Bool,
  false,
  not,
  nat_le,
  nat_lt,
  if◌then◌else◌,
  List,
  [],
  ◌∷◌,
  ◌++◌,
  length,
  Some,
  slice_index,
}
use Rattle.std.specs.List.{list_any, slice_get}
use Rattle.f11_dev.specs.Image.{Image, image_block}
use Rattle.rt11_volume.specs.Segment.{Segment, segment_words, segment_count, next_segment, extra_bytes, segment_with, areas_end}

-- how many segments the directory has, as segment 1 says
abbrev pub count_of : Image → ℕ
count_of image = segment_count (segment_words image 1)

-- the first block behind the directory
abbrev pub start_of : ℕ → ℕ
start_of segments = 6 + 2 * segments

-- that of an image
abbrev pub data_start : Image → ℕ
data_start image = start_of (count_of image)

-- A directory of so many segments has 1 to 31, and they are on a device of so many blocks (profile).
pub record HasSize (count blocks : ℕ) : Type 0 where
  pub some : 0 < count
  pub few : count ≤ 31
  pub within : 6 + 2 * count ≤ blocks

-- the directory of an image has the size that it should have
abbrev pub IsSized : Image → Type 0
IsSized image = HasSize (count_of image) (length image)

-- the segment that segment k links to
abbrev pub next_of : Image → ℕ → ℕ
next_of image k = next_segment (segment_words image k)

-- the extra bytes of each entry, as segment 1 says
abbrev pub extra_of : Image → ℕ
extra_of image = extra_bytes (segment_words image 1)

-- whether the extra bytes that a segment tells are wrong: odd, over 128, or not those of segment 1 (profile)
abbrev pub are_extra_wrong : ℕ → ℕ → Bool
are_extra_wrong first extra = extra % 2 == 1 || (nat_lt 128 extra || not (extra == first))

-- whether those of segment k are
abbrev pub is_extra_wrong : Image → ℕ → Bool
is_extra_wrong image k = are_extra_wrong (extra_of image) (extra_bytes (segment_words image k))

-- whether a link leads on: to a segment that there is, of so many, and that is none of those seen
abbrev pub is_link_on : ℕ → List ℕ → ℕ → Bool
is_link_on count seen next = not (next == 0) && (nat_le next count && not (list_any (λ j. j == next) seen))

-- whether the walk goes on behind segment k, which is the last of those seen: its extra bytes aren't wrong, and its link leads on
abbrev pub goes_on : Image → List ℕ → ℕ → Bool
goes_on image seen k = not (is_extra_wrong image k) && is_link_on (count_of image) seen (next_of image k)

-- those seen, segment k, and the segments that follow it, as long as the walk goes on, and so many at most
unfoldable pub walked : ℕ → Image → List ℕ → ℕ → List ℕ
walked zero image seen k = seen
walked (suc most) image seen k =
    if goes_on image (seen ++ k ∷ []) k then walked most image (seen ++ k ∷ []) (next_of image k) else seen ++ k ∷ []

-- the segments that are visited: segment 1 and those that follow, of which there are 31 at most
abbrev pub visited : Image → List ℕ
visited image = walked 31 image [] 1

-- segment k of an image
abbrev pub segment_of : Image → ℕ → Segment
segment_of image k = segment_with k (segment_words image k)

-- Segment k is visited at this place, from 0, and judged: its extra bytes aren't wrong. (One whose extra bytes are wrong ends the walk.)
pub record IsJudged (image : Image) (place k : ℕ) : Type 0 where
  pub visited_at : slice_get (visited image) place ≡ Some k
  pub right : is_extra_wrong image k ≡ false

-- the end of the areas before those of the segment visited at this place: of the directory, or of the segment visited before it
unfoldable pub end_before : Image → ℕ → ℕ
end_before image zero = data_start image
end_before image (suc place) = areas_end (segment_of image (slice_index (visited image) place))

-- no block but those of the directory is another than it was
abbrev pub KeepsData : ℕ → Image → Image → Type 0
KeepsData segments old new = (lbn : ℕ) → (lbn < 6) ⊎ (start_of segments ≤ lbn) → image_block new lbn ≡ image_block old lbn
