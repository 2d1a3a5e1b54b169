-- The faults of an RT-11 volume, each with its code and two numbers (profile: which they are, and their codes).
use Rattle.std.specs.Prelude.{◌≡◌, ◌⊎◌, ℕ, ◌+◌, ◌<◌, ◌≤◌, true, false, List, length, min, Some}
use Rattle.std.specs.List.{slice_get}
use Rattle.f11_dev.specs.Image.{Image}
use Rattle.rt11_volume.specs.Directory.{count_of, next_of, visited, is_extra_wrong, segment_of, IsJudged, end_before}
use Rattle.rt11_volume.specs.Entry.{status, is_one_kind}
use Rattle.rt11_volume.specs.Segment.{segment_words, highest_segment, extra_bytes, HasEnd, area_start}

-- entry i, from 0, of segment k, which is judged at this place
pub record IsEntry (image : Image) (place k i : ℕ) (entry : List ℕ) : Type 0 where
  pub judged : IsJudged image place k
  pub entry_is : slice_get (segment_of image k).entries i ≡ Some entry

-- the segment visited at this place links to one that was visited before it, or to itself
pub record LinksBack (image : Image) (place k : ℕ) : Type 0 where
  pub earlier : ℕ
  pub order : earlier ≤ place
  pub visited_at : slice_get (visited image) earlier ≡ Some (next_of image k)

-- segment k is visited, and its extra bytes are wrong
pub record IsWrong (image : Image) (k : ℕ) : Type 0 where
  pub place : ℕ
  pub visited_at : slice_get (visited image) place ≡ Some k
  pub wrong : is_extra_wrong image k ≡ true

-- the end of area i is past the device, or past block 65534, which is the last that a directory may give away
abbrev pub EndsOutside : Image → ℕ → ℕ → Type 0
EndsOutside image k i = min (length image) 65535 < area_start (segment_of image k) (i + 1)

-- segment 1 says that the highest segment in use is one below a visited one
pub record IsHighestBelow (image : Image) : Type 0 where
  pub place : ℕ
  pub segment : ℕ
  pub visited_at : slice_get (visited image) place ≡ Some segment
  pub below : highest_segment (segment_words image 1) < segment

-- or one above the number of segments
abbrev pub IsHighestAbove : Image → Type 0
IsHighestAbove image = count_of image < highest_segment (segment_words image 1)

-- The faults of a volume whose directory has the size that it should have.
pub data IsDirectoryFault (image : Image) : ℕ → ℕ → ℕ → Type 0 where
  -- segment k links to one that there isn't
  links_outside : (place k : ℕ) → IsJudged image place k → count_of image < next_of image k → IsDirectoryFault image 2 k 0
  -- segment k links back
  links_back : (place k : ℕ) → IsJudged image place k → LinksBack image place k → IsDirectoryFault image 3 k 0
  -- segment k has wrong extra bytes, and nothing of it or behind it is judged
  extra_wrong : (k : ℕ) → IsWrong image k → IsDirectoryFault image 4 k 0
  -- segment k has no end mark
  no_end : (place k : ℕ) → IsJudged image place k →
      ¬ HasEnd (extra_bytes (segment_words image k)) (segment_words image k) → IsDirectoryFault image 5 k 0
  -- entry i of segment k isn't of one kind
  status_wrong : (place k i : ℕ) (entry : List ℕ) → IsEntry image place k i entry →
      is_one_kind (status entry) ≡ false → IsDirectoryFault image 6 k i
  -- its area ends outside
  area_outside : (place k i : ℕ) (entry : List ℕ) → IsEntry image place k i entry → EndsOutside image k i → IsDirectoryFault image 7 k i
  -- segment k begins too early
  begins_early : (place k : ℕ) → IsJudged image place k → (segment_of image k).first < end_before image place → IsDirectoryFault image 8 k 0
  -- the highest segment in use is wrong, where no segment's extra bytes are
  highest_wrong : ((k : ℕ) → ¬ IsWrong image k) → IsHighestBelow image ⊎ IsHighestAbove image → IsDirectoryFault image 9 0 0
