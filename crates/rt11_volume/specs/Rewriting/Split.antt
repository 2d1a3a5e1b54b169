-- A segment that is split: what is written of it.
use Rattle.std.specs.Prelude.{
  ◌≡◌,
  ◌≢◌,
  ◌≤◌,
  ◌<◌,
  ℕ,
  ◌+◌,
  ◌-◌,
  ◌/◌,
  ◌&&◌,
  nat_le,
  nat_lt,
  if◌then◌else◌,
  IsTrue,
  List,
  [],
  ◌∷◌,
  length,
  slice_index,
  slice_range,
  slice_set,
}
use Rattle.f11_dev.specs.Disk.{Disk}
use Rattle.f11_dev.specs.Image.{Image, image_block}
use Rattle.f11_dev.specs.Looked.{Looked}
use Rattle.f11_dev.specs.Went.{Went}
use Rattle.rt11_volume.specs.Rewriting.Draft.{IsRewritten}
use Rattle.rt11_volume.specs.InHand.{KeepsOthers, WritesSegment}
use Rattle.rt11_volume.specs.Searching.Looking.{found_segment}
use Rattle.rt11_volume.specs.Operations.{with_file}
use Rattle.rt11_volume.specs.Segment.{segment_lbn, segment_words, segment_count, extra_bytes, highest_segment, area_start}
use Rattle.rt11_volume.specs.declared.rewrite.edit.NewFile.{NewFile}
use Rattle.rt11_volume.specs.declared.lookup.entry.Found.{Found}

-- the entries from one to before another, with a file in the front of area i where that is one of them
abbrev pub half_with : ℕ → List (List ℕ) → ℕ → ℕ → ℕ → List ℕ → ℕ → ℕ → List (List ℕ)
half_with extra es a b i name blocks day = if nat_le a i && nat_lt i b then with_file extra (slice_range es a b)
    (i - a) name blocks day else slice_range es a b

-- the header of what stays of a segment, which links to the new one, and that of the new one, whose areas begin at a block; both tell the
-- highest segment in use, which counts in segment 1
abbrev pub front_header : List ℕ → ℕ → List ℕ
front_header s number = slice_index s 0 ∷ number ∷ number ∷ slice_index s 3 ∷ slice_index s 4 ∷ []

abbrev pub back_header : List ℕ → ℕ → ℕ → List ℕ
back_header s number start = slice_index s 0 ∷ slice_index s 1 ∷ number ∷ slice_index s 3 ∷ start ∷ []

-- a block is none of segment k
pub record IsApart (lbn k : ℕ) : Type 0 where
  pub low : lbn ≢ segment_lbn k
  pub high : lbn ≢ segment_lbn k + 1

-- no block but those of segment 1 and of these two is another than it was
abbrev pub KeepsSplit : ℕ → ℕ → Image → Image → Type 0
KeepsSplit k number old new = (lbn : ℕ) → IsApart lbn 1 → IsApart lbn k → IsApart lbn number → image_block new lbn ≡ image_block old lbn

-- The directory has one more segment, where segment 1 is in hand, on a device of so many blocks, and there are entries for both.
pub record HasNext (found : Found) (first : List ℕ) (blocks : ℕ) : Type 0 where
  pub some : 2 ≤ length (found_segment found).entries
  pub room : highest_segment first < segment_count first
  pub low : highest_segment first < 65535
  pub within : segment_lbn (highest_segment first + 1) + 1 < blocks

-- Segment 1 is in hand, read or as the segment that was found.
pub record HoldsFirst (found : Found) (words : List ℕ) (old new : Disk) : Type 0 where
  pub words_are : IsTrue old.honest → found.segment ≡ segment_words old.image found.number → words ≡ segment_words old.image 1
  pub looked : Looked old new 2 0

-- Segment 1 was written with these words, unless it is segment k, which is yet to be written; and nothing else was.
pub record WritesFirst (k : ℕ) (words : List ℕ) (old new : Disk) : Type 0 where
  pub words_are : 1 ≢ k → segment_words new.image 1 ≡ words
  pub kept : KeepsOthers 1 old.image new.image
  pub went : Went (KeepsOthers 1 old.image) old new 2 0

-- The segment in hand was split: the new segment was written, then segment 1 with the highest in use, and then what stays.
pub record SplitsHere (found : Found) (first : List ℕ) (number : ℕ) (file : NewFile) (old new : Disk) : Type 0 where
  pub one : Disk
  pub two : Disk
  pub front : List ℕ
  pub back : List ℕ
  pub count : ℕ
  pub kept : ℕ
  pub start : ℕ
  pub count_is : count ≡ length (found_segment found).entries
  pub kept_is : kept ≡ count / 2
  pub start_is : area_start (found_segment found) kept ≤ 65535 → start ≡ area_start (found_segment found) kept
  pub number_is : number ≡ highest_segment first + 1
  pub wrote_back : WritesSegment number back old one
  pub wrote_first : WritesFirst found.number (slice_set first 2 number) one two
  pub wrote_front : WritesSegment found.number front two new
  pub back_is : IsRewritten (back_header found.segment number start)
      (half_with (extra_bytes found.segment) (found_segment found).entries kept count found.i file.name file.blocks file.date) back
  pub front_is : IsRewritten (front_header found.segment number)
      (half_with (extra_bytes found.segment) (found_segment found).entries 0 kept found.i file.name file.blocks file.date) front
