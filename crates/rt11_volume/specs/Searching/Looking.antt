-- What is looked for in a directory, and what was found.
use Rattle.std.specs.Prelude.{
  ◌≡◌,
  ℕ,
  ◌+◌,
  ◌-◌,
  ◌<◌,
  take,
  slice_range,
  Bool,
  true,
  false,
  List,
  [],
  length,
  map,
  Option,
  Some,
  None,
  slice_index_or,
}
use Rattle.std.specs.List.{slice_get}
use Rattle.f11_dev.specs.Disk.{Disk}
use Rattle.f11_dev.specs.Image.{Image}
use Rattle.f11_dev.specs.Looked.{Looked}
use Rattle.rt11_volume.specs.Directory.{segment_of, visited}
use Rattle.rt11_volume.specs.Entry.{is_file_named}
use Rattle.rt11_volume.specs.InHand.{ReadsSegment, WritesSegment}
use Rattle.rt11_volume.specs.Rewriting.Draft.{IsRewritten}
use Rattle.rt11_volume.specs.Operations.{with_file}
use Rattle.rt11_volume.specs.declared.rewrite.edit.NewFile.{NewFile}
use Rattle.rt11_volume.specs.Searching.Search.{is_empty_for, HasNone}
use Rattle.rt11_volume.specs.Segment.{Segment, segment_lbn, segment_words, segment_with, extra_bytes}
use Rattle.rt11_volume.specs.Verifying.Verdict.{IsSoundDisk}
use Rattle.rt11_volume.specs.declared.lookup.entry.Found.{Found}
use Rattle.rt11_volume.specs.declared.lookup.entry.Wanted.{Wanted}
use Rattle.rt11_volume.specs.declared.lookup.entry.Wanted.TheVariants.{File, Area}

-- the segments of an image in link order
abbrev pub segments_of : Image → List Segment
segments_of image = map (segment_of image) (visited image)

-- whether an entry is what is looked for: that of a file of this name, or of an empty area of at least so many blocks
abbrev pub is_wanted : Wanted → List ℕ → Bool
is_wanted (File name) = is_file_named name
is_wanted (Area blocks) = is_empty_for blocks

-- a device of so many blocks has a segment of this number
pub record IsOnDevice (number blocks : ℕ) : Type 0 where
  pub some : 0 < number
  pub within : segment_lbn number + 1 < blocks

-- the segment of this number was read, or there is none
abbrev pub Visits : ℕ → Option (List ℕ) → Disk → Disk → Type 0
Visits number (Some words) old new = IsOnDevice number (length old.image) × ReadsSegment number words old new
Visits number None old new = (IsOnDevice number (length old.image) → ⊥) × (new ≡ old)

-- Entry i is the first that passes.
pub record IsFirstIn (test : List ℕ → Bool) (es : List (List ℕ)) (i : ℕ) : Type 0 where
  pub inside : i < length es
  pub passes : test (slice_index_or es i []) ≡ true
  pub none_before : (k : ℕ) → k < i → test (slice_index_or es k []) ≡ false

-- the place of the first that passes, or none does
abbrev pub IsPlaceIn : (List ℕ → Bool) → List (List ℕ) → Option ℕ → Type 0
IsPlaceIn test es (Some i) = IsFirstIn test es i
IsPlaceIn test es None = (k : ℕ) → k < length es → test (slice_index_or es k []) ≡ false

-- the segment in hand in which an entry was found
abbrev pub found_segment : Found → Segment
found_segment found = segment_with found.number found.segment

-- the entry that was found
abbrev pub found_entry : Found → List ℕ
found_entry found = slice_index_or (found_segment found).entries found.i []

-- The first such entry of an image, in link order, was found.
pub record IsFirstFound (test : List ℕ → Bool) (image : Image) (found : Found) : Type 0 where
  pub place : ℕ
  pub visited_at : slice_get (visited image) place ≡ Some found.number
  pub words_are : found.segment ≡ segment_words image found.number
  pub first : IsFirstIn test (segment_of image found.number).entries found.i
  pub none_earlier : (earlier k : ℕ) → earlier < place → slice_get (visited image) earlier ≡ Some k →
      IsPlaceIn test (segment_of image k).entries None

-- It was found; it stands in the segment in hand on any disk.
pub record FindsFirst (wanted : Wanted) (found : Found) (old new : Disk) : Type 0 where
  pub inside : found.i < length (found_segment found).entries
  pub on_device : IsOnDevice found.number (length old.image)
  pub is_first : IsSoundDisk old → IsFirstFound (is_wanted wanted) old.image found
  pub looked : Looked old new 62 0

-- There is none.
pub record FindsNone (wanted : Wanted) (old new : Disk) : Type 0 where
  pub none : IsSoundDisk old → HasNone (is_wanted wanted) (segments_of old.image)
  pub looked : Looked old new 62 0

-- what was found
abbrev pub Searches : Wanted → Option Found → Disk → Disk → Type 0
Searches wanted (Some found) old new = FindsFirst wanted found old new
Searches wanted None old new = FindsNone wanted old new

-- the first that was found of those so far, if there is one, or that of a segment behind them
abbrev pub IsKept : (List ℕ → Bool) → Option Found → ℕ → List ℕ → Option Found → Type 0
IsKept test (Some found) number words kept = kept ≡ Some found
IsKept test None number words None = IsPlaceIn test (segment_with number words).entries None
IsKept test None number words (Some found) = (found.number ≡ number) × (found.segment ≡ words) ×
    IsFirstIn test (segment_with number words).entries found.i

-- The first empty area of at least so many blocks was found, and no file of the name.
pub record FindsRoom (name : List ℕ) (blocks : ℕ) (found : Found) (disk : Disk) : Type 0 where
  pub inside : found.i < length (found_segment found).entries
  pub on_device : IsOnDevice found.number (length disk.image)
  pub is_first : IsSoundDisk disk → IsFirstFound (is_empty_for blocks) disk.image found
  pub no_file : IsSoundDisk disk → HasNone (is_file_named name) (segments_of disk.image)

-- No such area, and no file of the name.
pub record FindsNoRoom (name : List ℕ) (blocks : ℕ) (disk : Disk) : Type 0 where
  pub no_area : IsSoundDisk disk → HasNone (is_empty_for blocks) (segments_of disk.image)
  pub no_file : IsSoundDisk disk → HasNone (is_file_named name) (segments_of disk.image)

-- what was found, where there is no file of the name
abbrev pub Surveys : List ℕ → ℕ → Option Found → Disk → Type 0
Surveys name blocks (Some found) disk = FindsRoom name blocks found disk
Surveys name blocks None disk = FindsNoRoom name blocks disk

-- The segment in hand was written with a file in the front of an area, and nothing else.
pub record CreatesHere (found : Found) (file : NewFile) (old new : Disk) : Type 0 where
  pub segment : List ℕ
  pub written : WritesSegment found.number segment old new
  pub count : ℕ
  pub count_is : count ≡ length (found_segment found).entries
  pub rewritten : IsRewritten (take 5 found.segment)
      (with_file (extra_bytes found.segment) (slice_range (found_segment found).entries 0 count)
      (found.i - 0) file.name file.blocks file.date) segment
