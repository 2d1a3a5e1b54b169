-- What is noted of an RT-11 volume whose directory has the size that it should have (profile: what is noted, and the codes).
use Rattle.std.specs.Prelude.{◌≡◌, ◌⊎◌, ℕ, ◌<◌, true, List, Some}
use Rattle.std.specs.List.{slice_get}
use Rattle.f11_dev.specs.Image.{Image}
use Rattle.rt11_volume.specs.Directory.{visited, segment_of, IsJudged, end_before}
use Rattle.rt11_volume.specs.Entry.{name_words, is_tentative, is_permanent}
use Rattle.rt11_volume.specs.Verifying.Faults.{IsEntry}
use Rattle.rt11_volume.specs.RtName.{IsRtName}

-- entry i of segment k, which is judged at this place, is that of a file
pub record IsFileEntry (image : Image) (place k i : ℕ) (entry : List ℕ) : Type 0 where
  pub is_entry : IsEntry image place k i entry
  pub permanent : is_permanent entry ≡ true

-- an earlier entry, in link order, is that of a file with the same name: of a segment visited before, or before it in the same one
pub record RepeatsName (image : Image) (place i : ℕ) (entry : List ℕ) : Type 0 where
  pub earlier_place : ℕ
  pub earlier_segment : ℕ
  pub earlier : ℕ
  pub other : List ℕ
  pub visited_at : slice_get (visited image) earlier_place ≡ Some earlier_segment
  pub other_is : slice_get (segment_of image earlier_segment).entries earlier ≡ Some other
  pub permanent : is_permanent other ≡ true
  pub order : (earlier_place < place) ⊎ ((earlier_place ≡ place) × (earlier < i))
  pub same_name : name_words other ≡ name_words entry

-- The notes.
pub data IsDirectoryNote (image : Image) : ℕ → ℕ → ℕ → Type 0 where
  -- entry i of segment k is tentative
  tentative : (place k i : ℕ) (entry : List ℕ) → IsEntry image place k i entry → is_tentative entry ≡ true → IsDirectoryNote image 1 k i
  -- it is that of a file without a name
  no_name : (place k i : ℕ) (entry : List ℕ) → IsFileEntry image place k i entry → ¬ IsRtName (name_words entry) →
      IsDirectoryNote image 2 k i
  -- it repeats a name
  name_repeated : (place k i : ℕ) (entry : List ℕ) → IsFileEntry image place k i entry →
      RepeatsName image place i entry → IsDirectoryNote image 3 k i
  -- the areas of segment k begin behind the end of those before, with a gap
  begins_late : (place k : ℕ) → IsJudged image place k → end_before image place < (segment_of image k).first → IsDirectoryNote image 4 k 0
