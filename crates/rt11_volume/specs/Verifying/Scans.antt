-- What each scan of a directory finds, of the faults and of the notes: of an entry, of a segment, and of the directory.
use Rattle.std.specs.Prelude.{
  ◌≡◌,
  ◌⊎◌,
  ℕ,
  ◌+◌,
  ◌<◌,
  true,
  false,
  List,
  [],
  length,
  min,
  slice_index,
  slice_index_or,
}
use Rattle.f11_dev.specs.Image.{Image}
use Rattle.f11_findings.specs.Finding.{finding}
use Rattle.f11_findings.specs.Found.{Where, Either, FoundOfEach}
use Rattle.rt11_volume.specs.Directory.{count_of, next_of, visited, is_extra_wrong, segment_of, end_before}
use Rattle.rt11_volume.specs.Entry.{status, name_words, is_one_kind, is_tentative, is_permanent}
use Rattle.rt11_volume.specs.InHand.{visit_at}
use Rattle.rt11_volume.specs.RtName.{IsRtName}
use Rattle.rt11_volume.specs.Segment.{Segment, segment_words, extra_bytes, entries, HasEnd, area_start}
use Rattle.rt11_volume.specs.declared.directory.Visited.{Visited}
use Rattle.rt11_volume.specs.Verifying.Faults.{LinksBack, IsWrong, IsHighestBelow, IsHighestAbove}
use Rattle.rt11_volume.specs.Verifying.Notes.{RepeatsName}

-- the number of the segment visited at a place
abbrev pub number_at : Image → ℕ → ℕ
number_at image place = slice_index (visited image) place

-- entry i of a segment
abbrev pub entry_of : Segment → ℕ → List ℕ
entry_of seg i = slice_index_or seg.entries i []

-- the entries of the segment in hand that was visited at a place
abbrev pub entries_at : List Visited → ℕ → List (List ℕ)
entries_at vs place = entries (extra_bytes (visit_at vs place).segment) (visit_at vs place).segment

-- the faults of entry i of a segment, on a device of so many blocks
abbrev pub EntryFaults : ℕ → Segment → ℕ → ℕ → ℕ → ℕ → Type 0
EntryFaults blocks seg i = Either (Where (is_one_kind (status (entry_of seg i)) ≡ false) (finding 6 seg.number i))
    (Where (min blocks 65535 < area_start seg (i + 1)) (finding 7 seg.number i))

-- those of the link of segment k, visited at a place
abbrev pub LinkFaults : Image → ℕ → ℕ → ℕ → ℕ → ℕ → Type 0
LinkFaults image place k = Either (Where (count_of image < next_of image k) (finding 2 k 0))
    (Where (LinksBack image place k) (finding 3 k 0))

-- those of its areas
abbrev pub AreaFaults : Image → ℕ → ℕ → ℕ → ℕ → ℕ → Type 0
AreaFaults image place k =
    Either (Where (¬ HasEnd (extra_bytes (segment_words image k)) (segment_words image k)) (finding 5 k 0))
    (Either (Where ((segment_of image k).first < end_before image place) (finding 8 k 0))
    (FoundOfEach (EntryFaults (length image) (segment_of image k)) (length (segment_of image k).entries)))

-- all of the segment: that its extra bytes are wrong, or where they are right those of its link and its areas
abbrev pub SegmentFaults : Image → ℕ → ℕ → ℕ → ℕ → ℕ → Type 0
SegmentFaults image place k = Either (Where (is_extra_wrong image k ≡ true) (finding 4 k 0))
    (λ code a b. (is_extra_wrong image k ≡ false) × Either (LinkFaults image place k) (AreaFaults image place k) code a b)

-- the highest segment in use is wrong, where no segment's extra bytes are
abbrev pub IsHighestWrong : Image → Type 0
IsHighestWrong image = ((k : ℕ) → ¬ IsWrong image k) × (IsHighestBelow image ⊎ IsHighestAbove image)

-- the notes of entry i of segment k, visited at a place
abbrev pub EntryNotes : Image → ℕ → ℕ → ℕ → ℕ → ℕ → ℕ → Type 0
EntryNotes image place k i =
    let e = entry_of (segment_of image k) i in
    Either (Where (is_tentative e ≡ true) (finding 1 k i))
    (Either (Where ((is_permanent e ≡ true) × ¬ IsRtName (name_words e)) (finding 2 k i))
    (Where ((is_permanent e ≡ true) × RepeatsName image place i e) (finding 3 k i)))

-- those of the segment, where its extra bytes are right
abbrev pub SegmentNotes : Image → ℕ → ℕ → ℕ → ℕ → ℕ → Type 0
SegmentNotes image place k code a b = (is_extra_wrong image k ≡ false) × Either
    (Where (end_before image place < (segment_of image k).first) (finding 4 k 0))
    (FoundOfEach (EntryNotes image place k) (length (segment_of image k).entries)) code a b
