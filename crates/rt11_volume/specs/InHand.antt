-- A segment in hand.
use Rattle.std.specs.Prelude.{
  ◌≡◌,
  ◌≢◌,
  ℕ,
  ◌+◌,
  ◌<◌,
  ◌-◌,
  ◌&&◌,
  not,
  if◌then◌else◌,
  IsTrue,
  List,
  [],
  length,
  map,
  Option,
  Some,
  None,
  slice_index_or,
}
use Rattle.f11_dev.specs.Disk.{Disk}
use Rattle.f11_dev.specs.Looked.{Looked}
use Rattle.f11_dev.specs.Went.{Went}
use Rattle.rt11_volume.specs.Entry.{status, name_words, area_length, date}
use Rattle.f11_dev.specs.Image.{Image, image_block}
use Rattle.rt11_volume.specs.Directory.{are_extra_wrong, is_link_on, visited}
use Rattle.rt11_volume.specs.Segment.{segment_lbn, segment_words, segment_count, next_segment, extra_bytes}
use Rattle.rt11_volume.specs.declared.directory.LookFault.{LookFault}
use Rattle.rt11_volume.specs.declared.directory.LookFault.TheVariants.{DeviceFault, NoMemory}
use Rattle.rt11_volume.specs.declared.directory.Visited.{Visited}
use Rattle.rt11_volume.specs.declared.entry.Entry.{Entry}

-- Segment k was read: its words are the image's where the disk is honest.
pub record ReadsSegment (k : ℕ) (words : List ℕ) (old new : Disk) : Type 0 where
  pub words_are : IsTrue old.honest → words ≡ segment_words old.image k
  pub looked : Looked old new 2 0

-- no block but those of segment k is another than it was
abbrev pub KeepsOthers : ℕ → Image → Image → Type 0
KeepsOthers k old new = (lbn : ℕ) → lbn ≢ segment_lbn k → lbn ≢ segment_lbn k + 1 → image_block new lbn ≡ image_block old lbn

-- Segment k was written with these words, and nothing else.
pub record WritesSegment (k : ℕ) (words : List ℕ) (old new : Disk) : Type 0 where
  pub words_are : segment_words new.image k ≡ words
  pub kept : KeepsOthers k old.image new.image
  pub went : Went (KeepsOthers k old.image) old new 2 0

-- What was read of an entry is what its words say.
pub record SaysEntry (entry : Entry) (words : List ℕ) : Type 0 where
  pub status : entry.status ≡ status words
  pub name : entry.name ≡ name_words words
  pub length : entry.length ≡ area_length words
  pub date : entry.date ≡ date words

-- segment k of an image, visited
abbrev pub visit_of : Image → ℕ → Visited
visit_of image k = record { number = k; segment = segment_words image k }

-- the segments of an image that are visited
abbrev pub visits : Image → List Visited
visits image = map (visit_of image) (visited image)

-- none
abbrev pub no_visit : Visited
no_visit = record { number = 0; segment = [] }

-- the one at this place
abbrev pub visit_at : List Visited → ℕ → Visited
visit_at vs i = slice_index_or vs i no_visit

-- the last one
abbrev pub last_visit : List Visited → Visited
last_visit vs = visit_at vs (length vs - 1)

-- the segment that the walk goes on to behind the last one
unfoldable pub link_from : List Visited → Option ℕ
link_from vs =
    let first = (visit_at vs 0).segment in
    let last = (last_visit vs).segment in
    if not (are_extra_wrong (extra_bytes first) (extra_bytes last)) && is_link_on (segment_count first)
    (map (λ v. v.number) vs) (next_segment last)
    then Some (next_segment last) else None

-- All segments were visited, the first of which was in hand.
pub record VisitsAll (first : List ℕ) (found : List Visited) (old new : Disk) : Type 0 where
  pub some : 0 < length found
  pub visits_are : IsTrue old.honest → first ≡ segment_words old.image 1 → found ≡ visits old.image
  pub looked : Looked old new 60 0

-- They weren't, as a transfer failed, or for want of memory.
abbrev pub FailsToVisit : LookFault → Disk → Disk → Type 0
FailsToVisit DeviceFault old new = Looked old new 60 1
FailsToVisit NoMemory old new = Looked old new 60 0
