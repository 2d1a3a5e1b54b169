-- Words of an entry that are written where they stand.
use Rattle.std.specs.Prelude.{◌≡◌, ◌≢◌, ◌⊎◌, ℕ, ◌+◌, ◌/◌, List, length, slice_index}
use Rattle.f11_dev.specs.Image.{Image}
use Rattle.rt11_volume.specs.Entry.{with_words}
use Rattle.rt11_volume.specs.InHand.{KeepsOthers}
use Rattle.rt11_volume.specs.Segment.{entry_place, extra_bytes, segment_words}
use Rattle.rt11_volume.specs.declared.lookup.entry.Found.{Found}

-- The block of segment k in which word i stands, 256 words in each, was written with these words, and nothing else was.
pub record HasBlockOf (i k : ℕ) (words : List ℕ) (old new : Image) : Type 0 where
  pub written : (p : ℕ) → p / 256 ≡ i / 256 → slice_index (segment_words new k) p ≡ slice_index words p
  pub stays : (p : ℕ) → p / 256 ≢ i / 256 → slice_index (segment_words new k) p ≡ slice_index (segment_words old k) p
  pub size : length new ≡ length old
  pub kept : KeepsOthers k old new

-- the words of the segment in hand, with some of those of the entry that was found replaced, from this one of it on
abbrev pub overwritten : Found → ℕ → List ℕ → List ℕ
overwritten found from words = with_words found.segment (entry_place (extra_bytes found.segment) found.i + from) words

-- Where the segment in hand was the image's, each of its words is as it was or as it is to be; nothing else is another.
pub record IsOverwriting (found : Found) (from : ℕ) (words : List ℕ) (old image : Image) : Type 0 where
  pub each : found.segment ≡ segment_words old found.number → (p : ℕ) →
      (slice_index (segment_words image found.number) p ≡ slice_index found.segment p)
      ⊎ (slice_index (segment_words image found.number) p ≡ slice_index (overwritten found from words) p)
  pub size : length image ≡ length old
  pub kept : KeepsOthers found.number old image

-- Where it was, it has those words; nothing else is another.
pub record IsOverwritten (found : Found) (from : ℕ) (words : List ℕ) (old new : Image) : Type 0 where
  pub words_are : found.segment ≡ segment_words old found.number → segment_words new found.number ≡ overwritten found from words
  pub size : length new ≡ length old
  pub kept : KeepsOthers found.number old new
