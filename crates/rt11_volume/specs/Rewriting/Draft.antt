-- A segment that is being written.
use Rattle.std.specs.Prelude.{◌≡◌, ℕ, ◌+◌, ◌/◌, false, List, ◌++◌, length, map, take, replicate, slice_range}
use Rattle.std.specs.List.{flat_map}
use Rattle.rt11_volume.specs.Entry.{is_end, status}
use Rattle.rt11_volume.specs.Segment.{extra_bytes, entries, HasEnd}
use Rattle.rt11_volume.specs.declared.rewrite.draft.Draft.{Draft}

-- the words so far
abbrev pub draft_words : Draft → List ℕ
draft_words d = take d.at d.segment

-- the words of entries, one after another
abbrev pub words_of_all : List (List ℕ) → List ℕ
words_of_all es = flat_map (λ e. e) es

-- A draft has more words.
pub record Puts (old new : Draft) (words : List ℕ) (count : ℕ) : Type 0 where
  pub words_are : draft_words new ≡ draft_words old ++ words
  pub at_is : new.at ≡ old.at + count

-- A segment has the header of another, and these entries and an end mark.
pub record IsRewritten (header : List ℕ) (es : List (List ℕ)) (new : List ℕ) : Type 0 where
  pub header_is : take 5 new ≡ header
  pub entries_are : entries (extra_bytes new) new ≡ es
  pub ends : HasEnd (extra_bytes new) new

-- an entry made of its first seven words, with no extra words
abbrev pub made_entry : ℕ → List ℕ → List ℕ
made_entry extra head = head ++ replicate (extra / 2) 0

-- the first seven words of an entry that is made, which is no end mark
pub record IsHead (head : List ℕ) : Type 0 where
  pub size : length head ≡ 7
  pub no_end : is_end (status head) ≡ false

-- some of the entries of a segment, then those that are made, and then some more
abbrev pub assembled : ℕ → List (List ℕ) → ℕ → ℕ → List (List ℕ) → ℕ → ℕ → List (List ℕ)
assembled extra es a first heads end b = slice_range es a first ++ (map (made_entry extra) heads ++ slice_range es end b)
