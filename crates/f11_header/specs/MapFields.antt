-- The map area of a file header, the bytes from M.ESQN up to the check word (Files-11 On-Disk Structure Level 1, "Map
-- Area").
use Rattle.std.specs.Prelude.{ℕ, ◌-◌, ◌*◌, ◌/◌, ◌%◌, ◌≤◌, ◌==◌, nat_le, min, Bool, ◌&&◌, IsTrue, List, length, slice_index}
use Rattle.f11_store.specs.bytes.Words.{word}
use Rattle.f11_store.specs.declared.files.FileId.{FileId}

-- M.ESQN: the segment number, 0 in the first header of a file
abbrev pub segment : List ℕ → ℕ
segment m = slice_index m 0

-- M.EFNU, M.EFSQ and M.ERVN: the next header of the file; number 0 is none
abbrev pub link : List ℕ → FileId
link m = record { number = word m 2; sequence = word m 4; volume = slice_index m 1 }

-- M.CTSZ and M.LBSZ: the sizes of a retrieval pointer's count and LBN
abbrev pub count_size : List ℕ → ℕ
count_size m = slice_index m 6

abbrev pub lbn_size : List ℕ → ℕ
lbn_size m = slice_index m 7

-- M.USE: how many words of retrieval pointers are in use
abbrev pub words_in_use : List ℕ → ℕ
words_in_use m = slice_index m 8

-- M.MAX: how many there may be
abbrev pub most_words : List ℕ → ℕ
most_words m = slice_index m 9

-- the places for pointers, two words each: what M.MAX allows, and what fits
abbrev pub places : List ℕ → ℕ
places m = min (most_words m) ((length m - 10) / 2) / 2

-- retrieval pointers have format 1 (M.CTSZ is 1 and M.LBSZ is 3), and are whole and no more than there are places for
unfoldable pub holds_pointers : List ℕ → Bool
holds_pointers m =
    count_size m == 1 && (lbn_size m == 3 && (words_in_use m % 2 == 0 && nat_le (words_in_use m) (2 * places m)))

-- a map area lies in a block, has the five words of its fields, and holds retrieval pointers (profile: which fields are tested)
pub record IsMapArea (m : List ℕ) : Type 0 where
  pub in_block : length m ≤ 512
  pub fields : 10 ≤ length m
  pub pointers : IsTrue (holds_pointers m)
