-- The retrieval pointers of a map area, and the blocks that they name (Files-11 On-Disk Structure Level 1, "Map Area" and
-- "Retrieval Pointers").
use Rattle.std.specs.Prelude.{◌≡◌, ℕ, ◌+◌, ◌*◌, ◌/◌, ◌<◌, List, [], ◌∷◌, ◌++◌, length, take, map, slice_index, slice_index_or}
use Rattle.std.specs.List.{range_with_len}
use Rattle.f11_header.specs.bytes.Words.{word}
pub use Rattle.f11_header.specs.MapFields.{segment, link, words_in_use, most_words, places, IsMapArea}

-- retrieval pointer i, of format 1: the high byte of the LBN, the count less one, the low word of the LBN. It names so many
-- blocks from that LBN on.
abbrev pub run_at : List ℕ → ℕ → ℕ × ℕ
run_at m i = (slice_index m (10 + 4 * i) * 65536 + word m (10 + 4 * i + 2), slice_index m (10 + 4 * i + 1) + 1)

-- the pointers, in order: two words each
unfoldable pub runs_of : List ℕ → List (ℕ × ℕ)
runs_of m = map (run_at m) (range_with_len 0 (words_in_use m / 2))

-- the blocks that pointers name, in order
abbrev pub blocks_in : List (ℕ × ℕ) → List ℕ
blocks_in [] = []
blocks_in (run ∷ runs) = range_with_len run.0 run.1 ++ blocks_in runs

-- the blocks that the map area names, in order
abbrev pub blocks_of : List ℕ → List ℕ
blocks_of m = blocks_in (runs_of m)

-- block number `place` of those that pointers name, from 0, is block number `left` of pointer i
pub record LiesIn (runs : List (ℕ × ℕ)) (place i left : ℕ) : Type 0 where
  pub pointer : i < length runs
  pub within : left < (slice_index_or runs i (0, 0)).1
  pub behind : place ≡ length (blocks_in (take i runs)) + left
