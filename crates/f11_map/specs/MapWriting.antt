-- What writing retrieval pointers leaves of a map area (Files-11 On-Disk Structure Level 1, "Map Area" and "Retrieval
-- Pointers"; how pointers join: profile).
use Rattle.std.specs.Prelude.{◌≡◌, ℕ, ◌+◌, ◌-◌, ◌*◌, ◌/◌, ◌%◌, ◌≤◌, ◌==◌, nat_le, min, Bool, false, ◌&&◌, if◌then◌else◌}
use Rattle.std.specs.Prelude.{List, [], ◌∷◌, length, map, take, drop, slice_index, slice_set}
use Rattle.std.specs.List.{range_with_len}
use Rattle.f11_header.specs.bytes.Words.{with_word}
use Rattle.f11_header.specs.MapFields.{segment, link, most_words, IsMapArea}
use Rattle.f11_map.specs.MapArea.{runs_of}
use Rattle.f11_header.specs.store.File.{run_pointers}
use Rattle.f11_header.specs.store.declared.files.FileId.{FileId}

-- So many blocks from an LBN on join a pointer where they follow its last block and both are 256 blocks at most.
abbrev pub joins : ℕ × ℕ → ℕ → ℕ → Bool
joins run lbn count = run.0 + run.1 == lbn && nat_le (run.1 + count) 256

-- They join the last pointer.
abbrev pub joins_last : List (ℕ × ℕ) → ℕ → ℕ → Bool
joins_last [] lbn count = false
joins_last (run ∷ []) lbn count = joins run lbn count
joins_last (run ∷ next ∷ runs) lbn count = joins_last (next ∷ runs) lbn count

-- The pointers with these blocks at the end: in the last pointer where they join it, and else in one more.
abbrev pub with_blocks : List (ℕ × ℕ) → ℕ → ℕ → List (ℕ × ℕ)
with_blocks [] lbn count = (lbn, count) ∷ []
with_blocks (run ∷ []) lbn count = if joins run lbn count then (run.0, run.1 + count) ∷ [] else run ∷ (lbn, count) ∷ []
with_blocks (run ∷ next ∷ runs) lbn count = run ∷ with_blocks (next ∷ runs) lbn count

-- The fewest pointers that name so many blocks in a row, from an LBN on: 256 blocks in each, and the rest in one more.
abbrev pub fewest_runs : ℕ → ℕ → List (ℕ × ℕ)
fewest_runs lbn count = map (λ i. (lbn + 256 * i, min 256 (count - 256 * i))) (range_with_len 0 (run_pointers count))

-- The pointers cut to the first so many blocks: a pointer that names none of them goes.
abbrev pub cut_to : List (ℕ × ℕ) → ℕ → List (ℕ × ℕ)
cut_to [] blocks = []
cut_to (run ∷ runs) blocks = if blocks == 0 then [] else
    if nat_le blocks run.1 then (run.0, blocks) ∷ [] else run ∷ cut_to runs (blocks - run.1)

-- The area with this as pointer i.
abbrev pub with_run : List ℕ → ℕ → ℕ × ℕ → List ℕ
with_run m i run = with_word (slice_set (slice_set m (10 + 4 * i) (run.0 / 65536)) (10 + 4 * i + 1) (run.1 - 1)) (10 + 4 * i + 2)
    (run.0 % 65536)

-- The area with so many words of pointers in use.
abbrev pub with_words_in_use : List ℕ → ℕ → List ℕ
with_words_in_use m words = slice_set m 8 words

-- Pointers are written, and the area holds pointers still: M.USE and the pointers may change, and all else stays: M.ESQN, the
-- link and the sizes before M.USE, M.MAX, and what stands behind the pointers that there are then.
pub record WritesPointers (old new : List ℕ) : Type 0 where
  pub valid : IsMapArea new
  pub size : length new ≡ length old
  pub front : take 8 new ≡ take 8 old
  pub segment_stays : segment new ≡ segment old
  pub link_stays : link new ≡ link old
  pub most : most_words new ≡ most_words old
  pub behind : (i : ℕ) → 10 + 4 * length (runs_of new) ≤ i → slice_index new i ≡ slice_index old i

-- A link is written, and the pointers stay: M.ERVN, M.EFNU and M.EFSQ alone may change, and M.ERVN is 0.
pub record WritesLink (old new : List ℕ) (id : FileId) : Type 0 where
  pub valid : IsMapArea new
  pub size : length new ≡ length old
  pub link_is : link new ≡ record { number = id.number; sequence = id.sequence; volume = 0 }
  pub segment_stays : segment new ≡ segment old
  pub rest : drop 6 new ≡ drop 6 old
