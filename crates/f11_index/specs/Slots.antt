-- Free slots (profile: the first five are those of the volume's own files).
use Rattle.std.specs.Prelude.{◌≡◌, ℕ, ◌-◌, ◌≤◌, false, not, List, filter, Some}
use Rattle.std.specs.List.{slice_get, range_with_len}
use Rattle.f11_index.specs.IndexFile.{Index, slots, is_in_use, free_slots_in}

-- n is the least free slot: one from 6 on that isn't in use
pub record IsLeastFree (index : Index) (n : ℕ) : Type 0 where
  pub first : slice_get (free_slots_in index) 0 ≡ Some n
  pub low : 6 ≤ n
  pub high : n ≤ slots index
  pub unused : is_in_use index n ≡ false

-- the free slots from one on, before another
abbrev pub free_between : Index → ℕ → ℕ → List ℕ
free_between index from end = filter (λ n. not (is_in_use index n)) (range_with_len from (end - from))
