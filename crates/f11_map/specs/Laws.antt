-- Laws of the pointers that name blocks in a row, and a worked value.
use Rattle.std.specs.Prelude.{◌≡◌, ℕ, ◌+◌, ◌*◌, ◌≤◌, List, [], ◌∷◌, ◌++◌, length}
use Rattle.std.specs.List.{All, range_with_len}
use Rattle.f11_map.specs.MapArea.{blocks_in}
use Rattle.f11_map.specs.MapWriting.{fewest_runs, with_blocks}

-- they name these blocks, in order
abbrev pub FewestRunsNameThem : Type 0
FewestRunsNameThem = (lbn count : ℕ) → blocks_in (fewest_runs lbn count) ≡ range_with_len lbn count

-- pointers that name as many blocks, each 256 at most, are no fewer
abbrev pub FewestRunsAreFewest : Type 0
FewestRunsAreFewest = (runs : List (ℕ × ℕ)) (lbn count : ℕ) → All (λ (run : ℕ × ℕ). run.1 ≤ 256) runs →
    count ≤ length (blocks_in runs) → length (fewest_runs lbn count) ≤ length runs

-- they are those that the blocks would get one by one: each joins the last pointer, or takes one more
abbrev pub FewestRunsJoin : Type 0
FewestRunsJoin = (lbn count : ℕ) → fewest_runs lbn (count + 1) ≡ with_blocks (fewest_runs lbn count) (lbn + count) 1

-- behind pointers of 256 blocks each they go on
abbrev pub FewestRunsGoOn : Type 0
FewestRunsGoOn = (lbn pointers count : ℕ) →
    fewest_runs lbn (256 * pointers + count) ≡
    fewest_runs lbn (256 * pointers) ++ fewest_runs (lbn + 256 * pointers) count

-- 300 blocks from LBN 22 on are in two pointers: 256 blocks, and 44 from LBN 278 on
abbrev pub LongRunInTwoPointers : Type 0
LongRunInTwoPointers = fewest_runs 22 300 ≡ (22, 256) ∷ (278, 44) ∷ []
