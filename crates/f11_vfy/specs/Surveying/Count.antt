-- How often headers name a block, and how often headers of files link to a header (profile).
use Rattle.std.specs.Prelude.{◌≡◌, ◌≤◌, ◌<◌, ◌+◌, ◌&&◌, ◌==◌, ℕ, zero, suc, nat_le, nat_lt, Bool, List, [], ◌∷◌, if◌then◌else◌}
use Rattle.f11_map.specs.HeaderBlock.{blocks_named}
use Rattle.f11_index.specs.Table.{Table}
use Rattle.f11_vfy.specs.Surveying.Bits.{has, limit_of}
use Rattle.f11_index.specs.Headers.{is_live}
use Rattle.f11_vfy.specs.declared.survey.tally.Tally.{Tally}

-- f 0 + .. + f (n - 1)
unfoldable pub sum_to : (ℕ → ℕ) → ℕ → ℕ
sum_to f zero = 0
sum_to f (suc n) = sum_to f n + f n

-- 1 where l is from the first number up to the end, else 0
unfoldable pub within : ℕ → ℕ → ℕ → ℕ
within first end l = if nat_le first l && nat_lt l end then 1 else 0

-- 1 where it holds, else 0
abbrev pub one_if : Bool → ℕ
one_if holds = if holds then 1 else 0

-- how often number l is among these
unfoldable pub times_among : List ℕ → ℕ → ℕ
times_among [] l = 0
times_among (x ∷ xs) l = (if x == l then 1 else 0) + times_among xs l

-- how often header n names block l, where it is live
unfoldable pub times_by : Table → ℕ → ℕ → ℕ
times_by t n l = if is_live t n then times_among (blocks_named (t.header n)) l else 0

-- how often headers 1 to n name it
unfoldable pub times_named : Table → ℕ → ℕ → ℕ
times_named t n l = sum_to (λ k. times_by t (k + 1) l) n

-- a tally shows how often each number came, once at least and twice at least; all that came are below its limit
pub record Shows (t : Tally) (c : ℕ → ℕ) : Type 0 where
  pub once : (l : ℕ) → has t.once l ≡ nat_le 1 (c l)
  pub twice : (l : ℕ) → has t.twice l ≡ nat_le 2 (c l)
  pub inside : (l : ℕ) → 1 ≤ c l → l < limit_of t.once
