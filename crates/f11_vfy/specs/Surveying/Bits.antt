-- A set of numbers, a bit each.
use Rattle.std.specs.Prelude.{◌≡◌, ◌<◌, ℕ, ◌/◌, ◌%◌, ◌==◌, ◌&&◌, Bool, slice_index}
use Rattle.std.specs.Int.{bit_at}
use Rattle.f11_vfy.specs.declared.survey.bits.Bits.{Bits}

-- number k is in the set
unfoldable pub has : Bits → ℕ → Bool
has b k = bit_at (slice_index b.words.items (k / 64)) (k % 64) == 1

-- the numbers in it are below this one
abbrev pub limit_of : Bits → ℕ
limit_of b = b.limit

-- number k is one of the 64 from 64 i on, and its bit in the mask is 1
unfoldable pub in_word : ℕ → ℕ → ℕ → Bool
in_word mask i k = (k / 64 == i) && (bit_at mask (k % 64) == 1)

-- a set has the numbers that are in both of two, below the limit of the second
pub record IsCommon (one other both : Bits) : Type 0 where
  pub limit : limit_of both ≡ limit_of other
  pub each : (k : ℕ) → k < limit_of other → has both k ≡ (has one k && has other k)
