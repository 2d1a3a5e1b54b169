-- Runs of free blocks (profile: a run is no longer than a retrieval pointer can tell).
use Rattle.std.specs.Prelude.{◌≡◌, ℕ, ◌+◌, ◌<◌, ◌≤◌, Bool, true, false}

-- The first run at or above `from`, cut at 256 and at `most` blocks.
pub record IsFirstRun (free : ℕ → Bool) (from most lbn count : ℕ) : Type 0 where
  pub above : from ≤ lbn
  pub first : (k : ℕ) → from ≤ k → k < lbn → free k ≡ false
  pub some : 0 < count
  pub short : count ≤ 256
  pub asked : count ≤ most
  pub each : (k : ℕ) → lbn ≤ k → k < lbn + count → free k ≡ true
  pub ended : count < 256 → count < most → free (lbn + count) ≡ false

-- no block at or above `from` is free
abbrev pub NoneFrom : (ℕ → Bool) → ℕ → Type 0
NoneFrom free from = (k : ℕ) → from ≤ k → free k ≡ false

-- no block below this one is free
abbrev pub NoneBelow : (ℕ → Bool) → ℕ → Type 0
NoneBelow free low = (k : ℕ) → k < low → free k ≡ false

-- Where a run is, on any device: at or above `from`, below the volume's end, of 1 to 256 and at most `most` blocks.
pub record IsRunWithin (size from most lbn count : ℕ) : Type 0 where
  pub above : from ≤ lbn
  pub some : 0 < count
  pub short : count ≤ 256
  pub asked : count ≤ most
  pub within : lbn + count ≤ size

-- n blocks in a row from lbn on are free
abbrev pub AreFree : (ℕ → Bool) → ℕ → ℕ → Type 0
AreFree free n lbn = (k : ℕ) → lbn ≤ k → k < lbn + n → free k ≡ true

-- The first n free blocks in a row begin at lbn: they are free, and at no lower block do n of them begin.
pub record IsFirstRunOf (free : ℕ → Bool) (n lbn : ℕ) : Type 0 where
  pub each : AreFree free n lbn
  pub first : (k : ℕ) → k < lbn → ¬ AreFree free n k

-- at no block do n free blocks in a row begin
abbrev pub NoRunOf : (ℕ → Bool) → ℕ → Type 0
NoRunOf free n = (k : ℕ) → ¬ AreFree free n k
