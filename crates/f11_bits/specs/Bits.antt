-- The bits of one bitmap block.
use Rattle.std.specs.Prelude.{◌≡◌, ℕ, ◌<◌, ◌≤◌, Bool, true, false, ◌&&◌, nat_lt, List}
use Rattle.f11_dev.specs.bytes.Bits.{bit}

-- bit k is 1 and below the end
abbrev pub bit_below : List ℕ → ℕ → ℕ → Bool
bit_below b end k = nat_lt k end && bit b k

-- no bit from `start` on, before `end`, is 1
abbrev pub NoneWithin : (ℕ → Bool) → ℕ → ℕ → Type 0
NoneWithin set start end = (k : ℕ) → start ≤ k → k < end → set k ≡ false

-- The first bit from `start` on, before `end`, that is 1.
pub record IsFirstSet (set : ℕ → Bool) (start end k : ℕ) : Type 0 where
  pub above : start ≤ k
  pub below : k < end
  pub before : NoneWithin set start k
  pub is_set : set k ≡ true

-- The first bit from `start` on, before `end`, that is 0.
pub record IsFirstClear (set : ℕ → Bool) (start end k : ℕ) : Type 0 where
  pub above : start ≤ k
  pub below : k < end
  pub before : (j : ℕ) → start ≤ j → j < k → set j ≡ true
  pub is_clear : set k ≡ false
