-- The first size that has room for files.
use Rattle.std.proofs.Common.{◌≡◌, ℕ, ◌+◌, ◌<◌, ◌≤◌, ◌&&◌, Bool, true, false, nat_le, nat_lt, refl, sym, subst, arith, inl, inr}
use Rattle.std.proofs.lemmas.Bool.{cases_eq, cases_lt, lt-leb}
use Rattle.rt11_copy.specs.declared.fitting.RtNeed.{RtNeed}
use Rattle.f11_salvage.specs.RtSize.{HasNever}

-- no directory has more than 31 segments
pub never-past : (need : RtNeed) (n : ℕ) → 31 < n → HasNever need n
never-past need n past blocks = by (nat_lt 0 n) (nat_le n 31) _ (lt-leb n 31 past)
  where
    by : (a b c : Bool) → b ≡ false → ((a && b) && c) ≡ false
    by true false c few = refl
    by false b c few = refl
    by true true c few = absurd (cc)

-- none of fewer has room, nor has this one
pub never-more : (need : RtNeed) (from i : ℕ) → ((n : ℕ) → from ≤ n → n < i → HasNever need n) → HasNever need i
    → (n : ℕ) → from ≤ n → n < i + 1 → HasNever need n
never-more need from i before at n low high = elim (cases_eq n i) [
  | inl same ↦ subst (HasNever need) (sym same) at
  | inr apart ↦ before n low (omega (arith, high, apart))
]

-- none of fewer has, and there are no more
pub never-all : (need : RtNeed) (from i : ℕ) → ((n : ℕ) → from ≤ n → n < i → HasNever need n) → 32 ≤ i
    → (n : ℕ) → from ≤ n → HasNever need n
never-all need from i before past n low = elim (cases_lt n i) [
  | inl less ↦ before n low less
  | inr more ↦ never-past need n (omega (arith, more, past))
]
