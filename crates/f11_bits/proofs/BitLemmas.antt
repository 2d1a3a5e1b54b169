-- Facts about the bits of a block, and about tests on numbers.
use Rattle.std.proofs.Common.{◌≡◌, ℕ, ◌+◌, ◌<◌, ◌≤◌, Bool, true, false, List, refl, sym, ap, ◌∙◌, inl, inr, add-one, arith, lt-ltb, min}
use Rattle.std.proofs.lemmas.Bool.{both_ways, and_from, cases_lt}
use Rattle.f11_dev.specs.bytes.Bits.{bit}
use Rattle.f11_bits.specs.Bitmap.{count_below}
use Rattle.f11_bits.specs.Bits.{bit_below, IsFirstSet}
use Rattle.f11_bits.specs.Run.{IsFirstRun}

-- one number more, which passes
pub count_below-pass : (test : ℕ → Bool) (n count : ℕ) → count ≡ count_below test n → true ≡ test n → count + 1 ≡ count_below test (n + 1)
unfolding count_below
count_below-pass test n count so_far passes = rw (add-one n, ← passes, so_far) refl

-- one number more, which doesn't
pub count_below-fail : (test : ℕ → Bool) (n count : ℕ) → count ≡ count_below test n → false ≡ test n → count ≡ count_below test (n + 1)
unfolding count_below
count_below-fail test n count so_far fails = rw (add-one n, ← fails, so_far) (omega arith)

-- a bit that is 1 below the end
pub bit_below-true : (b : List ℕ) (end k : ℕ) → k < end → true ≡ bit b k → bit_below b end k ≡ true
bit_below-true b end k below is = and_from _ _ (lt-ltb k end below) (sym is)

-- the first bit that is 1, and as many as are 1 from there on
IsFirstRun-found : (b : List ℕ) (end from most k count : ℕ) → from ≤ k → ((j : ℕ) → from ≤ j → j < k → bit_below b end j ≡ false) → k < end
    → bit_below b end k ≡ true → 0 < most
    → count ≤ min most 256 → ((j : ℕ) → k ≤ j → j < k + count → bit_below b end j ≡ true)
    → (count < min most 256 → bit_below b end (k + count) ≡ false) → IsFirstRun (bit_below b end) from most k count
IsFirstRun-found b end from most k count above first below here some short each ended =
    record {
      above = above;
      first = first;
      some = elim (cases_lt 0 count) [
        | inl more ↦ more
        | inr none ↦
            let zero_is : k + count ≡ k = omega arith in
            let open_end : bit_below b end (k + count) ≡ false = ended (omega arith) in
            absurd (both_ways (bit_below b end k) (ap (bit_below b end) (sym zero_is) ∙ open_end) here)
      ];
      short = omega arith;
      asked = omega arith;
      each = each;
      ended = λ cut few. ended (omega arith);
    }

pub IsFirstRun-set : (b : List ℕ) (end from most k count : ℕ) → IsFirstSet (bit_below b end) from end k → 0 < most → count ≤ min most 256
    → ((j : ℕ) → k ≤ j → j < k + count → bit_below b end j ≡ true) → (count < min most 256 → bit_below b end (k + count) ≡ false)
    → IsFirstRun (bit_below b end) from most k count
IsFirstRun-set b end from most k count first some short each ended =
    IsFirstRun-found b end from most k count first.above first.before first.below first.is_set some short each ended
