-- The bits of a fresh index bitmap.
use Rattle.std.proofs.Common.{◌≡◌, ◌≢◌, ◌<◌, ◌≤◌, ◌+◌, ◌*◌, ◌/◌, ◌%◌, ℕ, zero, suc, true, false, List, [], refl, ap, ◌∙◌, inl, inr, arith}
use Rattle.std.proofs.Common.{slice_index}
use Rattle.std.specs.Prelude.{slice_set, replicate, ◌==◌}
use Rattle.std.specs.Int.{bit_at}
use Rattle.std.proofs.lemmas.Bool.{cases_eq, cases_lt, cond-false, ne_eqb}
use Rattle.std.proofs.lemmas.List.{get_or-replicate, get_or-set_other, get_or_past, length-replicate}
use Rattle.std.proofs.lemmas.Nat.Bits.{bit_at-zero}
use Rattle.f11_bytes.specs.Bits.{bit}
use Rattle.f11_bytes.specs.Block.{zero_block}
use Rattle.f11_layout.specs.IndexBitmap.{fresh_index_bitmap}

-- a byte of the block of zeros, or behind it
zero-byte : (i : ℕ) → slice_index zero_block i ≡ 0
unfolding zero_block
zero-byte i = elim (cases_lt i 512) [
  | inl within ↦ get_or-replicate 512 i 0 0 within
  | inr past ↦ get_or_past (replicate 512 0) i 0 (omega (arith, past, length-replicate {A = ℕ} 512 0))
]

no-bit : (b : List ℕ) (k : ℕ) → slice_index b (k / 8) ≡ 0 → bit b k ≡ false
no-bit b k none = ap (λ (byte : ℕ). bit_at byte (k % 8) == 1) none ∙ ap (λ (n : ℕ). n == 1) (bit_at-zero (k % 8))

-- the first five bits of its first block are 1
pub own-bit : (k : ℕ) → k < 5 → bit (fresh_index_bitmap 0) k ≡ true
unfolding fresh_index_bitmap zero_block
own-bit zero few = refl
own-bit (suc zero) few = refl
own-bit (suc (suc zero)) few = refl
own-bit (suc (suc (suc zero))) few = refl
own-bit (suc (suc (suc (suc zero)))) few = refl
own-bit (suc (suc (suc (suc (suc k))))) few = absurd (omega (arith, few))

-- and no others
low-bit : (k : ℕ) → 5 ≤ k → k < 8 → bit (fresh_index_bitmap 0) k ≡ false
unfolding fresh_index_bitmap zero_block
low-bit (suc (suc (suc (suc (suc zero))))) past low = refl
low-bit (suc (suc (suc (suc (suc (suc zero)))))) past low = refl
low-bit (suc (suc (suc (suc (suc (suc (suc zero))))))) past low = refl
low-bit (suc (suc (suc (suc (suc (suc (suc (suc k)))))))) past low = absurd (omega (arith, low))
low-bit zero past low = absurd (omega (arith, past))
low-bit (suc zero) past low = absurd (omega (arith, past))
low-bit (suc (suc zero)) past low = absurd (omega (arith, past))
low-bit (suc (suc (suc zero))) past low = absurd (omega (arith, past))
low-bit (suc (suc (suc (suc zero)))) past low = absurd (omega (arith, past))

high-bit : (k : ℕ) → 8 ≤ k → bit (fresh_index_bitmap 0) k ≡ false
unfolding fresh_index_bitmap
high-bit k high =
    no-bit (slice_set zero_block 0 31) k (get_or-set_other zero_block 0 (k / 8) 31 0 (λ same. omega (arith, same, high))
    ∙ zero-byte (k / 8))

later-block : (i : ℕ) → i ≢ 0 → fresh_index_bitmap i ≡ zero_block
unfolding fresh_index_bitmap
later-block i later = cond-false (i == 0) _ _ (ne_eqb i 0 later)

pub other-bit : (i k : ℕ) → 5 ≤ 4096 * i + k → bit (fresh_index_bitmap i) k ≡ false
other-bit i k past = elim (cases_eq i 0) [
  | inl first ↦ rw first (elim (cases_lt k 8) [ inl low ↦ low-bit k (omega (arith, past, first)) low | inr high ↦ high-bit k high ])
  | inr later ↦ ap (λ (b : List ℕ). bit b k) (later-block i later) ∙ no-bit zero_block k (zero-byte (k / 8))
]

-- a bit that is in no block
pub past-bit : (k : ℕ) → bit [] k ≡ false
past-bit k = no-bit [] k refl
