-- The numbers that are in two sets, a word at a time.
use Rattle.std.proofs.Common.{◌≡◌, ◌≢◌, ◌≤◌, ◌<◌, ◌+◌, ◌*◌, ◌/◌, ◌%◌, ◌⊎◌, ◌&&◌, ◌||◌, inl, inr, ℕ, ap, sym, ◌∙◌, arith, true, false, eqb}
use Rattle.std.proofs.Common.{bit_and, List}
use Rattle.std.specs.Int.{bit_at}
use Rattle.std.proofs.lemmas.Bool.{cases_lt, eq-eqb, ne_eqb}
use Rattle.std.proofs.Math.Bool.{or-false}
use Rattle.f11_findings.specs.declared.finding.Finding.{Finding}
use Rattle.f11_vfy.specs.Surveying.Bits.{has, in_word, limit_of, IsCommon}
use Rattle.f11_vfy.specs.declared.survey.bits.Bits.{Bits}
use Rattle.f11_findings.specs.Found.{Finds, FoundAmong}
use Rattle.f11_findings.proofs.FoundLemmas.{finds-same}
use Rattle.f11_vfy.proofs.Surveying.Words.{word-both}

-- a set has those below a number that are in two sets, and none from there on
pub record CommonTo (one other both : Bits) (end : ℕ) : Type 0 where
  pub each : (k : ℕ) → k < end → has both k ≡ (has one k && has other k)
  pub none : (k : ℕ) → end ≤ k → has both k ≡ false

pub common-none : (one other both : Bits) → ((k : ℕ) → has both k ≡ false) → CommonTo one other both (64 * 0)
common-none one other both none = record { each = λ k below. absurd (omega (arith, below)); none = λ k past. none k }

-- a number of another word
in_word-other : (mask i k : ℕ) → k / 64 ≢ i → in_word mask i k ≡ false
unfolding in_word
in_word-other mask i k other = ap (λ b. b && eqb (bit_at mask (k % 64)) 1) (ne_eqb (k / 64) i other)

in_word-here : (mask i k : ℕ) → k / 64 ≡ i → in_word mask i k ≡ eqb (bit_at mask (k % 64)) 1
unfolding in_word
in_word-here mask i k here = ap (λ b. b && eqb (bit_at mask (k % 64)) 1) (eq-eqb (k / 64) i here)

module _ (one other old new : Bits) (i x y : ℕ) (before : CommonTo one other old (64 * i))
    (of_one : (k : ℕ) → k / 64 ≡ i → has one k ≡ eqb (bit_at x (k % 64)) 1)
    (of_other : (k : ℕ) → k / 64 ≡ i → has other k ≡ eqb (bit_at y (k % 64)) 1)
    (adds : (k : ℕ) → has new k ≡ (has old k || in_word (bit_and x y) i k)) where
  elsewhere : (k : ℕ) → k / 64 ≢ i → has new k ≡ has old k
  elsewhere k other_word = adds k ∙ ap (λ b. has old k || b) (in_word-other (bit_and x y) i k other_word) ∙ or-false (has old k)

  here : (k : ℕ) → k / 64 ≡ i → has new k ≡ (has one k && has other k)
  here k is =
      adds k ∙ ap (λ b. b || in_word (bit_and x y) i k) (before.none k (omega (arith, is))) ∙ word-both x y i k (has one k) (of_one k)
      ∙ ap (λ b. has one k && b) (in_word-here y i k is ∙ sym (of_other k is))

  pub common-more : CommonTo one other new (64 * (i + 1))
  common-more = record {
    each = λ k below. go k below (cases_lt k (64 * i));
    none = λ k past. elsewhere k (λ is. omega (arith, is, past)) ∙ before.none k (omega (arith, past));
  }
    where
      go : (k : ℕ) → k < 64 * (i + 1) → (k < 64 * i) ⊎ (64 * i ≤ k) → has new k ≡ (has one k && has other k)
      go k below (inl earlier) = elsewhere k (λ is. omega (arith, is, earlier)) ∙ before.each k earlier
      go k below (inr from) = here k (omega (arith, below, from))

pub common-all : (one other both : Bits) (i : ℕ) → limit_of other ≤ 64 * i → limit_of both ≡ limit_of other
    → CommonTo one other both (64 * i) → IsCommon one other both
common-all one other both i all limit common = record { limit = limit; each = λ k below. common.each k (omega (arith, below, all)) }

-- what is found of those of the set is found of those of both
pub common-found : (one other both : Bits) (found : ℕ → Finding) (old new : List Finding) → IsCommon one other both
    → Finds (FoundAmong (λ k. has both k ≡ true) found (limit_of both)) old new
    → Finds (FoundAmong (λ k. (has one k && has other k) ≡ true) found (limit_of other)) old new
common-found one other both found old new common finds = finds-same _ _ old new finds
    (λ code a b f.
    let below : f.number < limit_of other = omega (arith, f.below, common.limit) in
    record { number = f.number; below = below; holds = sym (common.each f.number below) ∙ f.holds; is = f.is })
    (λ code a b f. record {
      number = f.number;
      below = omega (arith, f.below, common.limit);
      holds = common.each f.number f.below ∙ f.holds;
      is = f.is;
    })
