-- The free blocks of a volume, a word of the bitmap at a time.
use Rattle.std.proofs.Common.{◌≡◌, ◌≢◌, ◌≤◌, ◌<◌, ◌+◌, ◌-◌, ◌*◌, ◌/◌, ◌%◌, ◌^◌, ◌⊎◌, ◌&&◌, ◌||◌, inl, inr, ℕ, ap, sym, ◌∙◌, arith, Bool}
use Rattle.std.proofs.Common.{false, List, eqb, get_or}
use Rattle.std.specs.Int.{bit_at}
use Rattle.std.proofs.lemmas.Bool.{cases_lt, cases_eq, eq-eqb, ne_eqb}
use Rattle.std.proofs.lemmas.Nat.{pow_pos}
use Rattle.std.proofs.lemmas.Nat.Bits.{bit_at_cat_low, bit_at_cat_high, bit_at-zero}
use Rattle.std.proofs.Math.Bool.{or-false}
use Rattle.f11_bytes.specs.Bits.{bit}
use Rattle.f11_bytes.specs.Words.{word}
use Rattle.f11_vfy.specs.Surveying.Bits.{in_word}
use Rattle.f11_vfy.specs.Surveying.Free.{has_bit}
use Rattle.f11_vfy.proofs.Surveying.Free.{has_bit-below, has_bit-above, has_bit-inside, or_assoc}

-- a bit of a word of a bitmap is one of the bitmap
word-bit : (b : List ℕ) (i k : ℕ) → get_or b (2 * i) 0 < 256 → k < 16 → eqb (bit_at (word b (2 * i)) k) 1 ≡ bit b (16 * i + k)
word-bit b i k low within = ap (λ w. eqb (bit_at w k) 1) parts ∙ go (cases_lt k 8)
  where
    parts : word b (2 * i) ≡ get_or b (2 * i + 1) 0 * 2 ^ 8 + get_or b (2 * i) 0
    parts = omega arith

    go : (k < 8) ⊎ (8 ≤ k) → eqb (bit_at (get_or b (2 * i + 1) 0 * 2 ^ 8 + get_or b (2 * i) 0) k) 1 ≡ bit b (16 * i + k)
    go (inl first) =
        let place : 2 * i ≡ (16 * i + k) / 8 = omega (arith, first) in
        let rest : k ≡ (16 * i + k) % 8 = omega (arith, first) in
        ap (λ x. eqb x 1) (bit_at_cat_low (get_or b (2 * i + 1) 0) 8 (get_or b (2 * i) 0) k first ∙ ap (λ p. bit_at (get_or b p 0) k) place
        ∙ ap (bit_at (get_or b ((16 * i + k) / 8) 0)) rest)
    go (inr second) =
        let place : 2 * i + 1 ≡ (16 * i + k) / 8 = omega (arith, second, within) in
        let rest : k - 8 ≡ (16 * i + k) % 8 = omega (arith, second, within) in
        ap (λ x. eqb x 1) (bit_at_cat_high (get_or b (2 * i + 1) 0) 8 (get_or b (2 * i) 0) k low second
        ∙ ap (λ p. bit_at (get_or b p 0) (k - 8)) place ∙ ap (bit_at (get_or b ((16 * i + k) / 8) 0)) rest)

-- a bit of a word that was moved up
module _ (w s : ℕ) (small : w < 2 ^ 16) where
  whole : (m : ℕ) → m < 64 → bit_at (w * 2 ^ s % 2 ^ 64) m ≡ bit_at (w * 2 ^ s + 0) m
  whole m within =
      let n : ℕ = w * 2 ^ s in
      let split : n + 0 ≡ n / 2 ^ 64 * 2 ^ 64 + n % 2 ^ 64 = omega arith in
      sym (ap (λ x. bit_at x m) split ∙ bit_at_cat_low (n / 2 ^ 64) 64 (n % 2 ^ 64) m within)

  moved-below : (m : ℕ) → m < 64 → m < s → bit_at (w * 2 ^ s % 2 ^ 64) m ≡ 0
  moved-below m within below = whole m within ∙ bit_at_cat_low w s 0 m below ∙ bit_at-zero m

  moved-at : (m : ℕ) → m < 64 → s ≤ m → bit_at (w * 2 ^ s % 2 ^ 64) m ≡ bit_at w (m - s)
  moved-at m within from = whole m within ∙ bit_at_cat_high w s 0 m (pow_pos s) from

  moved-above : (m : ℕ) → m < 64 → s + 16 ≤ m → bit_at (w * 2 ^ s % 2 ^ 64) m ≡ 0
  moved-above m within past =
      let only : w ≡ 0 * 2 ^ 16 + w = omega arith in
      moved-at m within (omega (arith, past)) ∙ ap (λ v. bit_at v (m - s)) only ∙ bit_at_cat_high 0 16 w (m - s) small (omega (arith, past))
      ∙ bit_at-zero (m - s - 16)

-- word i of the bitmap of the numbers from `first` on, put into a set
module _ (b : List ℕ) (first i w j : ℕ) (aligned : first % 16 ≡ 0) (is : w ≡ word b (2 * i)) (small : w < 65536)
    (low : get_or b (2 * i) 0 < 256) where
  abbrev at : ℕ
  at = first + 16 * i

  abbrev mask : ℕ
  mask = w * 2 ^ (at % 64) % 2 ^ 64

  here : (j / 64 ≡ at / 64) ⊎ (j / 64 ≢ at / 64) → (j < at) ⊎ (at ≤ j) → (j < at + 16) ⊎ (at + 16 ≤ j)
      → has_bit b first (16 * (i + 1)) j ≡ (has_bit b first (16 * i) j || (eqb (j / 64) (at / 64) && eqb (bit_at mask (j % 64)) 1))
  here same (inl x) y = earlier (cases_lt j first) ∙ sym (ap (λ t. has_bit b first (16 * i) j || t) (none same) ∙ or-false _)
    where
      earlier : (j < first) ⊎ (first ≤ j) → has_bit b first (16 * (i + 1)) j ≡ has_bit b first (16 * i) j
      earlier (inl before) = has_bit-below b first (16 * (i + 1)) j before ∙ sym (has_bit-below b first (16 * i) j before)
      earlier (inr from) =
          has_bit-inside b first (16 * (i + 1)) j (j - first) (omega (arith, from)) (omega (arith, from, x))
          ∙ sym (has_bit-inside b first (16 * i) j (j - first) (omega (arith, from)) (omega (arith, from, x)))

      none : (j / 64 ≡ at / 64) ⊎ (j / 64 ≢ at / 64) → (eqb (j / 64) (at / 64) && eqb (bit_at mask (j % 64)) 1) ≡ false
      none (inl e) =
          ap (λ t. t && eqb (bit_at mask (j % 64)) 1) (eq-eqb _ _ e)
          ∙ ap (λ x. eqb x 1) (moved-below w (at % 64) small (j % 64) (omega arith) (omega (arith, e, x)))
      none (inr ne) = ap (λ t. t && eqb (bit_at mask (j % 64)) 1) (ne_eqb _ _ ne)
  here same (inr x) (inl y) =
      has_bit-inside b first (16 * (i + 1)) j (j - first) (omega (arith, x)) (omega (arith, y))
      ∙ ap (bit b) (omega (arith, x)) ∙ sym (word-bit b i (j - at) low (omega (arith, x, y)))
      ∙ ap (λ v. eqb (bit_at v (j - at)) 1) (sym is) ∙ ap (λ k. eqb (bit_at w k) 1) (omega (arith, aligned, x, y))
      ∙ ap (λ v. eqb v 1) (sym (moved-at w (at % 64) small (j % 64) (omega arith) (omega (arith, aligned, x, y))))
      ∙ sym (ap (λ t. t || (eqb (j / 64) (at / 64) && eqb (bit_at mask (j % 64)) 1)) (has_bit-above b first (16 * i) j x)
      ∙ ap (λ t. t && eqb (bit_at mask (j % 64)) 1) (eq-eqb (j / 64) (at / 64) (omega (arith, aligned, x, y))))
  here same (inr x) (inr y) =
      has_bit-above b first (16 * (i + 1)) j (omega (arith, y))
      ∙ sym (ap (λ t. t || (eqb (j / 64) (at / 64) && eqb (bit_at mask (j % 64)) 1)) (has_bit-above b first (16 * i) j x) ∙ none same)
    where
      none : (j / 64 ≡ at / 64) ⊎ (j / 64 ≢ at / 64) → (eqb (j / 64) (at / 64) && eqb (bit_at mask (j % 64)) 1) ≡ false
      none (inl e) =
          ap (λ t. t && eqb (bit_at mask (j % 64)) 1) (eq-eqb _ _ e)
          ∙ ap (λ v. eqb v 1) (moved-above w (at % 64) small (j % 64) (omega arith) (omega (arith, e, y, aligned)))
      none (inr ne) = ap (λ t. t && eqb (bit_at mask (j % 64)) 1) (ne_eqb _ _ ne)

  pub word-added : has_bit b first (16 * (i + 1))
      j ≡ (has_bit b first (16 * i) j || in_word (w * 2 ^ ((first + 16 * i) % 64) % 2 ^ 64) ((first + 16 * i) / 64) j)
  unfolding in_word
  word-added = here (cases_eq (j / 64) (at / 64)) (cases_lt j at) (cases_lt j (at + 16))

pub word-put-on : (s before here after now new : Bool) → now ≡ (s || before) → after ≡ (before || here) → new ≡ (now || here)
    → new ≡ (s || after)
word-put-on s before here after now new is more puts = puts ∙ ap (λ t. t || here) is ∙ or_assoc s before here ∙ ap (λ t. s || t) (sym more)
