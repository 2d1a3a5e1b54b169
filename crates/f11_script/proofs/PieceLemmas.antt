-- Pieces that are put one behind another.
use Rattle.std.proofs.Common.{◌≡◌, ◌≢◌, ℕ, ◌+◌, ◌-◌, ◌/◌, ◌%◌, ◌<◌, ◌≤◌, ◌^◌, zero, suc, false, eqb, ltb, List, ◌∷◌, ◌++◌, length, drop}
use Rattle.std.proofs.Common.{sym, ap, ◌∙◌, arith, append_assoc, lt-ltb}
use Rattle.std.proofs.Math.ListN.{set}
use Rattle.std.proofs.Math.Nat.{pow-suc}
use Rattle.std.proofs.lemmas.Bool.{cond-false, cond-true, eq-eqb, ne_eqb}
use Rattle.std.proofs.lemmas.List.{drop-set, drop_all}
use Rattle.std.specs.Fmt.{digit_glyph, digits, digits_onto}
use Rattle.f11_store.specs.Text.{octal_digits}
use Rattle.f11_script.specs.Pieces.{PutsUpTo}

-- a piece, and then another one
pub Puts-then : {m n : ℕ} {a b c p q : List ℕ} → PutsUpTo m a b p → PutsUpTo n b c q → PutsUpTo (m + n) a c (p ++ q)
Puts-then {m} {n} {a} {b} {c} {p} {q} first then = record {
  text = then.text ∙ ap (λ t. t ++ q) first.text ∙ append_assoc a p q;
  within = omega (arith, first.within, then.within);
}

-- a piece of fewer bytes
pub Puts-fewer : {m n : ℕ} {a b p : List ℕ} → m ≤ n → PutsUpTo m a b p → PutsUpTo n a b p
Puts-fewer {m} {n} {a} {b} {p} few put = record { text = put.text; within = omega (arith, put.within, few) }

-- the digits of a number from its last one on: those of what is left of it, before those that were put
pub record OctalFrom (number at rest : ℕ) (bytes : List ℕ) : Type 0 where
  pub all : digits_onto (suc (at + 57)) 8 false rest (drop at bytes) ≡ octal_digits number

pub octal_none : (number : ℕ) (bytes : List ℕ) → length bytes ≡ 6 → OctalFrom number 6 number bytes
unfolding digits
octal_none number bytes six = record { all = ap (digits_onto 64 8 false number) (drop_all 6 bytes (omega (arith, six))) }

-- a digit is put before them
digit_put : (bytes : List ℕ) (at rest : ℕ) → 0 < at → at ≤ length bytes →
    drop (at - 1) (set bytes (at - 1) (48 + rest % 8)) ≡ digit_glyph false (rest % 8) ∷ drop at bytes
digit_put bytes at rest some within =
    let behind : at - 1 + 1 ≡ at = omega (arith, some) in
    drop-set bytes (at - 1) (48 + rest % 8) (omega (arith, some, within))
    ∙ ap (λ n. (48 + rest % 8) ∷ drop n bytes) behind
    ∙ ap (λ d. d ∷ drop at bytes) (sym (cond-true (ltb (rest % 8) 10) (48 + rest % 8) (87 + rest % 8) (lt-ltb (rest % 8) 10 (omega arith))))

pub octal_more : (number at rest : ℕ) (bytes : List ℕ) → 0 < at → at ≤ length bytes → rest / 8 ≢ 0 → OctalFrom number at rest bytes
    → OctalFrom number (at - 1) (rest / 8) (set bytes (at - 1) (48 + rest % 8))
octal_more number at rest bytes some within more so_far =
    let count : suc (at - 1 + 57) ≡ at + 57 = omega (arith, some) in
    let put : List ℕ = digit_glyph false (rest % 8) ∷ drop at bytes in
    record {
      all = ap (digits_onto (suc (at - 1 + 57)) 8 false (rest / 8)) (digit_put bytes at rest some within)
          ∙ ap (λ n. digits_onto n 8 false (rest / 8) put) count
          ∙ sym (cond-false (eqb (rest / 8) 0) put (digits_onto (at + 57) 8 false (rest / 8) put) (ne_eqb (rest / 8) 0 more)) ∙ so_far.all;
    }

pub octal_done : (number at rest : ℕ) (bytes : List ℕ) → 0 < at → at ≤ length bytes → rest / 8 ≡ 0 → OctalFrom number at rest bytes
    → drop (at - 1) (set bytes (at - 1) (48 + rest % 8)) ≡ octal_digits number
octal_done number at rest bytes some within last so_far =
    let put : List ℕ = digit_glyph false (rest % 8) ∷ drop at bytes in
    digit_put bytes at rest some within
    ∙ sym (cond-true (eqb (rest / 8) 0) put (digits_onto (at + 57) 8 false (rest / 8) put) (eq-eqb (rest / 8) 0 last)) ∙ so_far.all

-- what is left of a number of so many octal digits
pub octal_below : (at rest : ℕ) → 0 < at → rest < 8 ^ at → rest / 8 < 8 ^ (at - 1)
octal_below at rest some below =
    let count : at ≡ suc (at - 1) = omega (arith, some) in
    omega (arith, below, ap (λ n. 8 ^ n) count ∙ pow-suc 8 (at - 1))

pub octal_some : (at rest : ℕ) → rest < 8 ^ at → rest ≢ 0 → 0 < at
octal_some zero rest below some = absurd (some (omega (arith, below)))
octal_some (suc at) rest below some = omega arith
