-- Bytes that are written piece by piece.
use Rattle.std.proofs.Common.{◌≡◌, ℕ, zero, suc, ◌+◌, ◌-◌, ◌≤◌, List, [], ◌∷◌, ◌++◌, length, take, drop, Option, refl, sym, ◌∙◌, ap, subst}
use Rattle.std.proofs.Common.{arith, zero-add, suc-add, length-drop}
use Rattle.std.specs.Io.KnownBytes.{Appends}
use Rattle.std.proofs.KnownBytes.{Appends-trans}
use Rattle.std.proofs.lemmas.List.{take_rest}

take_none : (n : ℕ) → take {A = ℕ} n [] ≡ []
take_none zero = refl
take_none (suc n) = refl

-- first bytes, and those behind them
take_sum : (m n : ℕ) (xs : List ℕ) → take (m + n) xs ≡ take m xs ++ take n (drop m xs)
take_sum zero n xs = ap (λ k. take k xs) (zero-add n)
take_sum (suc m) n [] = take_none (suc m + n) ∙ sym (take_none n)
take_sum (suc m) n (x ∷ xs) = ap (λ k. take k (x ∷ xs)) (suc-add m n) ∙ ap (λ t. x ∷ t) (take_sum m n xs)

-- a piece more is written
pub more_written : (a b c : Option (List ℕ)) (bytes : List ℕ) (at n : ℕ) → Appends a b (take at bytes) →
    Appends b c (take n (take (length bytes - at) (drop at bytes))) → Appends a c (take (at + n) bytes)
more_written a b c bytes at n first then =
    subst (λ (t : List ℕ). Appends a c t) (sym (take_sum at n bytes))
    (Appends-trans a b c (take at bytes) (take n (drop at bytes)) first
    (subst (λ (t : List ℕ). Appends b c (take n t)) (take_rest bytes at) then))

-- the length of what is behind
pub length_behind : (bytes : List ℕ) (at n : ℕ) → at ≤ length bytes → n ≤ length (take (length bytes - at) (drop at bytes))
    → at + n ≤ length bytes
length_behind bytes at n within h = omega (arith, ap length (take_rest bytes at), length-drop at bytes)
