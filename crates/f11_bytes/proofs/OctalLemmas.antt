-- Facts about octal digits, read one after another.
use Rattle.std.proofs.Common.{ℕ, zero, suc, ◌+◌, ◌*◌, ◌<◌, ◌≤◌, List, [], ◌∷◌, length, get_or, take, arith}
use Rattle.std.specs.Char.{digit_value}
use Rattle.std.specs.Str.Parse.{AllDigits, digits_value, digits_value_after}

-- each octal digit is below eight
pub AllDigits-at : (ds : List ℕ) (i : ℕ) → AllDigits 8 ds → i < length ds → digit_value (get_or ds i 0) < 8
AllDigits-at [] i h l = absurd (omega (arith, l))
AllDigits-at (d ∷ ds) zero h l = h.0
AllDigits-at (d ∷ ds) (suc i) h l = AllDigits-at ds i h.1 (omega (arith, l))

digits_value_after-ge : (n : ℕ) (ds : List ℕ) → n ≤ digits_value_after 8 n ds
digits_value_after-ge n [] = omega arith
digits_value_after-ge n (d ∷ ds) = let more = digits_value_after-ge (n * 8 + digit_value d) ds in omega arith

digits_value_after-take : (n : ℕ) (ds : List ℕ) (i : ℕ) → digits_value_after 8 n (take i ds) ≤ digits_value_after 8 n ds
digits_value_after-take n [] zero = omega arith
digits_value_after-take n [] (suc i) = omega arith
digits_value_after-take n (d ∷ ds) zero = digits_value_after-ge n (d ∷ ds)
digits_value_after-take n (d ∷ ds) (suc i) = digits_value_after-take (n * 8 + digit_value d) ds i

-- the first digits have no greater value than all of them
pub digits_value-take : (ds : List ℕ) (i : ℕ) → digits_value 8 (take i ds) ≤ digits_value 8 ds
digits_value-take ds i = digits_value_after-take 0 ds i
