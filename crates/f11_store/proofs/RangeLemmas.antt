-- Numbers in a row.
use Rattle.std.proofs.Common.{◌≡◌, ℕ, zero, suc, ◌+◌, List, ◌∷◌, ◌++◌, refl, ap, arith, add-zero, zero-add}
use Rattle.std.specs.List.{range_with_len}

-- two runs of blocks, one behind the other
pub range_with_len-append : (from few more : ℕ)
    → range_with_len from (few + more) ≡ range_with_len from few ++ range_with_len (from + few) more
range_with_len-append from zero more = rw (zero-add, add-zero) refl
range_with_len-append from (suc few) more =
    let counts : suc few + more ≡ suc (few + more) = omega arith in
    let next : from + suc few ≡ from + 1 + few = omega arith in
    rw (counts, next) (ap (λ (rest : List ℕ). from ∷ rest) (range_with_len-append (from + 1) few more))
