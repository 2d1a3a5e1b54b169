-- What the last byte says of bytes without trailing ones.
use Rattle.std.proofs.Common.{◌≡◌, ℕ, ◌-◌, ◌+◌, ◌<◌, ◌≤◌, Bool, true, false, List, [], ◌∷◌, ◌++◌, length, get_or, take, ap, ◌∙◌, sym, arith}
use Rattle.std.proofs.lemmas.List.{take_more, take_all}
use Rattle.std.proofs.lemmas.List.Folds.{list_all-append}
use Rattle.f11_bytes.specs.Trailing.{without_trailing}

push_trailing : (test : ℕ → Bool) (xs : List ℕ) (b : ℕ) → test b ≡ true → without_trailing test (xs ++ b ∷ []) ≡ without_trailing test xs
push_trailing test [] b passes = grind (arith, passes)
push_trailing test (x ∷ xs) b passes = grind (arith, push_trailing test xs b passes, list_all-append test xs (b ∷ []))

push_other : (test : ℕ → Bool) (xs : List ℕ) (b : ℕ) → test b ≡ false → without_trailing test (xs ++ b ∷ []) ≡ xs ++ b ∷ []
push_other test [] b other = grind (arith, other)
push_other test (x ∷ xs) b other = grind (arith, push_other test xs b other, list_all-append test xs (b ∷ []))

front_and_last : (xs : List ℕ) → 1 ≤ length xs → take (length xs - 1) xs ++ get_or xs (length xs - 1) 0 ∷ [] ≡ xs
front_and_last xs some =
    let within : length xs - 1 < length xs = omega arith in
    let all : length xs - 1 + 1 ≡ length xs = omega arith in
    sym (take_more xs (length xs - 1) 0 within) ∙ ap (λ n. take n xs) all ∙ take_all (length xs) xs (omega arith)

-- a last byte that passes is cut off
pub without_trailing-take : (test : ℕ → Bool) (xs : List ℕ) → 1 ≤ length xs → test (get_or xs (length xs - 1) 0) ≡ true
    → without_trailing test (take (length xs - 1) xs) ≡ without_trailing test xs
without_trailing-take test xs some passes =
    sym (push_trailing test (take (length xs - 1) xs) (get_or xs (length xs - 1) 0) passes)
    ∙ ap (without_trailing test) (front_and_last xs some)

-- bytes whose last one doesn't pass are left whole
pub without_trailing_whole : (test : ℕ → Bool) (xs : List ℕ) → 1 ≤ length xs → test (get_or xs (length xs - 1) 0) ≡ false
    → without_trailing test xs ≡ xs
without_trailing_whole test xs some other =
    ap (without_trailing test) (sym (front_and_last xs some))
    ∙ push_other test (take (length xs - 1) xs) (get_or xs (length xs - 1) 0) other ∙ front_and_last xs some
