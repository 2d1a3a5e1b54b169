-- Lines, one after another.
use Rattle.std.proofs.Common.{◌≡◌, ◌∙◌, ℕ, ◌+◌, List, [], ◌∷◌, ◌++◌, Some, take, ap}
use Rattle.std.specs.List.{slice_get, flat_map}
use Rattle.std.proofs.lemmas.Grind.{flat_map-append}
use Rattle.std.proofs.lemmas.List.{append-nil, take_more}
use Rattle.std.proofs.lemmas.Option.{get_or_from_slice_get, slice_get_within}

-- one line more
pub lines-more : {A : Type 0} (line : A → List ℕ) (xs : List A) (i : ℕ) (x : A) → slice_get xs i ≡ Some x
    → flat_map line (take (i + 1) xs) ≡ flat_map line (take i xs) ++ line x
lines-more {A} line xs i x at =
    ap (flat_map line) (take_more xs i x (slice_get_within xs i x at)
    ∙ ap (λ (y : A). take i xs ++ y ∷ []) (get_or_from_slice_get xs i x x at))
    ∙ flat_map-append line (take i xs) (x ∷ []) ∙ ap (λ (text : List ℕ). flat_map line (take i xs) ++ text) (append-nil (line x))
