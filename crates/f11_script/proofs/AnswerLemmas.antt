-- Bytes that are put in hex.
use Rattle.std.proofs.Common.{◌≡◌, ℕ, ◌+◌, ◌*◌, ◌<◌, List, [], ◌∷◌, ◌++◌, length, get_or, take, ap, ◌∙◌, sym, subst, arith}
use Rattle.std.specs.List.{flat_map}
use Rattle.std.proofs.lemmas.Grind.{flat_map-append}
use Rattle.std.proofs.lemmas.List.{append-nil, take_more}
use Rattle.f11_script.specs.Answers.{hex_digits}
use Rattle.f11_script.specs.Pieces.{PutsUpTo}
use Rattle.f11_script.proofs.PieceLemmas.{Puts-fewer, Puts-then}

-- one byte more in hex
pub hex_more : (bytes : List ℕ) (i byte : ℕ) (a b c : List ℕ) → i < length bytes → get_or bytes i 0 ≡ byte →
    PutsUpTo (2 * i) a b (flat_map hex_digits (take i bytes)) → PutsUpTo 2 b c (hex_digits byte) →
    PutsUpTo (2 * (i + 1)) a c (flat_map hex_digits (take (i + 1) bytes))
hex_more bytes i byte a b c within is so_far put =
    subst (λ (t : List ℕ). PutsUpTo (2 * (i + 1)) a c t) (sym (
    ap (flat_map hex_digits) (take_more bytes i 0 within ∙ ap (λ b. take i bytes ++ b ∷ []) is)
    ∙ flat_map-append hex_digits (take i bytes) (byte ∷ [])
    ∙ ap (λ t. flat_map hex_digits (take i bytes) ++ t) (append-nil (hex_digits byte))
    )) (Puts-fewer (omega arith) (Puts-then so_far put))
