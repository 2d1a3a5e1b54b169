-- The two numbers of a user's code.
use Rattle.std.proofs.Common.{◌≡◌, ◌≢◌, Option, MatchOption, Bor, subst, ℕ, ◌<◌, List, length, get_or, arith}
use Rattle.std.specs.Char.{digit_value}
use Rattle.std.proofs.lemmas.Str.Pattern.{IsSplitOnceResult, split_after}
use Rattle.f11_bytes.specs.Octal.{IsOctal}
use Rattle.f11_bytes.proofs.OctalLemmas.{AllDigits-at}
use Rattle.f11_store.specs.declared.callers.Uic.{Uic}
use Rattle.f11_numbers.specs.Octal.{SpellsUic}

-- a comma is no octal digit
no_comma : (ds : List ℕ) (most : ℕ) → IsOctal ds most → (i : ℕ) → i < length ds → get_or ds i 0 ≢ 44
no_comma ds most digits i within is =
    let small : digit_value 44 < 8 = subst (λ d. digit_value d < 8) is (AllDigits-at ds i digits.octal_digits within) in
    absurd (omega arith)

-- the text of a user's code is cut at its comma
pub split_at_comma : (text : List ℕ) (uic : Uic) (r : Option (Bor (List ℕ) × Bor (List ℕ))) → IsSplitOnceResult 44 text r
    → (s : SpellsUic text uic)
    → MatchOption r ⊥ (λ x. (x.0.now ≡ s.group) × (x.1.now ≡ s.member))
split_at_comma text uic r split s =
    split_after 44 text s.group s.member r split (omega arith) s.is_text (no_comma s.group 255 s.group_digits)

pub same_uic : (a b : Uic) → a.group ≡ b.group → a.member ≡ b.member → a ≡ b
same_uic a b group member = λ i. record { group = group i; member = member i }
