-- Numbers in octal, and the versions that are asked for.
use Rattle.std.proofs.Common.{◌≡◌, ℕ, zero, suc, ◌<◌, ◌≤◌, List, [], ◌∷◌, length, Option, Some, None, SomeIff, inl, inr, arith, refl, sym}
use Rattle.std.proofs.Common.{subst, ◌∙◌, ap}
use Rattle.std.specs.Char.{digit_value}
use Rattle.std.specs.Str.Parse.{digits_value}
use Rattle.f11_bytes.specs.Octal.{IsOctal}
use Rattle.f11_bytes.proofs.OctalLemmas.{AllDigits-at}
use Rattle.f11_rad50.specs.Name.{IsVersion}
use Rattle.f11_rad50.proofs.Places.{IsOctal-version}
use Rattle.f11_patterns.specs.declared.versions.Versions.{Versions}
use Rattle.f11_patterns.specs.declared.versions.Versions.TheVariants.{Highest, Each, Exactly}
use Rattle.f11_patterns.specs.Parts.{AreVersions}
use Rattle.f11_patterns.specs.Pattern.{IsNumber, DigitsAskFor, BehindAsksFor}

-- of up to five digits those of a version are those of an octal number
pub read-version : (digits : List ℕ) (read : Option ℕ) → length digits ≤ 5 → SomeIff read (IsOctal digits 32767) (digits_value 8 digits)
    → SomeIff read (IsVersion digits) (digits_value 8 digits)
read-version digits None few octal = λ version. octal (IsOctal-version digits version)
read-version digits (Some value) few octal =
    (record { octal_digits = octal.0.octal_digits; some_digit = octal.0.some_digit; five_digits = few }, octal.1)

-- a number of a version asks for versions that there are
pub numbered-AreVersions : (digits : List ℕ) (number : ℕ) (versions : Versions) → IsVersion digits → number ≡ digits_value 8 digits
    → (number ≡ 0 → versions ≡ Highest) → ((number ≡ 0 → ⊥) → versions ≡ Exactly number) → AreVersions versions
numbered-AreVersions digits zero versions written value none some = rw (none refl) tt
numbered-AreVersions digits (suc n) versions written value none some =
    let most : digits_value 8 digits ≤ 32767 = (IsOctal-version digits written).at_most in
    rw (some (λ is. omega (arith, is))) (omega arith, omega (arith, most, value))

-- `*` is no digit
star_no_digit : (number : ℕ) → IsNumber (42 ∷ []) number → ⊥
star_no_digit number is =
    let small : digit_value 42 < 8 = AllDigits-at (42 ∷ []) 0 is.written.octal_digits (omega arith) in
    omega (arith, small)

empty_no_number : (number : ℕ) → IsNumber [] number → ⊥
empty_no_number number is = let some : 0 < 0 = is.written.some_digit in omega (arith, some)

-- digits ask for versions in one way
pub DigitsAskFor-one : (digits : List ℕ) (a b : Versions) → DigitsAskFor digits a → DigitsAskFor digits b → AreVersions a → AreVersions b
    → a ≡ b
DigitsAskFor-one digits Highest Highest x y p q = refl
DigitsAskFor-one digits Highest Each (inl none) y p q = cc
DigitsAskFor-one digits Highest Each (inr number) y p q = absurd (star_no_digit 0 (subst (λ ds. IsNumber ds 0) y number))
DigitsAskFor-one digits Highest (Exactly version) (inl none) y p q =
    absurd (empty_no_number version (subst (λ ds. IsNumber ds version) none y))
DigitsAskFor-one digits Highest (Exactly version) (inr number) y p q =
    let same : 0 ≡ version = number.value ∙ sym y.value in absurd (omega (arith, same, q.0))
DigitsAskFor-one digits Each Highest x (inl none) p q = cc
DigitsAskFor-one digits Each Highest x (inr number) p q = absurd (star_no_digit 0 (subst (λ ds. IsNumber ds 0) x number))
DigitsAskFor-one digits Each Each x y p q = refl
DigitsAskFor-one digits Each (Exactly version) x y p q = absurd (star_no_digit version (subst (λ ds. IsNumber ds version) x y))
DigitsAskFor-one digits (Exactly version) Highest x (inl none) p q =
    absurd (empty_no_number version (subst (λ ds. IsNumber ds version) none x))
DigitsAskFor-one digits (Exactly version) Highest x (inr number) p q =
    let same : 0 ≡ version = number.value ∙ sym x.value in absurd (omega (arith, same, p.0))
DigitsAskFor-one digits (Exactly version) Each x y p q = absurd (star_no_digit version (subst (λ ds. IsNumber ds version) y x))
DigitsAskFor-one digits (Exactly a) (Exactly b) x y p q = ap Exactly (x.value ∙ sym y.value)

pub BehindAsksFor-one : (behind : List ℕ) (a b : Versions) → BehindAsksFor behind a → BehindAsksFor behind b → AreVersions a → AreVersions b
    → a ≡ b
BehindAsksFor-one [] a b x y p q = x ∙ sym y
BehindAsksFor-one (c ∷ digits) a b x y p q = DigitsAskFor-one digits a b x.1 y.1 p q
