use Rattle.std.proofs.Common.{◌≤◌, ℕ, List, length, Option, Some, None}
use Rattle.std.specs.Prelude.{SomeIff}
use Rattle.std.specs.Str.Parse.{digits_value}
use Rattle.f11_bytes.specs.Octal.{IsOctal}
use Rattle.f11_rad50.specs.Name.{IsVersion}
use Rattle.f11_rad50.proofs.Places.{IsOctal-version}
use Rattle.f11_rad50.proofs.pieces.read_version.Goals as goal

-- of up to five digits those of a version are those of an octal number
is_version : (ds : List ℕ) (read : Option ℕ) → length ds ≤ 5 → SomeIff read (IsOctal ds 32767) (digits_value 8 ds)
    → SomeIff read (IsVersion ds) (digits_value 8 ds)
is_version ds None few octal = λ version. octal (IsOctal-version ds version)
is_version ds (Some value) few octal =
    (record { octal_digits = octal.0.octal_digits; some_digit = octal.0.some_digit; five_digits = few }, octal.1)

pub returns : goal.returns
returns c = is_version _ _ c.if-digits-gt-VERSION_DIGITS.false c.octal_value.ensures
