-- Numbers in octal (profile).
use Rattle.std.specs.Prelude.{ℕ, ◌<◌, ◌≤◌, List, length}
use Rattle.std.specs.Str.Parse.{AllDigits, digits_value}

-- a number of at most so much, in one octal digit or more
pub record IsOctal (digits : List ℕ) (most : ℕ) : Type 0 where
  pub octal_digits : AllDigits 8 digits
  pub some_digit : 0 < length digits
  pub at_most : digits_value 8 digits ≤ most
