-- Decimal numbers among the words (profile).
use Rattle.std.specs.Prelude.{◌≡◌, ◌≤◌, ℕ, List}
use Rattle.std.specs.Str.Parse.{IsNumeral, digits_value}

-- a number is one decimal digit or more, and at most 65535
pub record IsNumber (text : List ℕ) : Type 0 where
  pub numeral : IsNumeral 10 text
  pub at_most : digits_value 10 text ≤ 65535

-- a text spells a number, which is the value of its digits
abbrev pub SpellsNumber : List ℕ → ℕ → Type 0
SpellsNumber text number = IsNumber text × (number ≡ digits_value 10 text)

-- a number of blocks is one decimal digit or more, and at most 4294967295
pub record IsCount (text : List ℕ) : Type 0 where
  pub numeral : IsNumeral 10 text
  pub at_most : digits_value 10 text ≤ 4294967295

-- a text spells a number of blocks, which is the value of its digits
abbrev pub SpellsCount : List ℕ → ℕ → Type 0
SpellsCount text count = IsCount text × (count ≡ digits_value 10 text)
