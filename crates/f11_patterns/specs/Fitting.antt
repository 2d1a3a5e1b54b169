-- Names that are fitted to what a volume may have, for files of the host whose own are none (profile). Characters are named by their ASCII
-- codes.
use Rattle.std.specs.Prelude.{ℕ, ◌+◌, ◌-◌, Bool, nat_lt, List, [], ◌∷◌, ◌++◌, length, take, drop, map, filter, Option}
use Rattle.std.specs.Int.Digits.{digits_of}
use Rattle.std.specs.Option.{option_map_or}
use Rattle.std.specs.Path.{rfind_below}
use Rattle.std.specs.Str.{str_to_ascii_uppercase}
use Rattle.f11_rad50.specs.Name.{is_name_character, words_of}

-- where the last dot of a text stands
abbrev pub last_dot : List ℕ → Option ℕ
last_dot text = rfind_below 46 text (length text)

-- Its name stands before that, and is all of a text without one; its type stands behind it.
abbrev pub name_before : List ℕ → List ℕ
name_before text = option_map_or (λ at. take at text) (last_dot text) text

abbrev pub type_behind : List ℕ → List ℕ
type_behind text = option_map_or (λ at. drop (at + 1) text) (last_dot text) []

-- Those characters of it stay that a name may have, small letters as capitals.
abbrev pub kept_of : List ℕ → List ℕ
kept_of text = filter is_name_character (str_to_ascii_uppercase text)

-- A number in decimal digits; 0 has none.
unfoldable pub numeral : ℕ → List ℕ
numeral number = map (λ d. 48 + d) (digits_of 10 number)

-- The candidate of a number: the number stands behind so many characters of the name that both fit into the width,
abbrev pub fitted_name : ℕ → ℕ → List ℕ → List ℕ
fitted_name width number part = take (width - length (numeral number)) (kept_of (name_before part)) ++ numeral number

-- and three of the type stay.
abbrev pub fitted_type : List ℕ → List ℕ
fitted_type part = take 3 (kept_of (type_behind part))

-- its text
abbrev pub fitted_text : ℕ → ℕ → List ℕ → List ℕ
fitted_text width number part = fitted_name width number part ++ 46 ∷ fitted_type part

-- On Files-11 a name has nine characters, and a fitted one version 1.
abbrev pub candidate : List ℕ → ℕ → List ℕ
candidate part number = words_of (fitted_name 9 number part) (fitted_type part) 1

-- something of a text stays for a name or a type
abbrev pub has_some : List ℕ → Bool
has_some part = nat_lt 0 (length (fitted_name 9 0 part) + length (fitted_type part))
