-- The name of a file: its parts, its five words and its text (Files-11 On-Disk Structure Level 1,
-- file names). A name is seen as the list of its words.
use Rattle.std.specs.Prelude.{◌≡◌, ℕ, ◌+◌, ◌<◌, ◌≤◌, Bool, ◌&&◌, ◌||◌, false, List, [], ◌∷◌, ◌++◌, map, length, take, drop, ◌==◌}
use Rattle.std.specs.Prelude.{nat_le, nat_lt, slice_index, position, Option, Some, None, option_map, if◌then◌else◌}
use Rattle.std.specs.Char.{is_digit}
use Rattle.std.specs.Option.{option_and_then, option_map_or}
use Rattle.std.specs.Str.{bytes_eq}
use Rattle.std.specs.List.{before_first, AllPass, list_all}
use Rattle.std.specs.Int.Digits.{digits_of}
use Rattle.std.specs.Str.Parse.{AllDigits, digits_value}
use Rattle.f11_rad50.specs.Radix50.{radix50, characters_of}

-- `A` to `Z`, `0` to `9` and `$` may stand in a name (profile).
unfoldable pub is_name_character : ℕ → Bool
is_name_character c =
    (nat_le 65 c && nat_le c 90) || ((nat_le 48 c && nat_le c 57) || c == 36)

-- Up to nine characters of a name and up to three of a type, not both none, and a version from 1 to
-- 32767.
pub record IsProper (name type : List ℕ) (version : ℕ) : Type 0 where
  pub name_characters : AllPass is_name_character name
  pub name_length : length name ≤ 9
  pub type_characters : AllPass is_name_character type
  pub type_length : length type ≤ 3
  pub not_empty : 0 < length name + length type
  pub version_from : 0 < version
  pub version_to : version < 32768

-- Three words of the name and one of the type in Radix-50, padded with spaces, and the version.
unfoldable pub words_of : List ℕ → List ℕ → ℕ → List ℕ
words_of name type version =
    radix50 name ∷ radix50 (drop 3 name) ∷ radix50 (drop 6 name) ∷ radix50 type ∷ version ∷ []

-- The characters up to the padding, which begins at the first space.
abbrev pub unpadded : List ℕ → List ℕ
unpadded cs = before_first (λ c. c == 32) cs

-- The characters of the name in five words.
unfoldable pub name_of : List ℕ → List ℕ
name_of words =
    unpadded (characters_of (slice_index words 0) ++ (characters_of (slice_index words 1) ++ characters_of (slice_index words 2)))

-- The characters of the type in five words.
unfoldable pub type_of : List ℕ → List ℕ
type_of words = unpadded (characters_of (slice_index words 3))

-- The version in five words.
abbrev pub version_of : List ℕ → ℕ
version_of words = slice_index words 4

-- Five words are a name where what they spell is proper and has these words.
pub record IsName (words : List ℕ) : Type 0 where
  pub proper : IsProper (name_of words) (type_of words) (version_of words)
  pub same_words : words_of (name_of words) (type_of words) (version_of words) ≡ words

-- A number in octal, without leading zeros; 0 has no digits.
unfoldable pub octal : ℕ → List ℕ
octal n = map (λ d. 48 + d) (digits_of 8 n)

-- The text of a name: `NAME.TYP;VERSION` (profile). A dot is 46 in ASCII, a semicolon 59, a zero 48.
unfoldable pub name_text : List ℕ → List ℕ
name_text words =
    name_of words ++ (46 ∷ (type_of words ++ (59 ∷ octal (version_of words))))

-- A version is written in one to five octal digits.
pub record IsVersion (digits : List ℕ) : Type 0 where
  pub octal_digits : AllDigits 8 digits
  pub some_digit : 0 < length digits
  pub five_digits : length digits ≤ 5

-- What stands before and after the first such character, where there is one.
abbrev pub cut_at : ℕ → List ℕ → Option (List ℕ × List ℕ)
cut_at c text = option_map (λ i. (take i text, drop (i + 1) text)) (position (λ x. x == c) text)

-- The test of the parts of a text: a proper name and type, and a version in one to five octal digits.
unfoldable pub are_parts : List ℕ → List ℕ → List ℕ → Bool
are_parts name type digits =
    (list_all is_name_character name && nat_le (length name) 9)
    && ((list_all is_name_character type && nat_le (length type) 3)
    && (nat_lt 0 (length name + length type)
    && ((list_all (λ d. is_digit d 8) digits && (nat_lt 0 (length digits) && nat_le (length digits) 5))
    && (nat_lt 0 (digits_value 8 digits) && nat_lt (digits_value 8 digits) 32768))))

-- The words of parts that pass the test.
abbrev pub words_of_parts : List ℕ → List ℕ → List ℕ → Option (List ℕ)
words_of_parts name type digits =
    if are_parts name type digits then Some (words_of name type (digits_value 8 digits)) else None

-- The words of the parts behind the dot, which a semicolon separates, with the name before it.
abbrev pub words_behind : List ℕ → Option (List ℕ × List ℕ) → Option (List ℕ)
words_behind name None = None
words_behind name (Some parts) = words_of_parts name parts.0 parts.1

-- The same words as a function of the text: those of the name that it spells, if it spells one.
unfoldable pub words_spelled : List ℕ → Option (List ℕ)
words_spelled text = option_and_then (λ parts. words_behind parts.0 (cut_at 59 parts.1)) (cut_at 46 text)

-- Whether five words are a name: what spells them spells a name.
abbrev pub is_name : List ℕ → Bool
is_name words = option_map_or (λ found. bytes_eq found words) (words_spelled (name_text words)) false

-- A text spells the name with these words: a proper name and type with a dot between them, a
-- semicolon, and the version in octal (profile).
pub record Spells (text words : List ℕ) : Type 0 where
  pub name : List ℕ
  pub type : List ℕ
  pub digits : List ℕ
  pub is_text : text ≡ name ++ (46 ∷ (type ++ (59 ∷ digits)))
  pub version : IsVersion digits
  pub proper : IsProper name type (digits_value 8 digits)
  pub same_words : words_of name type (digits_value 8 digits) ≡ words
