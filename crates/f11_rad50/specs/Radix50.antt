-- Radix-50: three characters in a word of sixteen bits (Files-11 On-Disk Structure Level 1, Radix-50).
-- Characters are named by their ASCII codes.
use Rattle.std.specs.Prelude.{◌≡◌, ◌≢◌, ℕ, ◌+◌, ◌-◌, ◌*◌, ◌/◌, ◌%◌, ◌&&◌, List, [], ◌∷◌, length, All}
use Rattle.std.specs.Prelude.{if◌then◌else◌, ◌==◌, nat_le, slice_index_or}

-- The code of a character: a space is 0, `A` to `Z` are 1 to 26, `$` is 27, `.` is 28, `0` to `9`
-- are 30 to 39 (in ASCII 32, 65 to 90, 36, 46, 48 to 57). Any other byte gets 29, which is the code of
-- no character.
unfoldable pub code_of : ℕ → ℕ
code_of c =
    if c == 32 then 0 else
    (if nat_le 65 c && nat_le c 90 then c - 64 else
    (if c == 36 then 27 else
    (if c == 46 then 28 else
    (if nat_le 48 c && nat_le c 57 then c - 18 else 29))))

-- The character of a code. For 29 and above 39 it is a zero byte, which is no character of the set.
unfoldable pub character_of : ℕ → ℕ
character_of d =
    if d == 0 then 32 else
    (if nat_le d 26 then d + 64 else
    (if d == 27 then 36 else
    (if d == 28 then 46 else
    (if nat_le 30 d && nat_le d 39 then d + 18 else 0))))

-- A character of the set is one that has a code.
abbrev pub IsCharacter : ℕ → Type 0
IsCharacter c = code_of c ≢ 29

-- The value of the first three characters of a list, the first one highest, spaces past its end.
unfoldable pub radix50 : List ℕ → ℕ
radix50 cs =
    (code_of (slice_index_or cs 0 32) * 40 + code_of (slice_index_or cs 1 32)) * 40 + code_of (slice_index_or cs 2 32)

-- The three characters of a word.
unfoldable pub characters_of : ℕ → List ℕ
characters_of w =
    character_of (w / 1600) ∷ character_of (w / 40 % 40) ∷ character_of (w % 40) ∷ []

-- Three characters of the set have a word as their value.
pub record IsRadix50 (cs : List ℕ) (w : ℕ) : Type 0 where
  pub three : length cs ≡ 3
  pub in_set : All IsCharacter cs
  pub value : radix50 cs ≡ w
