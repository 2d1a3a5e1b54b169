-- The name of a file on an RT-11 volume: one to six characters, and a type of up to three (RT-11 Volume and File Formats Manual,
-- "Directory Entry"; profile: which characters). A name is seen as the list of its three words.
use Rattle.std.specs.Prelude.{◌≡◌, ℕ, ◌<◌, ◌≤◌, ◌==◌, ◌&&◌, Bool, not, List, [], ◌∷◌, ◌++◌, length, drop, slice_index}
use Rattle.std.specs.List.{AllPass}
use Rattle.f11_rad50.specs.Name.{is_name_character, unpadded, is_name}
use Rattle.f11_rad50.specs.Radix50.{radix50, characters_of}

-- one to six characters of a name and up to three of a type, each `A` to `Z`, `0` to `9` or `$`
pub record IsRtProper (name type : List ℕ) : Type 0 where
  pub name_characters : AllPass is_name_character name
  pub name_some : 0 < length name
  pub name_length : length name ≤ 6
  pub type_characters : AllPass is_name_character type
  pub type_length : length type ≤ 3

-- two words of the name and one of the type in Radix-50, padded with spaces
unfoldable pub rt_words_of : List ℕ → List ℕ → List ℕ
rt_words_of name type = radix50 name ∷ radix50 (drop 3 name) ∷ radix50 type ∷ []

-- the characters of the name in three words, and of the type
unfoldable pub rt_name_of : List ℕ → List ℕ
rt_name_of words = unpadded (characters_of (slice_index words 0) ++ characters_of (slice_index words 1))

unfoldable pub rt_type_of : List ℕ → List ℕ
rt_type_of words = unpadded (characters_of (slice_index words 2))

-- three words are a name where what they spell is proper and has these words
pub record IsRtName (words : List ℕ) : Type 0 where
  pub proper : IsRtProper (rt_name_of words) (rt_type_of words)
  pub same_words : rt_words_of (rt_name_of words) (rt_type_of words) ≡ words

-- the text of a name: `NAME.TYP` (profile), with a dot, 46 in ASCII
unfoldable pub rt_name_text : List ℕ → List ℕ
rt_name_text words = rt_name_of words ++ (46 ∷ rt_type_of words)

-- a text spells the name with these words: a proper name and type with a dot between them (profile)
pub record RtSpells (text words : List ℕ) : Type 0 where
  pub name : List ℕ
  pub type : List ℕ
  pub is_text : text ≡ name ++ (46 ∷ type)
  pub proper : IsRtProper name type
  pub same_words : rt_words_of name type ≡ words

-- whether three words are a name: those of a Files-11 name of six characters at most, with one at least before the dot
abbrev pub is_rt_name : List ℕ → Bool
is_rt_name words = not (slice_index words 0 == 0) && is_name (slice_index words 0 ∷ slice_index words 1 ∷ 0 ∷ slice_index words 2 ∷ 1 ∷ [])

-- the words of a Files-11 name with the same characters, and version 1
abbrev pub with_version : List ℕ → List ℕ
with_version words = slice_index words 0 ∷ slice_index words 1 ∷ 0 ∷ slice_index words 2 ∷ 1 ∷ []
