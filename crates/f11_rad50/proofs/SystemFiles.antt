-- Worked values: the words of the five system files' names, which are names, and a longest text.
use Rattle.std.proofs.Common.{◌≡◌, ℕ, ◌+◌, ◌<◌, ◌≤◌, true, List, [], ◌∷◌, length, codes, refl, arith}
use Rattle.std.specs.List.{list_all}
use Rattle.std.proofs.lemmas.List.Sums.{AllPass-from_list_all}
use Rattle.f11_rad50.specs.Radix50.{code_of, character_of, radix50, characters_of}
use Rattle.f11_rad50.specs.Name.{is_name_character, words_of, name_of, type_of, octal, name_text, IsName, IsProper}
use Rattle.f11_rad50.proofs.Words.{IsName-from_parts}

-- parts that pass the tests have words that are a name
IsName-tested : (words name type : List ℕ) (version : ℕ) → list_all is_name_character name ≡ true → list_all is_name_character type ≡ true
    → length name ≤ 9 → length type ≤ 3 → 0 < length name + length type → 0 < version → version < 32768 → words_of name type version ≡ words
    → IsName words
IsName-tested words name type version n t nl tl some low high e =
    let proper : IsProper name type version = record {
      name_characters = AllPass-from_list_all is_name_character name n;
      name_length = nl;
      type_characters = AllPass-from_list_all is_name_character type t;
      type_length = tl;
      not_empty = some;
      version_from = low;
      version_to = high;
    } in
    IsName-from_parts words name type version proper e

-- `INDEXF.SYS;1`
pub index_file : IsName (14964 ∷ 8966 ∷ 0 ∷ 31419 ∷ 1 ∷ [])
unfolding is_name_character words_of radix50 code_of
index_file =
    IsName-tested _ (codes "INDEXF") (codes "SYS") 1 refl refl (omega arith) (omega arith) (omega arith) (omega arith) (omega arith) refl

-- `BITMAP.SYS;1`
pub bitmap_file : IsName (3580 ∷ 20856 ∷ 0 ∷ 31419 ∷ 1 ∷ [])
unfolding is_name_character words_of radix50 code_of
bitmap_file =
    IsName-tested _ (codes "BITMAP") (codes "SYS") 1 refl refl (omega arith) (omega arith) (omega arith) (omega arith) (omega arith) refl

-- `BADBLK.SYS;1`
pub bad_block_file : IsName (3244 ∷ 3691 ∷ 0 ∷ 31419 ∷ 1 ∷ [])
unfolding is_name_character words_of radix50 code_of
bad_block_file =
    IsName-tested _ (codes "BADBLK") (codes "SYS") 1 refl refl (omega arith) (omega arith) (omega arith) (omega arith) (omega arith) refl

-- `000000.DIR;1`
pub master_directory : IsName (49230 ∷ 49230 ∷ 0 ∷ 6778 ∷ 1 ∷ [])
unfolding is_name_character words_of radix50 code_of
master_directory =
    IsName-tested _ (codes "000000") (codes "DIR") 1 refl refl (omega arith) (omega arith) (omega arith) (omega arith) (omega arith) refl

-- `CORIMG.SYS;1`
pub core_image_file : IsName (5418 ∷ 14927 ∷ 0 ∷ 31419 ∷ 1 ∷ [])
unfolding is_name_character words_of radix50 code_of
core_image_file =
    IsName-tested _ (codes "CORIMG") (codes "SYS") 1 refl refl (omega arith) (omega arith) (omega arith) (omega arith) (omega arith) refl

-- the longest text: version 32767 is 77777 in octal
pub longest_text : name_text (1683 ∷ 6606 ∷ 11529 ∷ 32980 ∷ 32767 ∷ []) ≡ codes "ABCDEFGHI.TXT;77777"
unfolding name_text name_of type_of characters_of character_of octal
longest_text = refl
