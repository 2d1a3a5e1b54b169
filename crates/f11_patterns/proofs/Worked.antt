-- Worked values.
use Rattle.std.proofs.Common.{◌≡◌, ℕ, ◌+◌, ◌<◌, ◌≤◌, true, List, [], ◌∷◌, length, codes, Some, refl, arith, inr}
use Rattle.std.specs.List.{list_all}
use Rattle.std.specs.Char.{digit_value}
use Rattle.std.specs.Str.Parse.{digits_value}
use Rattle.std.proofs.lemmas.List.Sums.{AllPass-from_list_all}
use Rattle.f11_rad50.specs.Radix50.{code_of, character_of, radix50, characters_of}
use Rattle.f11_rad50.specs.Name.{is_name_character, words_of, name_of, type_of, are_parts, words_spelled}
use Rattle.f11_rad50.proofs.Spelled.{words_spelled-only}
use Rattle.f11_patterns.specs.declared.versions.Versions.TheVariants.{Highest, Each, Exactly}
use Rattle.f11_patterns.specs.Like.{IsLike}
use Rattle.f11_patterns.specs.Parts.{Parts, AreParts, is_pattern_character}
use Rattle.f11_patterns.specs.Pattern.{IsNumber, IsPattern, Fits, TextFits}
use Rattle.f11_patterns.specs.Laws.{StarWorks, PercentWorks, HighestWorks}
use Rattle.f11_patterns.proofs.PatternLemmas.{TextFits-one}

-- a name and a type that pass the tests are those of a pattern
AreParts-tested : (name kind : List ℕ) → list_all is_pattern_character name ≡ true → list_all is_pattern_character kind ≡ true
    → length name ≤ 9 → length kind ≤ 3 → 0 < length name + length kind → AreParts name kind
AreParts-tested name kind name_passes kind_passes nine three some = record {
  name_characters = AllPass-from_list_all is_pattern_character name name_passes;
  name_length = nine;
  kind_characters = AllPass-from_list_all is_pattern_character kind kind_passes;
  kind_length = three;
  not_empty = some;
}

-- one octal digit is a number
one-digit : (digit : ℕ) → digit_value digit < 8 → IsNumber (digit ∷ []) (digits_value 8 (digit ∷ []))
one-digit digit small = record {
  written = record { octal_digits = (small, tt); some_digit = omega arith; five_digits = omega arith };
  value = refl;
}

-- `*.TXT;*`
star_parts : Parts
star_parts = record { name = codes "*"; kind = codes "TXT"; versions = Each }

star_pattern : IsPattern (codes "*.TXT;*") star_parts
unfolding star_parts is_pattern_character is_name_character
star_pattern = record {
  behind = codes ";*";
  is_text = refl;
  proper = AreParts-tested _ _ refl refl (omega arith) (omega arith) (omega arith);
  asks = (refl, refl);
  version = tt;
}

-- `A%.*;1`
percent_parts : Parts
percent_parts = record { name = codes "A%"; kind = codes "*"; versions = Exactly 1 }

percent_pattern : IsPattern (codes "A%.*;1") percent_parts
unfolding percent_parts is_pattern_character is_name_character
percent_pattern = record {
  behind = codes ";1";
  is_text = refl;
  proper = AreParts-tested _ _ refl refl (omega arith) (omega arith) (omega arith);
  asks = (refl, one-digit 49 (omega arith));
  version = (omega arith, omega arith);
}

-- `login.cmd`, `LOGIN.CMD;0` and `LOGIN.CMD;1`
login_parts : Parts
login_parts = record { name = codes "login"; kind = codes "cmd"; versions = Highest }

login_pattern : IsPattern (codes "login.cmd") login_parts
unfolding login_parts is_pattern_character is_name_character
login_pattern = record {
  behind = [];
  is_text = refl;
  proper = AreParts-tested _ _ refl refl (omega arith) (omega arith) (omega arith);
  asks = refl;
  version = tt;
}

zero_parts : Parts
zero_parts = record { name = codes "LOGIN"; kind = codes "CMD"; versions = Highest }

zero_pattern : IsPattern (codes "LOGIN.CMD;0") zero_parts
unfolding zero_parts is_pattern_character is_name_character
zero_pattern = record {
  behind = codes ";0";
  is_text = refl;
  proper = AreParts-tested _ _ refl refl (omega arith) (omega arith) (omega arith);
  asks = (refl, inr (one-digit 48 (omega arith)));
  version = tt;
}

first_parts : Parts
first_parts = record { name = codes "LOGIN"; kind = codes "CMD"; versions = Exactly 1 }

first_pattern : IsPattern (codes "LOGIN.CMD;1") first_parts
unfolding first_parts is_pattern_character is_name_character
first_pattern = record {
  behind = codes ";1";
  is_text = refl;
  proper = AreParts-tested _ _ refl refl (omega arith) (omega arith) (omega arith);
  asks = (refl, one-digit 49 (omega arith));
  version = (omega arith, omega arith);
}

-- names by their words
spelled_login : words_spelled (codes "LOGIN.CMD;3") ≡ Some (19807 ∷ 14960 ∷ 0 ∷ 5324 ∷ 3 ∷ [])
unfolding words_spelled are_parts is_name_character words_of radix50 code_of
spelled_login = refl

spelled_a_txt : words_spelled (codes "A.TXT;7") ≡ Some (1600 ∷ 0 ∷ 0 ∷ 32980 ∷ 7 ∷ [])
unfolding words_spelled are_parts is_name_character words_of radix50 code_of
spelled_a_txt = refl

spelled_a_txx : words_spelled (codes "A.TXX;7") ≡ Some (1600 ∷ 0 ∷ 0 ∷ 32984 ∷ 7 ∷ [])
unfolding words_spelled are_parts is_name_character words_of radix50 code_of
spelled_a_txx = refl

spelled_ab_c : words_spelled (codes "AB.C;1") ≡ Some (1680 ∷ 0 ∷ 0 ∷ 4800 ∷ 1 ∷ [])
unfolding words_spelled are_parts is_name_character words_of radix50 code_of
spelled_ab_c = refl

spelled_a_c : words_spelled (codes "A.C;1") ≡ Some (1600 ∷ 0 ∷ 0 ∷ 4800 ∷ 1 ∷ [])
unfolding words_spelled are_parts is_name_character words_of radix50 code_of
spelled_a_c = refl

spelled_abc_c : words_spelled (codes "ABC.C;1") ≡ Some (1683 ∷ 0 ∷ 0 ∷ 4800 ∷ 1 ∷ [])
unfolding words_spelled are_parts is_name_character words_of radix50 code_of
spelled_abc_c = refl

-- where a name's words fit a pattern's parts, the texts do, and where they don't, neither do the texts
texts-fit : (pattern name : List ℕ) (parts : Parts) (words : List ℕ) → IsPattern pattern parts → words_spelled name ≡ Some words
    → Fits parts words → TextFits pattern name
texts-fit pattern name parts words is spelled fits = record {
  parts = parts;
  words = words;
  is_pattern = is;
  spells = words_spelled-only name words spelled;
  fits = fits;
}

texts-differ : (pattern name : List ℕ) (parts : Parts) (words : List ℕ) → IsPattern pattern parts → words_spelled name ≡ Some words
    → (Fits parts words → ⊥) → TextFits pattern name → ⊥
texts-differ pattern name parts words is spelled differs text =
    differs (TextFits-one pattern name parts words is spelled text)

pub star-works : StarWorks
unfolding star_parts name_of type_of characters_of character_of
star-works = (
  texts-fit (codes "*.TXT;*") (codes "A.TXT;7") star_parts _ star_pattern spelled_a_txt (record {
    name = (1, (omega arith, refl));
    kind = (omega arith, ((λ _. refl), (omega arith, ((λ _. refl), (omega arith, ((λ _. refl), refl))))));
    version = tt;
  }),
  texts-differ (codes "*.TXT;*") (codes "A.TXX;7") star_parts _ star_pattern spelled_a_txx (λ fits.
      let t : 88 ≡ 84 = fits.kind.1.1.1.1.1.0 (λ is. absurd (omega (arith, is))) in absurd (omega (arith, t))),
)

pub percent-works : PercentWorks
unfolding percent_parts name_of type_of characters_of character_of
percent-works = (
  texts-fit (codes "A%.*;1") (codes "AB.C;1") percent_parts _ percent_pattern spelled_ab_c (record {
    name = (omega arith, ((λ _. refl), (omega arith, ((λ other. absurd (other refl)), refl))));
    kind = (1, (omega arith, refl));
    version = refl;
  }),
  texts-differ (codes "A%.*;1") (codes "A.C;1") percent_parts _ percent_pattern spelled_a_c (λ fits.
      let some : 0 < 0 = fits.name.1.1.0 in absurd (omega (arith, some))),
  texts-differ (codes "A%.*;1") (codes "ABC.C;1") percent_parts _ percent_pattern spelled_abc_c (λ fits.
      let left : 67 ∷ [] ≡ [] = fits.name.1.1.1.1 in absurd (cc)),
)

-- a part is like itself, in small letters too
small_login : IsLike (codes "login") (codes "LOGIN")
small_login = (
  omega arith,
  (
    (λ _. refl),
    (
      omega arith,
      (
        (λ _. refl),
        (
          omega arith,
          (
            (λ _. refl),
            (
              omega arith,
              (
                (λ _. refl),
                (omega arith, ((λ _. refl), refl)),
              ),
            ),
          ),
        ),
      ),
    ),
  ),
)

small_cmd : IsLike (codes "cmd") (codes "CMD")
small_cmd = (omega arith, ((λ _. refl), (omega arith, ((λ _. refl), (omega arith, ((λ _. refl), refl))))))

is_login : IsLike (codes "LOGIN") (codes "LOGIN")
is_login = (
  omega arith,
  (
    (λ _. refl),
    (
      omega arith,
      (
        (λ _. refl),
        (
          omega arith,
          (
            (λ _. refl),
            (
              omega arith,
              (
                (λ _. refl),
                (omega arith, ((λ _. refl), refl)),
              ),
            ),
          ),
        ),
      ),
    ),
  ),
)

is_cmd : IsLike (codes "CMD") (codes "CMD")
is_cmd = (omega arith, ((λ _. refl), (omega arith, ((λ _. refl), (omega arith, ((λ _. refl), refl))))))

pub highest-works : HighestWorks
unfolding login_parts zero_parts first_parts name_of type_of characters_of character_of
highest-works = (
  texts-fit (codes "login.cmd") (codes "LOGIN.CMD;3") login_parts _ login_pattern spelled_login (record {
    name = small_login;
    kind = small_cmd;
    version = tt;
  }),
  texts-fit (codes "LOGIN.CMD;0") (codes "LOGIN.CMD;3") zero_parts _ zero_pattern spelled_login (record {
    name = is_login;
    kind = is_cmd;
    version = tt;
  }),
  texts-differ (codes "LOGIN.CMD;1") (codes "LOGIN.CMD;3") first_parts _ first_pattern spelled_login (λ fits.
      let version : 3 ≡ 1 = fits.version in absurd (omega (arith, version))),
)
