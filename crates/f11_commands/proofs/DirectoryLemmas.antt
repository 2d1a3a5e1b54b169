-- The name of a user's directory is one.
use Rattle.std.proofs.Common.{◌≡◌, ℕ, zero, suc, ◌+◌, ◌/◌, ◌%◌, ◌<◌, ◌&&◌, Bool, true, false, List, [], ◌++◌, codes, refl, arith}
use Rattle.std.specs.List.{list_all}
use Rattle.std.proofs.lemmas.List.Sums.{AllPass-from_list_all}
use Rattle.f11_rad50.specs.Name.{IsProper, Spells, is_name_character}
use Rattle.f11_store.specs.declared.callers.Uic.{Uic}
use Rattle.f11_commands.specs.Copying.{directory_name, three_octal}
use Rattle.f11_commands.specs.Finding.{directory_text}

digit : (d : ℕ) → d < 8 → is_name_character (48 + d) ≡ true
unfolding is_name_character
digit zero small = refl
digit (suc zero) small = refl
digit (suc (suc zero)) small = refl
digit (suc (suc (suc zero))) small = refl
digit (suc (suc (suc (suc zero)))) small = refl
digit (suc (suc (suc (suc (suc zero))))) small = refl
digit (suc (suc (suc (suc (suc (suc zero)))))) small = refl
digit (suc (suc (suc (suc (suc (suc (suc zero))))))) small = refl
digit (suc (suc (suc (suc (suc (suc (suc (suc d)))))))) small = absurd (omega (arith, small))

both : {b c : Bool} → b ≡ true → c ≡ true → (b && c) ≡ true
both {b = true} h k = k
both {b = false} h k = absurd (let never : false ≡ true = h in cc)

three : (n : ℕ) (rest : List ℕ) → list_all is_name_character rest ≡ true → list_all is_name_character (three_octal n ++ rest) ≡ true
three n rest all =
    both (digit (n / 64 % 8) (omega arith)) (both (digit (n / 8 % 8) (omega arith)) (both (digit (n % 8) (omega arith)) all))

kind : list_all is_name_character (codes "DIR") ≡ true
unfolding is_name_character
kind = refl

proper : (uic : Uic) → IsProper (three_octal uic.group ++ three_octal uic.member) (codes "DIR") 1
proper uic = record {
  name_characters = AllPass-from_list_all is_name_character (three_octal uic.group ++ three_octal uic.member)
      (three uic.group (three_octal uic.member) (three uic.member [] refl));
  name_length = omega arith;
  type_characters = AllPass-from_list_all is_name_character (codes "DIR") kind;
  type_length = omega arith;
  not_empty = omega arith;
  version_from = omega arith;
  version_to = omega arith;
}

pub directory-spells : (uic : Uic) → Spells (directory_text uic) (directory_name uic)
directory-spells uic = record {
  name = three_octal uic.group ++ three_octal uic.member;
  type = codes "DIR";
  digits = codes "1";
  is_text = refl;
  version = record { octal_digits = (omega arith, tt); some_digit = omega arith; five_digits = omega arith };
  proper = proper uic;
  same_words = refl;
}
