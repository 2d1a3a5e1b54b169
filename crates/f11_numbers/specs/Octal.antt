-- Octal numbers among the words, users' codes and protection words (profile).
use Rattle.std.specs.Prelude.{◌≡◌, ◌≤◌, ℕ, List, ◌∷◌, ◌++◌, length}
use Rattle.std.specs.Str.Parse.{digits_value}
use Rattle.f11_bytes.specs.Octal.{IsOctal}
use Rattle.f11_store.specs.declared.callers.Uic.{Uic}

-- A user's code is spelled as its group, a comma (44) and its member, each in octal and at most 377, which is 255.
pub record SpellsUic (text : List ℕ) (uic : Uic) : Type 0 where
  pub group : List ℕ
  pub member : List ℕ
  pub is_text : text ≡ group ++ (44 ∷ member)
  pub group_digits : IsOctal group 255
  pub member_digits : IsOctal member 255
  pub group_value : uic.group ≡ digits_value 8 group
  pub member_value : uic.member ≡ digits_value 8 member

-- A protection word is one to six octal digits of at most 177777, which is 65535.
pub record IsProtection (digits : List ℕ) : Type 0 where
  pub octal : IsOctal digits 65535
  pub six_digits : length digits ≤ 6

-- a text spells a protection word, which is the value of its digits
abbrev pub SpellsProtection : List ℕ → ℕ → Type 0
SpellsProtection text protection = IsProtection text × (protection ≡ digits_value 8 text)
