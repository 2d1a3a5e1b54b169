-- Protection words as RSX-11 shows them: by what each class is granted (RSX-11M Utilities manual, PIP, `/PR` and `/FU`).
use Rattle.std.specs.Prelude.{◌≡◌, ◌≤◌, ℕ, List, [], ◌∷◌, ◌++◌, if◌then◌else◌}
use Rattle.std.specs.Str.{str_to_ascii_uppercase}
use Rattle.f11_store.specs.Rights.{denies}
use Rattle.f11_store.specs.declared.protection.Class.{Class}
use Rattle.f11_store.specs.declared.protection.Class.TheVariants as class
use Rattle.f11_store.specs.declared.protection.Right.{Right}
use Rattle.f11_store.specs.declared.protection.Right.TheVariants as right

-- the letter of a right: R, W, E or D in ASCII
abbrev pub letter_of : Right → ℕ
letter_of right.Read = 82
letter_of right.Write = 87
letter_of right.Extend = 69
letter_of right.Delete = 68

-- that letter where the class isn't denied the right, and else nothing
abbrev pub shown : ℕ → Class → Right → List ℕ
shown word c r = if denies word c r then [] else letter_of r ∷ []

-- what a class is granted: the letters of its rights, in this order
abbrev pub granted : ℕ → Class → List ℕ
granted word c = shown word c right.Read ++ (shown word c right.Write ++ (shown word c right.Extend ++ shown word c right.Delete))

-- what the system, the owner, the group and the world are granted, with commas (44) between them, and in brackets (91 and 93)
abbrev pub rights_text : ℕ → List ℕ
rights_text word =
    91 ∷ (granted word class.System ++ (44 ∷ (granted word class.Owner ++ (44 ∷ (granted word class.Group
    ++ (44 ∷ (granted word class.World ++ (93 ∷ []))))))))

-- A text spells a protection word, of 16 bits, that is shown so; small letters are taken as capitals.
pub record SpellsRights (text : List ℕ) (word : ℕ) : Type 0 where
  pub is_shown : str_to_ascii_uppercase text ≡ rights_text word
  pub at_most : word ≤ 65535
