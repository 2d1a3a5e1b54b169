-- The line of `rights` (profile).
use Rattle.std.specs.Prelude.{ℕ, Bool, List, [], ◌∷◌, if◌then◌else◌}
use Rattle.f11_store.specs.Rights.{may}
use Rattle.f11_store.specs.declared.callers.Uic.{Uic}
use Rattle.f11_store.specs.declared.protection.Right.TheVariants as right

-- a right's letter where the caller has it, and a hyphen (45) where it is missing
abbrev pub letter_or_hyphen : Bool → ℕ → ℕ
letter_or_hyphen granted letter = if granted then letter else 45

-- the letters R, W, E and D (82, 87, 69, 68), for reading, writing, extending and deleting
abbrev pub rights_line : Uic → Uic → ℕ → List ℕ
rights_line caller owner word = letter_or_hyphen (may caller owner word right.Read) 82
    ∷ letter_or_hyphen (may caller owner word right.Write) 87
    ∷ letter_or_hyphen (may caller owner word right.Extend) 69
    ∷ letter_or_hyphen (may caller owner word right.Delete) 68 ∷ 10 ∷ []
