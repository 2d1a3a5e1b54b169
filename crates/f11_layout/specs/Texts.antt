-- The texts of a fresh home block (Files-11 On-Disk Structure Level 1, "Home Block").
use Rattle.std.specs.Prelude.{ℕ, ◌+◌, ◌/◌, ◌%◌, List, [], ◌∷◌, ◌++◌}
use Rattle.f11_map.specs.store.declared.callers.Uic.{Uic}

-- a number below 512 as three octal digits
abbrev pub three_digits : ℕ → List ℕ
three_digits n = (48 + n / 64) ∷ (48 + n / 8 % 8) ∷ (48 + n % 8) ∷ []

-- an owner as `[ggg,mmm]` and three spaces
abbrev pub owner_text : Uic → List ℕ
owner_text owner = 91 ∷ (three_digits owner.group ++ (44 ∷ (three_digits owner.member ++ (93 ∷ 32 ∷ 32 ∷ 32 ∷ []))))
