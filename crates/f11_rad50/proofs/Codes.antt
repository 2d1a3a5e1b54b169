-- A character and its code, three characters and their word.
use Rattle.std.proofs.Common.{◌≡◌, ℕ, ◌+◌, ◌*◌, ◌/◌, ◌%◌, ◌<◌, ◌≤◌, List, [], ◌∷◌, length, All, slice_index_or, arith, refl, inl, inr}
use Rattle.std.proofs.lemmas.Bool.Decides.{nat_tests}
use Rattle.std.proofs.lemmas.Bool.{cases_lt}
use Rattle.f11_rad50.specs.Radix50.{code_of, character_of, radix50, characters_of, IsCharacter, IsRadix50}

-- a code is below forty
pub code_of-lt : (c : ℕ) → code_of c < 40
unfolding code_of
code_of-lt c = grind (arith, nat_tests)

pub ruleset bounds = code_of-lt

-- a character of a code has that code
pub code_of-character_of : (d : ℕ) → d < 40 → code_of (character_of d) ≡ d
unfolding code_of character_of
code_of-character_of d h = grind (arith, nat_tests)

-- no character is made of a larger code
pub code_of-character_of_past : (d : ℕ) → 40 ≤ d → code_of (character_of d) ≡ 29
unfolding code_of character_of
code_of-character_of_past d h = grind (arith, nat_tests)

-- the code of a character has that character
pub character_of-code_of : (c : ℕ) → IsCharacter c → character_of (code_of c) ≡ c
unfolding code_of character_of
character_of-code_of c h = grind (arith, nat_tests)

-- the character at a place, a space past the end
abbrev place : List ℕ → ℕ → ℕ
place cs i = slice_index_or cs i 32

-- three digits in base forty are read back
digits_in_forty : (a b c : ℕ) → a < 40 → b < 40 → c < 40
    → (((a * 40 + b) * 40 + c) / 1600 ≡ a) × (((a * 40 + b) * 40 + c) / 40 % 40 ≡ b) × (((a * 40 + b) * 40 + c) % 40 ≡ c)
digits_in_forty a b c x y z = (omega arith, omega arith, omega arith)

-- the characters of a value are those that it was made of
pub characters_of-radix50 : (cs : List ℕ) → IsCharacter (place cs 0) → IsCharacter (place cs 1) → IsCharacter (place cs 2)
    → characters_of (radix50 cs) ≡ place cs 0 ∷ place cs 1 ∷ place cs 2 ∷ []
unfolding radix50 characters_of
characters_of-radix50 cs x y z =
    let d = digits_in_forty (code_of (place cs 0)) (code_of (place cs 1)) (code_of (place cs 2)) (code_of-lt _) (code_of-lt _)
    (code_of-lt _) in
    rw (d.0, d.1, d.2, character_of-code_of (place cs 0) x, character_of-code_of (place cs 1) y, character_of-code_of (place cs 2) z) refl

-- a value is below 64000
pub radix50-lt : (cs : List ℕ) → radix50 cs < 64000
unfolding radix50
radix50-lt cs = omega (arith, code_of-lt (place cs 0), code_of-lt (place cs 1), code_of-lt (place cs 2))

pub ruleset limits = radix50-lt

-- a character of the set comes of a code below forty
below_forty : (d : ℕ) → IsCharacter (character_of d) → d < 40
below_forty d h = elim (cases_lt d 40) as (λ _. d < 40) [ inl lt ↦ lt | inr ge ↦ absurd (h (code_of-character_of_past d ge)) ]

-- the value of a word's characters is the word
pub radix50-characters_of : (w : ℕ) → All IsCharacter (characters_of w) → radix50 (characters_of w) ≡ w
unfolding radix50 characters_of
radix50-characters_of w h =
    let high = below_forty (w / 1600) (h 0 32 (omega arith)) in
    rw (code_of-character_of (w / 1600) high, code_of-character_of (w / 40 % 40) (omega arith), code_of-character_of (w % 40) (omega arith))
    (omega arith)

length-characters_of : (w : ℕ) → length (characters_of w) ≡ 3
unfolding characters_of
length-characters_of w = refl

-- so a word is the value of its characters, where they are in the set
pub IsRadix50-characters_of : (cs : List ℕ) (w : ℕ) → cs ≡ characters_of w → All IsCharacter cs → IsRadix50 cs w
IsRadix50-characters_of cs w e h =
    let in_set : All IsCharacter (characters_of w) = rw e at h in
    record { three = rw e (length-characters_of w); in_set = h; value = rw e (radix50-characters_of w in_set) }

-- and the value of three characters of the set gives them back
pub characters_of-IsRadix50 : (cs : List ℕ) (w : ℕ) → IsRadix50 cs w → characters_of w ≡ cs
characters_of-IsRadix50 [] w r = cc
characters_of-IsRadix50 (a ∷ []) w r = cc
characters_of-IsRadix50 (a ∷ b ∷ []) w r = cc
characters_of-IsRadix50 (a ∷ b ∷ c ∷ []) w r =
    rw (← r.value) (characters_of-radix50 (a ∷ b ∷ c ∷ []) (r.in_set 0 32 (omega arith)) (r.in_set 1 32 (omega arith))
    (r.in_set 2 32 (omega arith)))
characters_of-IsRadix50 (a ∷ b ∷ c ∷ d ∷ cs) w r = absurd (omega (arith, r.three))
