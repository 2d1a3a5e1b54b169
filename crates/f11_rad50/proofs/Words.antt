-- The words of a name and the characters that they spell.
use Rattle.std.proofs.Common.{◌≡◌, ◌≢◌, ℕ, zero, suc, ◌+◌, ◌≤◌, true, List, [], ◌∷◌, ◌++◌, length, drop, All, slice_index_or, arith, refl}
use Rattle.std.proofs.Common.{sym, ◌∙◌, ap, inl, inr, zero-add, suc-add, drop-drop, not, ◌==◌, false, true≢false, Option, Some, None}
use Rattle.std.proofs.Common.{SomeIff}
use Rattle.std.specs.List.{AllPass}
use Rattle.std.proofs.lemmas.Bool.{cases_lt}
use Rattle.std.proofs.lemmas.Bool.Decides.{nat_tests}
use Rattle.std.proofs.lemmas.List.{get_or_past}
use Rattle.std.proofs.lemmas.List.Sums.{take_while-cons}
use Rattle.std.proofs.lemmas.List.Elements.{All-head, All-tail, All-drop}
use Rattle.std.proofs.Math.Seq.{drop-nil}
use Rattle.f11_rad50.specs.Radix50.{code_of, radix50, characters_of, IsCharacter}
use Rattle.f11_rad50.specs.Name.{is_name_character, IsProper, words_of, unpadded, name_of, type_of, version_of, IsName}
use Rattle.f11_rad50.proofs.Codes.{characters_of-radix50}

-- a space has a code
space_is_character : IsCharacter 32
unfolding code_of
space_is_character = λ e. omega (arith, e)

-- a name's character has a code
pub is_name_character-IsCharacter : (c : ℕ) → is_name_character c ≡ true → IsCharacter c
unfolding is_name_character code_of
is_name_character-IsCharacter c h = grind (arith, nat_tests)

-- and is neither a space, a dot nor a semicolon
pub is_name_character-space : (c : ℕ) → is_name_character c ≡ true → c ≢ 32
unfolding is_name_character
is_name_character-space c h = grind (arith, nat_tests)

-- each place of a part, or past it, has a character of the set
pub IsCharacter-place : (cs : List ℕ) → AllPass is_name_character cs → (k : ℕ) → IsCharacter (slice_index_or cs k 32)
IsCharacter-place cs h k =
    elim (cases_lt k (length cs)) as (λ _. IsCharacter (slice_index_or cs k 32)) [
      | inl lt ↦ is_name_character-IsCharacter _ (h k 32 lt)
      | inr ge ↦ rw (get_or_past cs k 32 ge) space_is_character
    ]

abbrev pub InName : ℕ → Type 0
InName c = is_name_character c ≡ true

-- the first n characters of a list, spaces past its end
pub padded : ℕ → List ℕ → List ℕ
padded zero cs = []
padded (suc n) [] = 32 ∷ padded n []
padded (suc n) (c ∷ cs) = c ∷ padded n cs

-- a character that is no space comes before the padding
unpadded-cons : (c : ℕ) (cs : List ℕ) → c ≢ 32 → unpadded (c ∷ cs) ≡ c ∷ unpadded cs
unpadded-cons c cs h =
    let e : not (c == 32) ≡ true = grind (arith, nat_tests) in
    take_while-cons (λ x. not (x == 32)) c cs ∙ rw e refl

-- padded characters are told apart from their padding
pub unpadded-padded : (n : ℕ) (cs : List ℕ) → AllPass is_name_character cs → length cs ≤ n → unpadded (padded n cs) ≡ cs
unfolding padded
unpadded-padded zero [] h l = refl
unpadded-padded (suc n) [] h l = refl
unpadded-padded zero (c ∷ cs) h l = absurd (omega (arith, l))
unpadded-padded (suc n) (c ∷ cs) h l =
    unpadded-cons c (padded n cs) (is_name_character-space c (All-head InName c cs h))
    ∙ ap (λ t. c ∷ t) (unpadded-padded n cs (All-tail InName c cs h) (omega (arith, l)))

-- padding goes on after the first m characters
pub padded-append : (m n : ℕ) (cs : List ℕ) → padded m cs ++ padded n (drop m cs) ≡ padded (m + n) cs
unfolding padded
padded-append zero n cs = ap (λ k. padded k cs) (sym (zero-add n))
padded-append (suc m) n [] =
    ap (λ t. 32 ∷ t) (ap (λ d. padded m [] ++ padded n d) (sym (drop-nil m)) ∙ padded-append m n [])
    ∙ ap (λ k. padded k []) (sym (suc-add m n))
padded-append (suc m) n (c ∷ cs) = ap (λ t. c ∷ t) (padded-append m n cs) ∙ ap (λ k. padded k (c ∷ cs)) (sym (suc-add m n))

pub three_places : (cs : List ℕ) → slice_index_or cs 0 32 ∷ slice_index_or cs 1 32 ∷ slice_index_or cs 2 32 ∷ [] ≡ padded 3 cs
unfolding padded
three_places [] = refl
three_places (a ∷ []) = refl
three_places (a ∷ b ∷ []) = refl
three_places (a ∷ b ∷ c ∷ cs) = refl

-- a word of a part has its characters, padded
pub characters_of-part : (cs : List ℕ) → AllPass is_name_character cs → characters_of (radix50 cs) ≡ padded 3 cs
unfolding padded
characters_of-part cs h =
    characters_of-radix50 cs (IsCharacter-place cs h 0) (IsCharacter-place cs h 1) (IsCharacter-place cs h 2) ∙ three_places cs

-- the nine characters of a name's three words
nine_characters : (cs : List ℕ) → AllPass is_name_character cs
    → characters_of (radix50 cs) ++ (characters_of (radix50 (drop 3 cs)) ++ characters_of (radix50 (drop 6 cs))) ≡ padded 9 cs
nine_characters cs h =
    let second : AllPass is_name_character (drop 3 cs) = All-drop InName 3 cs h in
    let third : AllPass is_name_character (drop 6 cs) = All-drop InName 6 cs h in
    let six : padded 3 (drop 3 cs) ++ padded 3 (drop 6 cs) ≡ padded 6 (drop 3 cs) =
    ap (λ d. padded 3 (drop 3 cs) ++ padded 3 d) (sym (drop-drop 3 3 cs)) ∙ padded-append 3 3 (drop 3 cs) in
    rw (characters_of-part cs h, characters_of-part (drop 3 cs) second, characters_of-part (drop 6 cs) third, six)
    (padded-append 3 6 cs)

-- the words of proper parts spell these parts
pub name_of-words_of : (name type : List ℕ) (version : ℕ) → IsProper name type version → name_of (words_of name type version) ≡ name
unfolding name_of words_of
name_of-words_of name type version p =
    rw (nine_characters name p.name_characters) (unpadded-padded 9 name p.name_characters p.name_length)

pub type_of-words_of : (name type : List ℕ) (version : ℕ) → IsProper name type version → type_of (words_of name type version) ≡ type
unfolding type_of words_of
type_of-words_of name type version p =
    rw (characters_of-part type p.type_characters) (unpadded-padded 3 type p.type_characters p.type_length)

version_of-words_of : (name type : List ℕ) (version : ℕ) → version_of (words_of name type version) ≡ version
unfolding words_of
version_of-words_of name type version = refl

-- so the words of proper parts are a name
pub IsName-words_of : (name type : List ℕ) (version : ℕ) → IsProper name type version → IsName (words_of name type version)
IsName-words_of name type version p =
    let n = name_of-words_of name type version p in
    let t = type_of-words_of name type version p in
    let v = version_of-words_of name type version in
    record { proper = rw (n, t, v) p; same_words = rw (n, t, v) refl }

-- the words of parts, one by one
pub words_of-eq : (name type : List ℕ) (version a b c d : ℕ) → a ≡ radix50 name → b ≡ radix50 (drop 3 name) → c ≡ radix50 (drop 6 name)
    → d ≡ radix50 type → a ∷ b ∷ c ∷ d ∷ version ∷ [] ≡ words_of name type version
unfolding words_of
words_of-eq name type version a b c d e f g h = rw (e, f, g, h) refl

-- where an answer is there exactly under a fact, it is there under it
pub found_at : (r : Option (List ℕ)) (P : Type 0) (v words : List ℕ) → SomeIff r P v → P → v ≡ words → r ≡ Some words
found_at None P v words h p e = absurd (h p)
found_at (Some found) P v words h p e = ap Some (h.1 ∙ e)

-- words of proper parts are a name
pub IsName-from_parts : (words name type : List ℕ) (version : ℕ) → IsProper name type version → words_of name type version ≡ words
    → IsName words
IsName-from_parts words name type version p e = rw e at (IsName-words_of name type version p)

-- a byte that may not stand in a name is not in one
pub without : (sep : ℕ) (cs : List ℕ) → is_name_character sep ≡ false → AllPass is_name_character cs → All (λ c. c ≢ sep) cs
without sep cs out h k d l e = true≢false (sym (h k d l) ∙ ap is_name_character e ∙ out)

pub dot_out : is_name_character 46 ≡ false
unfolding is_name_character
dot_out = refl

pub semicolon_out : is_name_character 59 ≡ false
unfolding is_name_character
semicolon_out = refl
