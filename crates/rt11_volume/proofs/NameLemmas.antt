-- The names of files: their words, and what they spell.
use Rattle.std.proofs.Common.{◌+◌, zero, suc, ◌≡◌, ◌≢◌, ◌↔◌, ℕ, ◌<◌, ◌≤◌, not, Bool, true, false, IsTrue, Option, Some, None}
use Rattle.std.proofs.Common.{is_some, SomeIff, Result, Ok, Err, is_ok, OnErr, IsNone, slice_index_or, List, [], ◌∷◌, length, drop, get_or}
use Rattle.std.proofs.Common.{refl, sym, ◌∙◌, ap, subst, arith}
use Rattle.std.specs.List.{AllPass, All}
use Rattle.std.proofs.lemmas.Bool.Decides.{nat_tests}
use Rattle.std.proofs.lemmas.List.{length-drop}
use Rattle.std.proofs.lemmas.List.Elements.{All-drop}
use Rattle.f11_rad50.specs.Name.{is_name_character, IsProper, IsName, words_of, name_of, type_of}
use Rattle.f11_rad50.specs.Radix50.{IsCharacter, radix50, code_of}
use Rattle.f11_rad50.proofs.Words.{IsCharacter-place, unpadded-padded, padded-append, characters_of-part, IsName-from_parts}
use Rattle.rt11_volume.specs.RtName.{IsRtProper, IsRtName, rt_words_of, rt_name_of, rt_type_of}

-- a character of a name has a code above 0
code-some : (c : ℕ) → is_name_character c ≡ true → 0 < code_of c
unfolding is_name_character code_of
code-some c h = grind (arith, nat_tests)

-- so a part of a name that isn't empty has a word above 0
radix50-some : (c : ℕ) (cs : List ℕ) → AllPass is_name_character (c ∷ cs) → 0 < radix50 (c ∷ cs)
unfolding radix50
radix50-some c cs pass = let h : 0 < code_of c = code-some c (pass 0 32 (omega arith)) in omega arith

-- and an empty one has the word 0
pub radix50-none : radix50 [] ≡ 0
unfolding radix50 code_of
radix50-none = refl

none_from_word : (cs : List ℕ) → AllPass is_name_character cs → radix50 cs ≡ 0 → cs ≡ []
none_from_word [] pass is = refl
none_from_word (c ∷ cs) pass is = absurd (let h : 0 < radix50 (c ∷ cs) = radix50-some c cs pass in omega arith)

some_from_word : (cs : List ℕ) → radix50 cs ≢ 0 → 0 < length cs
some_from_word [] is = absurd (is radix50-none)
some_from_word (c ∷ cs) is = omega arith

some_word : (cs : List ℕ) → AllPass is_name_character cs → 0 < length cs → 0 < radix50 cs
some_word [] pass some = absurd (omega arith)
some_word (c ∷ cs) pass some = radix50-some c cs pass

-- a name of six characters or fewer has none in a third word
pub third_none : (name : List ℕ) → length name ≤ 6 → radix50 (drop 6 name) ≡ 0
third_none name short = go (drop 6 name) (omega (arith, length-drop 6 name))
  where
    go : (cs : List ℕ) → length cs ≡ 0 → radix50 cs ≡ 0
    go [] none = radix50-none
    go (c ∷ cs) none = absurd (omega arith)

-- the words of proper parts spell these parts
pub rt_name_of-words : (name type : List ℕ) → IsRtProper name type → rt_name_of (rt_words_of name type) ≡ name
unfolding rt_name_of rt_words_of
rt_name_of-words name type p =
    rw (
      characters_of-part name p.name_characters,
      characters_of-part (drop 3 name) (All-drop (λ c. is_name_character c ≡ true) 3 name p.name_characters),
      padded-append 3 3 name,
    )
    (unpadded-padded 6 name p.name_characters p.name_length)

pub rt_type_of-words : (name type : List ℕ) → IsRtProper name type → rt_type_of (rt_words_of name type) ≡ type
unfolding rt_type_of rt_words_of
rt_type_of-words name type p = rw (characters_of-part type p.type_characters) (unpadded-padded 3 type p.type_characters p.type_length)

-- so they are a name
pub IsRtName-words : (name type : List ℕ) → IsRtProper name type → IsRtName (rt_words_of name type)
IsRtName-words name type p =
    let n = rt_name_of-words name type p in
    let t = rt_type_of-words name type p in
    record { proper = rw (n, t) p; same_words = rw (n, t) refl }

pub IsRtName-from_parts : (words name type : List ℕ) → IsRtProper name type → rt_words_of name type ≡ words → IsRtName words
IsRtName-from_parts words name type p is = subst IsRtName is (IsRtName-words name type p)

-- The words of a Files-11 name of six characters at most, with version 1, and with a name of its own
pub IsName-from_rt : (a b c : ℕ) → IsRtName (a ∷ b ∷ c ∷ []) → (a ≢ 0) × IsName (a ∷ b ∷ 0 ∷ c ∷ 1 ∷ [])
unfolding rt_words_of words_of
IsName-from_rt a b c is =
    let name : List ℕ = rt_name_of (a ∷ b ∷ c ∷ []) in
    let type : List ℕ = rt_type_of (a ∷ b ∷ c ∷ []) in
    let p : IsRtProper name type = is.proper in
    let first : radix50 name ≡ a = ap (λ (ws : List ℕ). get_or ws 0 0) is.same_words in
    let second : radix50 (drop 3 name) ≡ b = ap (λ (ws : List ℕ). get_or ws 1 0) is.same_words in
    let third : radix50 type ≡ c = ap (λ (ws : List ℕ). get_or ws 2 0) is.same_words in
    let none : radix50 (drop 6 name) ≡ 0 = third_none name p.name_length in
    let some : 0 < radix50 name = some_word name p.name_characters p.name_some in
    let proper : IsProper name type 1 = record {
      name_characters = p.name_characters;
      name_length = omega (arith, p.name_length);
      type_characters = p.type_characters;
      type_length = p.type_length;
      not_empty = omega (arith, p.name_some);
      version_from = omega arith;
      version_to = omega arith;
    } in (
      λ zero_word. omega arith,
      IsName-from_parts (a ∷ b ∷ 0 ∷ c ∷ 1 ∷ []) name type 1 proper
          (λ i. first i ∷ second i ∷ none i ∷ third i ∷ 1 ∷ []),
    )

pub IsRtName-from_name : (a b c : ℕ) → a ≢ 0 → IsName (a ∷ b ∷ 0 ∷ c ∷ 1 ∷ []) → IsRtName (a ∷ b ∷ c ∷ [])
unfolding rt_words_of words_of
IsRtName-from_name a b c some is =
    let name : List ℕ = name_of (a ∷ b ∷ 0 ∷ c ∷ 1 ∷ []) in
    let type : List ℕ = type_of (a ∷ b ∷ 0 ∷ c ∷ 1 ∷ []) in
    let p : IsProper name type 1 = is.proper in
    let first : radix50 name ≡ a = ap (λ (ws : List ℕ). get_or ws 0 0) is.same_words in
    let second : radix50 (drop 3 name) ≡ b = ap (λ (ws : List ℕ). get_or ws 1 0) is.same_words in
    let none : radix50 (drop 6 name) ≡ 0 = ap (λ (ws : List ℕ). get_or ws 2 0) is.same_words in
    let third : radix50 type ≡ c = ap (λ (ws : List ℕ). get_or ws 3 0) is.same_words in
    let short : drop 6 name ≡ [] = none_from_word (drop 6 name) (All-drop (λ x. is_name_character x ≡ true) 6 name p.name_characters) none
    in
    let proper : IsRtProper name type = record {
      name_characters = p.name_characters;
      name_some = some_from_word name (λ zero_word. some (sym first ∙ zero_word));
      name_length = omega (arith, length-drop 6 name, ap (λ (cs : List ℕ). length cs) short);
      type_characters = p.type_characters;
      type_length = p.type_length;
    } in
    IsRtName-from_parts (a ∷ b ∷ c ∷ []) name type proper (λ i. first i ∷ second i ∷ third i ∷ [])

-- an answer that is there just where three words are a name
pub name_tested : (r : Option (List ℕ)) (b : Bool) (x y z : ℕ) → x ≢ 0
    → SomeIff r (IsName (x ∷ y ∷ 0 ∷ z ∷ 1 ∷ [])) (x ∷ y ∷ 0 ∷ z ∷ 1 ∷ []) → b ≡ is_some r
    → IsTrue b ↔ IsRtName (x ∷ y ∷ z ∷ [])
name_tested None b x y z some not is =
    (λ yes. absurd (let no : true ≡ false = sym yes ∙ is in cc), λ name. absurd (not (IsName-from_rt x y z name).1))
name_tested (Some w) b x y z some found is = (λ yes. IsRtName-from_name x y z some found.0, λ name. is)

-- the words of parts, one by one
pub rt_words-eq : (name type : List ℕ) (a b c : ℕ) → a ≡ radix50 name → b ≡ radix50 (drop 3 name) → c ≡ radix50 type
    → a ∷ b ∷ c ∷ [] ≡ rt_words_of name type
unfolding rt_words_of
rt_words-eq name type a b c first second third = λ i. first i ∷ second i ∷ third i ∷ []

-- three characters of a part have codes
pub three_characters : (part : List ℕ) (at a b c : ℕ) → a ≡ slice_index_or part at 32 → b ≡ slice_index_or part (at + 1) 32
    → c ≡ slice_index_or part (at + 2) 32 → AllPass is_name_character part
    → All IsCharacter (a ∷ b ∷ c ∷ [])
three_characters part at a b c first second third pass zero d within = subst IsCharacter (sym first) (IsCharacter-place part pass at)
three_characters part at a b c first second third pass (suc zero) d within =
    subst IsCharacter (sym second) (IsCharacter-place part pass (at + 1))
three_characters part at a b c first second third pass (suc (suc zero)) d within =
    subst IsCharacter (sym third) (IsCharacter-place part pass (at + 2))
three_characters part at a b c first second third pass (suc (suc (suc k))) d within = absurd (omega arith)

-- there is no answer only where the characters were refused
pub not_refused : {E : Type 0} (r : Result ℕ E) (o : Option ℕ) (P : Type 0) → is_some o ≡ is_ok r → OnErr r (¬ P) → IsNone o → P → ⊥
not_refused (Ok x) None P same refused none p = absurd (cc)
not_refused (Ok x) (Some y) P same refused none p = absurd (cc)
not_refused (Err e) o P same refused none p = refused p
