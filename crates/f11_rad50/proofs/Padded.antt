-- The words of a name by the codes in them, and by the parts that they are the values of.
use Rattle.std.proofs.Common.{◌≡◌, ◌≢◌, ℕ, ◌+◌, ◌*◌, ◌/◌, ◌%◌, ◌<◌, ◌≤◌, Bool, true, false, not, ◌&&◌, ◌||◌, ◌==◌, List, [], ◌∷◌, ◌++◌}
use Rattle.std.proofs.Common.{length, get_or, drop, IsTrue, ◌↔◌, arith, refl, sym, ◌∙◌, ap, drop-drop, length-append}
use Rattle.std.specs.List.{AllPass}
use Rattle.std.proofs.lemmas.Bool.Decides.{nat_tests}
use Rattle.std.proofs.lemmas.List.Elements.{All-nil, All-cons, All-head, All-tail, All-drop, All-append}
use Rattle.f11_rad50.specs.Radix50.{code_of, character_of, radix50}
use Rattle.f11_rad50.specs.Name.{is_name_character, IsProper, words_of, name_of, type_of, IsName}
use Rattle.f11_rad50.specs.Coded.{is_name_code, is_padded, goes_on, are_named}
use Rattle.f11_rad50.proofs.Codes.{code_of-character_of}
use Rattle.f11_rad50.proofs.Spelled.{both}
use Rattle.f11_rad50.proofs.Words.{InName, words_of-eq, IsName-from_parts}

-- a name's codes are those of its characters
name_code-lt : (d : ℕ) → is_name_code d ≡ true → d < 40
unfolding is_name_code
name_code-lt d h = grind (arith, nat_tests)

name_code-some : (d : ℕ) → is_name_code d ≡ true → 0 < d
unfolding is_name_code
name_code-some d h = grind (arith, nat_tests)

character-of_code : (d : ℕ) → is_name_code d ≡ true → is_name_character (character_of d) ≡ true
unfolding is_name_code is_name_character character_of
character-of_code d h = grind (arith, nat_tests)

code-of_character : (x : ℕ) → is_name_character x ≡ true → is_name_code (code_of x) ≡ true
unfolding is_name_code is_name_character code_of
code-of_character x h = grind (arith, nat_tests)

-- the value of a part by its codes
code_of-space : code_of 32 ≡ 0
unfolding code_of
code_of-space = refl

radix50-none : radix50 [] ≡ 0
unfolding radix50
radix50-none = omega (arith, code_of-space)

radix50-one : (x : ℕ) → radix50 (x ∷ []) ≡ code_of x * 1600
unfolding radix50
radix50-one x = omega (arith, code_of-space)

radix50-two : (x y : ℕ) → radix50 (x ∷ y ∷ []) ≡ code_of x * 1600 + code_of y * 40
unfolding radix50
radix50-two x y = omega (arith, code_of-space)

radix50-three : (x y z : ℕ) (cs : List ℕ) → radix50 (x ∷ y ∷ z ∷ cs) ≡ code_of x * 1600 + code_of y * 40 + code_of z
unfolding radix50
radix50-three x y z cs = omega arith

-- words that pass the test
padded-one : (w d : ℕ) → is_name_code d ≡ true → w ≡ d * 1600 → is_padded w ≡ true
unfolding is_padded
padded-one w d h e =
    let high : w / 1600 ≡ d = omega (arith, e) in
    let none : w % 1600 ≡ 0 = omega (arith, e) in
    rw (high, none, h) (grind (arith, nat_tests))

padded-two : (w d f : ℕ) → is_name_code d ≡ true → is_name_code f ≡ true → w ≡ d * 1600 + f * 40 → is_padded w ≡ true
unfolding is_padded
padded-two w d f h k e =
    let few = name_code-lt f k in
    let high : w / 1600 ≡ d = omega (arith, e, few) in
    let middle : w / 40 % 40 ≡ f = omega (arith, e, few) in
    let none : w % 40 ≡ 0 = omega (arith, e) in
    rw (high, middle, none, h, k) (grind (arith, nat_tests))

padded-three : (w d f g : ℕ) → is_name_code d ≡ true → is_name_code f ≡ true → is_name_code g ≡ true → w ≡ d * 1600 + f * 40 + g
    → is_padded w ≡ true
unfolding is_padded
padded-three w d f g h k l e =
    let few = name_code-lt f k in
    let less = name_code-lt g l in
    let high : w / 1600 ≡ d = omega (arith, e, few, less) in
    let middle : w / 40 % 40 ≡ f = omega (arith, e, few, less) in
    let low : w % 40 ≡ g = omega (arith, e, less) in
    rw (high, middle, low, h, k, l) (grind (arith, nat_tests))

padded-none : is_padded 0 ≡ true
unfolding is_padded
padded-none = refl

-- so the value of a part passes it
is_padded-radix50 : (cs : List ℕ) → AllPass is_name_character cs → is_padded (radix50 cs) ≡ true
is_padded-radix50 [] h = rw radix50-none padded-none
is_padded-radix50 (x ∷ []) h = padded-one _ _ (code-of_character x (All-head InName x [] h)) (radix50-one x)
is_padded-radix50 (x ∷ y ∷ []) h =
    let behind = All-tail InName x (y ∷ []) h in
    padded-two _ _ _ (code-of_character x (All-head InName x (y ∷ []) h)) (code-of_character y (All-head InName y [] behind))
    (radix50-two x y)
is_padded-radix50 (x ∷ y ∷ z ∷ cs) h =
    let behind = All-tail InName x (y ∷ z ∷ cs) h in
    let last = All-tail InName y (z ∷ cs) behind in
    padded-three _ _ _ _ (code-of_character x (All-head InName x (y ∷ z ∷ cs) h)) (code-of_character y (All-head InName y (z ∷ cs) behind))
    (code-of_character z (All-head InName z cs last))
    (radix50-three x y z cs)

-- a part with a character has a value above 0
some-radix50 : (cs : List ℕ) → AllPass is_name_character cs → 0 < length cs → 0 < radix50 cs
unfolding radix50
some-radix50 [] h some = absurd (omega (arith, some))
some-radix50 (x ∷ cs) h some = omega (arith, name_code-some (code_of x) (code-of_character x (All-head InName x cs h)))

part_of_none : (cs : List ℕ) → AllPass is_name_character cs → radix50 cs ≡ 0 → cs ≡ []
part_of_none [] h e = refl
part_of_none (x ∷ cs) h e = absurd (omega (arith, e, some-radix50 (x ∷ cs) h (omega arith)))

-- a part of fewer than three characters ends in a space
short-radix50 : (cs : List ℕ) → length cs < 3 → radix50 cs % 40 ≡ 0
short-radix50 [] h = omega (arith, radix50-none)
short-radix50 (x ∷ []) h = omega (arith, radix50-one x)
short-radix50 (x ∷ y ∷ []) h = omega (arith, radix50-two x y)
short-radix50 (x ∷ y ∷ z ∷ cs) h = absurd (omega (arith, h))

-- what stands behind a word
goes_on-none : (w : ℕ) → goes_on w 0 ≡ true
unfolding goes_on
goes_on-none w = refl

goes_on-full : (w next : ℕ) → w % 40 ≢ 0 → goes_on w next ≡ true
unfolding goes_on
goes_on-full w next h = grind (arith, nat_tests)

goes_on-radix50 : (cs : List ℕ) → AllPass is_name_character cs → goes_on (radix50 cs) (radix50 (drop 3 cs)) ≡ true
goes_on-radix50 [] h = rw radix50-none (goes_on-none 0)
goes_on-radix50 (x ∷ []) h = rw radix50-none (goes_on-none _)
goes_on-radix50 (x ∷ y ∷ []) h = rw radix50-none (goes_on-none _)
goes_on-radix50 (x ∷ y ∷ z ∷ cs) h =
    let last = All-head InName z cs (All-tail InName y (z ∷ cs) (All-tail InName x (y ∷ z ∷ cs) h)) in
    let code = code-of_character z last in
    goes_on-full _ _ (λ e. omega (arith, e, radix50-three x y z cs, name_code-some _ code, name_code-lt _ code))

nothing-behind : (w next : ℕ) → goes_on w next ≡ true → w % 40 ≡ 0 → next ≡ 0
unfolding goes_on
nothing-behind w next h e = grind (arith, nat_tests)

-- a word's part
pub record HasPart (w : ℕ) : Type 0 where
  pub part : List ℕ
  pub in_name : AllPass is_name_character part
  pub few : length part ≤ 3
  pub value : radix50 part ≡ w

-- the character of a name's code, and its code again
one-in_name : (d : ℕ) (cs : List ℕ) → is_name_code d ≡ true → AllPass is_name_character cs → AllPass is_name_character (character_of d ∷ cs)
one-in_name d cs h rest = All-cons InName (character_of d) cs (character-of_code d h) rest

back : (d : ℕ) → is_name_code d ≡ true → code_of (character_of d) ≡ d
back d h = code_of-character_of d (name_code-lt d h)

part_of-one : (w d : ℕ) → is_name_code d ≡ true → w ≡ d * 1600 → HasPart w
part_of-one w d h e = record {
  part = character_of d ∷ [];
  in_name = one-in_name d [] h (All-nil InName);
  few = omega arith;
  value = omega (arith, e, radix50-one (character_of d), back d h);
}

part_of-two : (w d f : ℕ) → is_name_code d ≡ true → is_name_code f ≡ true → w ≡ d * 1600 + f * 40 → HasPart w
part_of-two w d f h k e = record {
  part = character_of d ∷ character_of f ∷ [];
  in_name = one-in_name d (character_of f ∷ []) h (one-in_name f [] k (All-nil InName));
  few = omega arith;
  value = omega (arith, e, radix50-two (character_of d) (character_of f), back d h, back f k);
}

part_of-three : (w d f g : ℕ) → is_name_code d ≡ true → is_name_code f ≡ true → is_name_code g ≡ true → w ≡ d * 1600 + f * 40 + g
    → HasPart w
part_of-three w d f g h k l e = record {
  part = character_of d ∷ character_of f ∷ character_of g ∷ [];
  in_name = one-in_name d (character_of f ∷ character_of g ∷ []) h
      (one-in_name f (character_of g ∷ []) k (one-in_name g [] l (All-nil InName)));
  few = omega arith;
  value = omega (arith, e, radix50-three (character_of d) (character_of f) (character_of g) [], back d h, back f k, back g l);
}

zero_of : (n : ℕ) → (n == 0) ≡ true → n ≡ 0
zero_of n h = grind (arith, nat_tests)

-- what passes the test is the value of a part
part_of : (w : ℕ) → is_padded w ≡ true → HasPart w
unfolding is_padded
part_of w h =
    by_tests (w == 0) (is_name_code (w / 1600)) (w % 1600 == 0) (is_name_code (w / 40 % 40)) (w % 40 == 0) (is_name_code (w % 40)) refl refl
    refl refl refl refl h
  where
    by_tests : (p q r s t u : Bool) → (w == 0) ≡ p → is_name_code (w / 1600) ≡ q → (w % 1600 == 0) ≡ r → is_name_code (w / 40 % 40) ≡ s
        → (w % 40 == 0) ≡ t →
        is_name_code (w % 40) ≡ u → (p || (q && (r || (s && (t || u))))) ≡ true → HasPart w
    by_tests true q r s t u a b c d e f k =
        record { part = []; in_name = All-nil InName; few = omega arith; value = omega (arith, zero_of w a, radix50-none) }
    by_tests false true true s t u a b c d e f k = part_of-one w (w / 1600) b (omega (arith, zero_of (w % 1600) c))
    by_tests false true false true true u a b c d e f k = part_of-two w (w / 1600) (w / 40 % 40) b d (omega (arith, zero_of (w % 40) e))
    by_tests false true false true false true a b c d e f k = part_of-three w (w / 1600) (w / 40 % 40) (w % 40) b d f (omega arith)
    by_tests false true false true false false a b c d e f k = absurd (cc)
    by_tests false true false false t u a b c d e f k = absurd (cc)
    by_tests false false r s t u a b c d e f k = absurd (cc)

-- a part and what stands behind it, which is nothing behind a space
joined : (cs rest : List ℕ) → length cs ≤ 3 → (length cs < 3 → rest ≡ [])
    → (radix50 (cs ++ rest) ≡ radix50 cs) × (drop 3 (cs ++ rest) ≡ rest)
unfolding radix50
joined [] rest l h = rw (h (omega arith)) (refl, refl)
joined (x ∷ []) rest l h = rw (h (omega arith)) (refl, refl)
joined (x ∷ y ∷ []) rest l h = rw (h (omega arith)) (refl, refl)
joined (x ∷ y ∷ z ∷ []) rest l h = (refl, refl)
joined (x ∷ y ∷ z ∷ u ∷ cs) rest l h = absurd (omega (arith, l))

-- three words of a name, each behind the one before it
record Codes (a b c t : ℕ) : Type 0 where
  first : HasPart a
  second : HasPart b
  third : HasPart c
  kind : HasPart t
  second_goes_on : goes_on a b ≡ true
  third_goes_on : goes_on b c ≡ true
  some : (not (a == 0) || not (t == 0)) ≡ true

codes_of : (a b c t : ℕ) → are_named a b c t ≡ true → Codes a b c t
unfolding are_named
codes_of a b c t h =
    let p = both (is_padded a) _ h in
    let q = both (is_padded b) _ p.1 in
    let r = both (is_padded c) _ q.1 in
    let s = both (is_padded t) _ r.1 in
    let u = both (goes_on a b) _ s.1 in
    let v = both (goes_on b c) _ u.1 in
    record {
      first = part_of a p.0;
      second = part_of b q.0;
      third = part_of c r.0;
      kind = part_of t s.0;
      second_goes_on = u.0;
      third_goes_on = v.0;
      some = v.1;
    }

-- a part that is short has none behind it
short-ends : (a b : ℕ) (p : HasPart a) (q : HasPart b) → goes_on a b ≡ true → length p.part < 3 → q.part ≡ []
short-ends a b p q h short =
    part_of_none q.part q.in_name (q.value ∙ nothing-behind a b h (ap (λ w. w % 40) (sym p.value) ∙ short-radix50 p.part short))

nothing-short : (b : ℕ) (q : HasPart b) → q.part ≡ [] → length q.part < 3
nothing-short b q e = omega (arith, ap length e)

some-part : (a : ℕ) (p : HasPart a) → a ≢ 0 → 0 < length p.part
some-part a p h = by_part p.part p.value
  where
    by_part : (cs : List ℕ) → radix50 cs ≡ a → 0 < length cs
    by_part [] e = absurd (h (sym e ∙ radix50-none))
    by_part (x ∷ cs) e = omega arith

either : (a t : ℕ) (p : HasPart a) (q : HasPart t) → (not (a == 0) || not (t == 0)) ≡ true → 0 < length p.part + length q.part
either a t p q h = by_test (a == 0) refl
  where
    by_test : (b : Bool) → (a == 0) ≡ b → 0 < length p.part + length q.part
    by_test true e =
        let some : t ≢ 0 = grind (arith, nat_tests) in
        omega (arith, some-part t q some)
    by_test false e =
        let some : a ≢ 0 = grind (arith, nat_tests) in
        omega (arith, some-part a p some)

-- words that pass the test are a name, with a version
pub IsName-from_named : (a b c t v : ℕ) → are_named a b c t ≡ true → 0 < v → v < 32768 → IsName (a ∷ b ∷ c ∷ t ∷ v ∷ [])
IsName-from_named a b c t v h low high =
    let k = codes_of a b c t h in
    let p = k.first.part in
    let q = k.second.part in
    let r = k.third.part in
    let end : length q < 3 → r ≡ [] = short-ends b c k.second k.third k.third_goes_on in
    let rest : length p < 3 → q ++ r ≡ [] = λ s.
    let none : q ≡ [] = short-ends a b k.first k.second k.second_goes_on s in
    rw (none, end (nothing-short b k.second none)) refl in
    let one = joined p (q ++ r) k.first.few rest in
    let two = joined q r k.second.few end in
    let three : drop 6 (p ++ (q ++ r)) ≡ r = sym (drop-drop 3 3 (p ++ (q ++ r))) ∙ ap (drop 3) one.1 ∙ two.1 in
    let proper : IsProper (p ++ (q ++ r)) k.kind.part v = record {
      name_characters = All-append InName p (q ++ r) k.first.in_name (All-append InName q r k.second.in_name k.third.in_name);
      name_length = omega (arith, length-append p (q ++ r), length-append q r, k.first.few, k.second.few, k.third.few);
      type_characters = k.kind.in_name;
      type_length = k.kind.few;
      not_empty = omega (arith, length-append p (q ++ r), either a t k.first k.kind k.some);
      version_from = low;
      version_to = high;
    } in
    IsName-from_parts _ (p ++ (q ++ r)) k.kind.part v proper
    (sym (words_of-eq (p ++ (q ++ r)) k.kind.part v a b c t (sym (one.0 ∙ k.first.value)) (sym (ap radix50 one.1 ∙ two.0 ∙ k.second.value))
    (sym (ap radix50 three ∙ k.third.value)) (sym k.kind.value)))

some-word : (name type : List ℕ) → AllPass is_name_character name → AllPass is_name_character type → 0 < length name + length type →
    (not (radix50 name == 0) || not (radix50 type == 0)) ≡ true
some-word [] type n t some =
    let above : 0 < radix50 type = some-radix50 type t (omega (arith, some)) in
    grind (arith, nat_tests)
some-word (x ∷ name) type n t some =
    let above : 0 < radix50 (x ∷ name) = some-radix50 (x ∷ name) n (omega arith) in
    grind (arith, nat_tests)

-- and the words of a name pass it
named-parts : (name type : List ℕ) → AllPass is_name_character name → AllPass is_name_character type → 0 < length name + length type →
    are_named (radix50 name) (radix50 (drop 3 name)) (radix50 (drop 6 name)) (radix50 type) ≡ true
unfolding are_named
named-parts name type n t some =
    let second : AllPass is_name_character (drop 3 name) = All-drop InName 3 name n in
    let third : AllPass is_name_character (drop 6 name) = All-drop InName 6 name n in
    let end : goes_on (radix50 (drop 3 name)) (radix50 (drop 6 name)) ≡ true =
    ap (λ d. goes_on (radix50 (drop 3 name)) (radix50 d)) (sym (drop-drop 3 3 name)) ∙ goes_on-radix50 (drop 3 name) second in
    rw (
      is_padded-radix50 name n,
      is_padded-radix50 (drop 3 name) second,
      is_padded-radix50 (drop 6 name) third,
      is_padded-radix50 type t,
      goes_on-radix50 name n,
      end,
    )
    (some-word name type n t some)

pub named-from_IsName : (a b c t v : ℕ) → IsName (a ∷ b ∷ c ∷ t ∷ v ∷ []) → (are_named a b c t ≡ true) × ((0 < v) × (v < 32768))
unfolding words_of
named-from_IsName a b c t v n =
    let words = n.same_words in
    let first : radix50 (name_of (a ∷ b ∷ c ∷ t ∷ v ∷ [])) ≡ a = ap (λ l. get_or l 0 0) words in
    let second : radix50 (drop 3 (name_of (a ∷ b ∷ c ∷ t ∷ v ∷ []))) ≡ b = ap (λ l. get_or l 1 0) words in
    let third : radix50 (drop 6 (name_of (a ∷ b ∷ c ∷ t ∷ v ∷ []))) ≡ c = ap (λ l. get_or l 2 0) words in
    let kind : radix50 (type_of (a ∷ b ∷ c ∷ t ∷ v ∷ [])) ≡ t = ap (λ l. get_or l 3 0) words in
    let named = named-parts _ _ n.proper.name_characters n.proper.type_characters n.proper.not_empty in
    (rw (first, second, third, kind) at named, (n.proper.version_from, n.proper.version_to))

-- five words are what they are one by one
five_words : (words : List ℕ) → length words ≡ 5
    → get_or words 0 0 ∷ get_or words 1 0 ∷ get_or words 2 0 ∷ get_or words 3 0 ∷ get_or words 4 0 ∷ [] ≡ words
five_words [] e = absurd (omega (arith, e))
five_words (a ∷ []) e = absurd (omega (arith, e))
five_words (a ∷ b ∷ []) e = absurd (omega (arith, e))
five_words (a ∷ b ∷ c ∷ []) e = absurd (omega (arith, e))
five_words (a ∷ b ∷ c ∷ d ∷ []) e = absurd (omega (arith, e))
five_words (a ∷ b ∷ c ∷ d ∷ v ∷ []) e = refl
five_words (a ∷ b ∷ c ∷ d ∷ v ∷ x ∷ xs) e = absurd (omega (arith, e))

-- what is a name by its five words is one
pub is_name-by_words : (words : List ℕ) (b : Bool) → length words ≡ 5
    → (IsTrue b ↔ IsName (get_or words 0 0 ∷ get_or words 1 0 ∷ get_or words 2 0 ∷ get_or words 3 0 ∷ get_or words 4 0 ∷ [])) →
    IsTrue b ↔ IsName words
is_name-by_words words b five h = rw (five_words words five) at h
