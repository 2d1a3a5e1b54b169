-- Fitted names: their parts, their numbers, and the first that is free.
use Rattle.std.proofs.Common.{◌≡◌, ◌≢◌, ◌==◌, ℕ, zero, suc, ◌+◌, ◌-◌, ◌/◌, ◌%◌, ◌^◌, ◌<◌, ◌≤◌, true, false, List, [], ◌∷◌}
use Rattle.std.proofs.Common.{◌++◌, length, take, drop, get_or, map, filter, refl, sym, ap, subst, ◌∙◌, arith, Some}
use Rattle.std.proofs.Common.{slice_index, length-take, length-append, append_assoc, inl, inr, Result, Ok, IfOk}
use Rattle.std.specs.Char.{to_ascii_uppercase}
use Rattle.std.specs.Int.Digits.{digits_of}
use Rattle.std.specs.List.{AllPass}
use Rattle.std.specs.Path.{rfind_below}
use Rattle.std.specs.Str.{str_to_ascii_uppercase}
use Rattle.std.proofs.Math.Seq.{drop-cons}
use Rattle.std.proofs.lemmas.Bool.{cases_lt}
use Rattle.std.proofs.lemmas.Bool.Decides.{nat_tests}
use Rattle.std.proofs.lemmas.Int.Digits.{all_below_base_digits_of, digits_of_step, length-digits_of-le}
use Rattle.std.proofs.lemmas.List.{append-nil, drop_all, length-map, map-append}
use Rattle.std.proofs.lemmas.List.Elements.{All-append, All-from_recursion, All-map, All-take, All-weaker, filter_passes}
use Rattle.f11_rad50.specs.Name.{IsProper, Spells, is_name_character}
use Rattle.f11_patterns.specs.Fitting.{candidate, fitted_name, fitted_text, fitted_type, has_some, kept_of, name_before, numeral}
use Rattle.f11_patterns.specs.Fitting.{type_behind}
use Rattle.f11_patterns.specs.Laws.{FittedWorks}

-- the last dot of one character more
module _ (text : List ℕ) (at : ℕ) where
  next : at + 1 ≡ suc at
  next = omega arith

  pub dot-here : slice_index text at ≡ 46 → rfind_below 46 text (at + 1) ≡ Some at
  dot-here is =
      let yes : (slice_index text at == 46) ≡ true = grind (arith, nat_tests, is) in
      ap (rfind_below 46 text) next ∙ rw yes refl

  pub dot-other : slice_index text at ≢ 46 → rfind_below 46 text (at + 1) ≡ rfind_below 46 text at
  dot-other other =
      let no : (slice_index text at == 46) ≡ false = grind (arith, nat_tests, other) in
      ap (rfind_below 46 text) next ∙ rw no refl

-- so far so many of the characters that stay were put behind a text
pub record PutsSoFar (old : List ℕ) (most : ℕ) (text : List ℕ) (i : ℕ) (now : List ℕ) (left : ℕ) : Type 0 where
  pub puts : old ++ take most (kept_of text) ≡ now ++ take left (kept_of (drop i text))
  pub room : length now + left ≤ 16

module _ (old : List ℕ) (most : ℕ) (text : List ℕ) where
  pub puts-none : length old + most ≤ 16 → PutsSoFar old most text 0 old most
  puts-none room = record { puts = refl; room = room }

  pub puts-more : (i : ℕ) (now now' : List ℕ) (left left' : ℕ) → i < length text
      → ((rest : List ℕ) → now ++ take left (filter is_name_character (to_ascii_uppercase (get_or text i 0) ∷ rest))
      ≡ now' ++ take left' (filter is_name_character rest))
      → length now' + left' ≤ length now + left
      → PutsSoFar old most text i now left → PutsSoFar old most text (i + 1) now' left'
  puts-more i now now' left left' some puts room so =
      let next : suc i ≡ i + 1 = omega arith in
      let cons : drop i text ≡ get_or text i 0 ∷ drop (i + 1) text =
      drop-cons text i 0 some ∙ ap (λ (n : ℕ). get_or text i 0 ∷ drop n text) next in
      record {
        puts =
            so.puts ∙ ap (λ (xs : List ℕ). now ++ take left (kept_of xs)) cons
            ∙ puts (map to_ascii_uppercase (drop (i + 1) text));
        room = omega (arith, room, so.room);
      }

  pub puts-all : (i : ℕ) (now : List ℕ) (left : ℕ) → length text ≤ i → PutsSoFar old most text i now left
      → now ≡ old ++ take most (kept_of text)
  puts-all i now zero end so = sym (so.puts ∙ append-nil now)
  puts-all i now (suc left) end so =
      sym (so.puts ∙ ap (λ (xs : List ℕ). now ++ take (suc left) (kept_of xs)) (drop_all i text end) ∙ append-nil now)

-- 0 has no digits, and a larger number has those of its tenth and one more
pub numeral-zero : numeral 0 ≡ []
unfolding numeral
numeral-zero = refl

pub numeral-step : (n : ℕ) → 0 < n → numeral n ≡ numeral (n / 10) ++ (48 + n % 10) ∷ []
unfolding numeral
numeral-step n some =
    ap (map (λ d. 48 + d)) (digits_of_step 10 n (omega arith) some) ∙ map-append (λ d. 48 + d) (digits_of 10 (n / 10)) (n % 10 ∷ [])

pub length-numeral-step : (n : ℕ) → 0 < n → length (numeral n) ≡ length (numeral (n / 10)) + 1
length-numeral-step n some = ap length (numeral-step n some) ∙ length-append (numeral (n / 10)) ((48 + n % 10) ∷ [])

pub length-numeral-le : (k n : ℕ) → n < 10 ^ k → length (numeral n) ≤ k
unfolding numeral
length-numeral-le k n few = rw length-map (length-digits_of-le 10 k n (omega arith) few)

pub some-numeral : (n : ℕ) → 0 < n → 0 < length (numeral n)
some-numeral n some = omega (arith, length-numeral-step n some)

-- the digits of a number may stand in a name
digit-character : (d : ℕ) → d < 10 → is_name_character (48 + d) ≡ true
unfolding is_name_character
digit-character d few = grind (arith, nat_tests, few)

numeral-characters : (n : ℕ) → AllPass is_name_character (numeral n)
unfolding numeral
numeral-characters n =
    All-map (λ c. is_name_character c ≡ true) (λ d. 48 + d) (digits_of 10 n)
    (All-weaker (λ d. d < 10) (λ d. is_name_character (48 + d) ≡ true) digit-character (digits_of 10 n)
    (All-from_recursion (λ d. d < 10) (digits_of 10 n) (all_below_base_digits_of 10 n (omega arith))))

-- so may what stays of a text
kept-characters : (most : ℕ) (text : List ℕ) → AllPass is_name_character (take most (kept_of text))
kept-characters most text =
    All-take (λ c. is_name_character c ≡ true) most (kept_of text)
    (filter_passes is_name_character (str_to_ascii_uppercase text))

module _ (width number : ℕ) (part : List ℕ) (few : length (numeral number) ≤ width) where
  pub name-characters : AllPass is_name_character (fitted_name width number part)
  name-characters =
      All-append (λ c. is_name_character c ≡ true) (take (width - length (numeral number)) (kept_of (name_before part))) (numeral number)
      (kept-characters (width - length (numeral number)) (name_before part)) (numeral-characters number)

  pub name-length : length (fitted_name width number part) ≤ width
  name-length =
      omega (
        arith,
        few,
        length-append (take (width - length (numeral number)) (kept_of (name_before part))) (numeral number),
        length-take (width - length (numeral number)) (kept_of (name_before part)),
      )

pub type-characters : (part : List ℕ) → AllPass is_name_character (fitted_type part)
type-characters part = kept-characters 3 (type_behind part)

pub type-length : (part : List ℕ) → length (fitted_type part) ≤ 3
type-length part = omega (arith, length-take 3 (kept_of (type_behind part)))

some-stays : (part : List ℕ) → has_some part ≡ true → 0 < length (fitted_name 9 0 part) + length (fitted_type part)
some-stays part some = grind (arith, nat_tests, some)

-- a candidate is a name where something stays
module _ (part : List ℕ) (number : ℕ) (some : has_some part ≡ true) (few : number ≤ 999999) where
  pub six : length (numeral number) ≤ 6
  six = length-numeral-le 6 number (omega (arith, few))

  not-empty : 0 < length (fitted_name 9 number part) + length (fitted_type part)
  not-empty = elim (cases_lt 0 number) as (λ _. 0 < length (fitted_name 9 number part) + length (fitted_type part)) [
    | inl lt ↦ omega (
      arith,
      some-numeral number lt,
      length-append (take (9 - length (numeral number)) (kept_of (name_before part))) (numeral number),
    )
    | inr ge ↦ let none : number ≡ 0 = omega (arith, ge) in rw none (some-stays part some)
  ]

  pub candidate-proper : IsProper (fitted_name 9 number part) (fitted_type part) 1
  candidate-proper = record {
    name_characters = name-characters 9 number part (omega (arith, six));
    name_length = name-length 9 number part (omega (arith, six));
    type_characters = type-characters part;
    type_length = type-length part;
    not_empty = not-empty;
    version_from = omega arith;
    version_to = omega arith;
  }

  pub candidate-spelled : (text dotted whole : List ℕ) → text ≡ fitted_text 9 number part → dotted ≡ text ++ 59 ∷ []
      → whole ≡ dotted ++ 49 ∷ [] → Spells whole (candidate part number)
  candidate-spelled text dotted whole is dotted_is whole_is = record {
    name = fitted_name 9 number part;
    type = fitted_type part;
    digits = 49 ∷ [];
    is_text =
        whole_is ∙ ap (λ (xs : List ℕ). xs ++ 49 ∷ []) (dotted_is ∙ ap (λ (xs : List ℕ). xs ++ 59 ∷ []) is)
        ∙ append_assoc (fitted_text 9 number part) (59 ∷ []) (49 ∷ [])
        ∙ append_assoc (fitted_name 9 number part) (46 ∷ fitted_type part) (59 ∷ 49 ∷ []);
    version = record { octal_digits = (omega arith, tt); some_digit = omega arith; five_digits = omega arith };
    proper = candidate-proper;
    same_words = refl;
  }

pub text-length : (width number : ℕ) (part : List ℕ) → length (numeral number) ≤ width
    → length (fitted_text width number part) ≤ width + 4
text-length width number part few =
    omega (
      arith,
      name-length width number part few,
      type-length part,
      length-append (fitted_name width number part) (46 ∷ fitted_type part),
    )

pub only-ok : {E : Type 0} (r : Result (List ℕ) E) (made wanted : List ℕ) → r ≡ Ok made → r ≡ Ok wanted → made ≡ wanted
only-ok {E} r made wanted is same =
    subst (λ (s : Result (List ℕ) E). IfOk s (λ x. x ≡ wanted)) is
    (subst (λ (s : Result (List ℕ) E). IfOk s (λ x. x ≡ wanted)) (sym same) refl)

pub fitted-works : FittedWorks
unfolding numeral is_name_character
fitted-works = (refl, (refl, (refl, refl)))
