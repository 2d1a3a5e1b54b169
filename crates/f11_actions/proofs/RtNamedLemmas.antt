-- Names on RT-11 that are fitted.
use Rattle.std.proofs.Common.{◌≡◌, ◌==◌, ℕ, ◌+◌, ◌-◌, ◌<◌, ◌≤◌, Bool, true, false, not, nat_lt, List, [], ◌∷◌, ◌++◌, length}
use Rattle.std.proofs.Common.{take, get_or, refl, sym, ap, ◌∙◌, arith, inl, inr, length-append, slice_index_or, suc, Option}
use Rattle.std.proofs.Common.{◌&&◌, slice_index}
use Rattle.std.specs.List.{AllPass, cons_option, filter_map}
use Rattle.std.proofs.Math.Seq.{take-suc}
use Rattle.std.proofs.lemmas.Bool.{cases_lt, eqb-true, false≢true}
use Rattle.std.proofs.lemmas.Bool.Decides.{nat_tests}
use Rattle.std.proofs.lemmas.List.Elements.{All-head, filter_map-append}
use Rattle.f11_rad50.specs.Name.{is_name_character}
use Rattle.f11_patterns.specs.Giving.{first_free, is_free}
use Rattle.f11_patterns.specs.Fitting.{fitted_name, fitted_text, fitted_type, kept_of, name_before, numeral}
use Rattle.f11_patterns.proofs.FittingLemmas.{length-numeral-le, name-characters, name-length, numeral-zero, some-numeral, type-characters}
use Rattle.f11_patterns.proofs.FittingLemmas.{type-length}
use Rattle.f11_patterns.proofs.FreeLemmas.{some-free, some-mapped}
use Rattle.rt11_volume.specs.Entry.{is_same_name}
use Rattle.rt11_volume.specs.RtName.{IsRtProper, RtSpells, rt_name_of, rt_words_of}
use Rattle.rt11_volume.proofs.NameLemmas.{rt_name_of-words}
use Rattle.f11_actions.specs.RtNamed.{RtFittedIsThere, has_rt_some, rt_candidate, rt_naming}

-- a candidate is a name where something stays
module _ (part : List ℕ) (number : ℕ) (some : has_rt_some part ≡ true) (few : number ≤ 999999) where
  pub rt-six : length (numeral number) ≤ 6
  rt-six = length-numeral-le 6 number (omega (arith, few))

  some-stays : 0 < length (fitted_name 6 0 part)
  some-stays = grind (arith, nat_tests, some)

  not-empty : 0 < length (fitted_name 6 number part)
  not-empty = elim (cases_lt 0 number) as (λ _. 0 < length (fitted_name 6 number part)) [
    | inl lt ↦ omega (
      arith,
      some-numeral number lt,
      length-append (take (6 - length (numeral number)) (kept_of (name_before part))) (numeral number),
    )
    | inr ge ↦ let none : number ≡ 0 = omega (arith, ge) in rw none some-stays
  ]

  pub rt-candidate-proper : IsRtProper (fitted_name 6 number part) (fitted_type part)
  rt-candidate-proper = record {
    name_characters = name-characters 6 number part rt-six;
    name_some = not-empty;
    name_length = name-length 6 number part rt-six;
    type_characters = type-characters part;
    type_length = type-length part;
  }

  pub rt-candidate-spelled : (text : List ℕ) → text ≡ fitted_text 6 number part → RtSpells text (rt_candidate part number)
  rt-candidate-spelled text is = record {
    name = fitted_name 6 number part;
    type = fitted_type part;
    is_text = is;
    proper = rt-candidate-proper;
    same_words = refl;
  }

-- a text begins with a dot where no name stands before it
dot-first : (name type : List ℕ) → AllPass is_name_character name
    → not (slice_index_or (name ++ 46 ∷ type) 0 46 == 46) ≡ nat_lt 0 (length name)
unfolding is_name_character
dot-first [] type are = refl
dot-first (c ∷ name) type are =
    let one : is_name_character c ≡ true = All-head (λ x. is_name_character x ≡ true) c name are in
    let other : (c == 46) ≡ false = grind (arith, nat_tests, one) in
    let more : nat_lt 0 (length (c ∷ name)) ≡ true = grind (arith, nat_tests) in
    rw other (sym more)

pub has-some-by-dot : (part text : List ℕ) → text ≡ fitted_text 6 0 part
    → not (slice_index_or text 0 46 == 46) ≡ has_rt_some part
has-some-by-dot part text is =
    ap (λ (xs : List ℕ). not (slice_index_or xs 0 46 == 46)) is
    ∙ dot-first (fitted_name 6 0 part) (fitted_type part) (name-characters 6 0 part (rw numeral-zero (omega arith)))

-- one item more has a name, or none
module _ {X : Type 0} (h : X → Option (List ℕ)) where
  pub names-more : (xs : List X) (i : ℕ) (d : X) (names names' : List (List ℕ)) (name : Option (List ℕ)) → i < length xs
      → name ≡ h (get_or xs i d) → names' ≡ names ++ cons_option name [] → names ≡ filter_map h (take i xs)
      → names' ≡ filter_map h (take (i + 1) xs)
  names-more xs i d names names' name some is more so =
      let next : i + 1 ≡ suc i = omega arith in
      let whole : take (i + 1) xs ≡ take i xs ++ get_or xs i d ∷ [] = ap (λ (n : ℕ). take n xs) next ∙ take-suc xs i d some in
      more ∙ ap (λ (o : Option (List ℕ)). names ++ cons_option o []) is
      ∙ ap (λ (ns : List (List ℕ)). ns ++ cons_option (h (get_or xs i d)) []) so
      ∙ sym (ap (filter_map h) whole ∙ filter_map-append h (take i xs) (get_or xs i d ∷ []))

-- a name has one fitted name of six characters, so one is free
both-parts : (a b : Bool) → (a && b) ≡ true → (a ≡ true) × (b ≡ true)
both-parts true true is = (refl, refl)
both-parts true false is = absurd (false≢true is)
both-parts false b is = absurd (false≢true is)

one-same : (part : List ℕ) (some : has_rt_some part ≡ true) (m n : ℕ) (name : List ℕ) → m ≤ 999999 → n ≤ 999999
    → is_same_name (rt_candidate part m) name ≡ true → is_same_name (rt_candidate part n) name ≡ true
    → fitted_name 6 m part ≡ fitted_name 6 n part
unfolding rt_words_of
one-same part some m n name low high a b =
    let one = both-parts (slice_index (rt_candidate part m) 0 == slice_index name 0) _ a in
    let one_more = both-parts (slice_index (rt_candidate part m) 1 == slice_index name 1) _ one.1 in
    let two = both-parts (slice_index (rt_candidate part n) 0 == slice_index name 0) _ b in
    let two_more = both-parts (slice_index (rt_candidate part n) 1 == slice_index name 1) _ two.1 in
    let first = eqb-true _ _ one.0 ∙ sym (eqb-true _ _ two.0) in
    let second = eqb-true _ _ one_more.0 ∙ sym (eqb-true _ _ two_more.0) in
    let kind = eqb-true _ _ one_more.1 ∙ sym (eqb-true _ _ two_more.1) in
    let same : rt_candidate part m ≡ rt_candidate part n = λ i. first i ∷ second i ∷ kind i ∷ [] in
    sym (rt_name_of-words (fitted_name 6 m part) (fitted_type part) (rt-candidate-proper part m some low))
    ∙ ap rt_name_of same ∙ rt_name_of-words (fitted_name 6 n part) (fitted_type part) (rt-candidate-proper part n some high)

pub rt-fitted-is-there : RtFittedIsThere
rt-fitted-is-there there part some few =
    let free = some-free 6 part (λ n. is_same_name (rt_candidate part n)) there few (one-same part some) in
    rw some (some-mapped (rt_candidate part) (first_free (is_free rt_naming there part)) free)
