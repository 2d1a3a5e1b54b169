-- A text is cut in one way behind the characters of a pattern that it begins with.
use Rattle.std.proofs.Common.{◌≡◌, ℕ, ◌<◌, ◌≤◌, Bool, true, false, not, List, [], ◌∷◌, ◌++◌, length, get_or, take, drop, position}
use Rattle.std.proofs.Common.{Option, Some, None, unwrap_or, nat_lt, cond, arith, refl, sym, subst, ◌∙◌, inl, inr, length-take}
use Rattle.std.specs.List.{AllPass, position_or_len}
use Rattle.std.proofs.lemmas.Bool.{cases_lt, lt-ltb, false≢true}
use Rattle.std.proofs.lemmas.Bool.Decides.{nat_tests}
use Rattle.std.proofs.lemmas.List.{take-append-drop, get_or-take, drop_all}
use Rattle.std.proofs.lemmas.List.Sums.{prefix_len-le-length, prefix_len_passes, prefix_len_stops}
use Rattle.std.proofs.lemmas.List.Elements.{All-head, All-tail}
use Rattle.std.proofs.Math.Seq.{drop-cons}
use Rattle.std.proofs.Math.Bool.{not-not}
use Rattle.f11_rad50.specs.Name.{is_name_character}
use Rattle.f11_patterns.specs.Parts.{is_pattern_character}
use Rattle.f11_patterns.specs.Split.{IsStopped, IsSplit}

-- a character that may not stand in a pattern
abbrev pub stops : ℕ → Bool
stops c = not (is_pattern_character c)

-- how many characters of a pattern a text begins with
abbrev pub leading : List ℕ → ℕ
leading text = position_or_len stops text

pub leading-le-length : (text : List ℕ) → leading text ≤ length text
leading-le-length text = prefix_len-le-length (λ c. not (stops c)) text

-- the place of the first other one, or the length
pub leading-place : (place : Option ℕ) (text : List ℕ) → place ≡ position stops text → unwrap_or place (length text) ≡ leading text
leading-place place text e = rw e (by_test (nat_lt (leading text) (length text)) refl)
  where
    by_test : (b : Bool) → nat_lt (leading text) (length text) ≡ b
        → unwrap_or (cond b (Some (leading text)) None) (length text) ≡ leading text
    by_test true t = refl
    by_test false t =
        elim (cases_lt (leading text) (length text)) as (λ _. length text ≡ leading text) [
          | inl below ↦ absurd (false≢true (sym t ∙ lt-ltb _ _ below))
          | inr above ↦ (let most = leading-le-length text in omega (arith, most))
        ]

twice : (b c : Bool) → not (not b) ≡ c → b ≡ c
twice b c e = sym (not-not b) ∙ e

-- a text is cut behind them
pub split-leading : (text : List ℕ) → IsSplit text (take (leading text) text) (drop (leading text) text)
split-leading text = record {
  whole = sym (take-append-drop (leading text) text);
  characters = (λ k d below.
      let most = leading-le-length text in
      let before : k < leading text = omega (arith, length-take (leading text) text) in
      rw (get_or-take (leading text) text k d before) (passes (get_or text k d) (prefix_len_passes (λ c. not (stops c)) text k d before)));
  stopped = elim (cases_lt (leading text) (length text)) as (λ _. IsStopped (drop (leading text) text)) [
    | inl below ↦ rw (drop-cons text (leading text) 0 below)
        (fails (get_or text (leading text) 0) (prefix_len_stops (λ c. not (stops c)) text 0 below))
    | inr above ↦ rw (drop_all (leading text) text above) tt
  ];
}
  where
    passes : (c : ℕ) → not (stops c) ≡ true → is_pattern_character c ≡ true
    passes c e = twice (is_pattern_character c) true e

    fails : (c : ℕ) → not (stops c) ≡ false → is_pattern_character c ≡ false
    fails c e = twice (is_pattern_character c) false e

-- in one way alone
pub split-one : (a b c d : List ℕ) → AllPass is_pattern_character a → IsStopped b → AllPass is_pattern_character c → IsStopped d
    → a ++ b ≡ c ++ d → (a ≡ c) × (b ≡ d)
split-one [] b [] d pa sb pc sd e = (refl, e)
split-one [] b (y ∷ c) d pa sb pc sd e =
    let stopped : is_pattern_character y ≡ false = subst IsStopped e sb in
    absurd (false≢true (sym stopped ∙ All-head (λ x. is_pattern_character x ≡ true) y c pc))
split-one (x ∷ a) b [] d pa sb pc sd e =
    let stopped : is_pattern_character x ≡ false = subst IsStopped (sym e) sd in
    absurd (false≢true (sym stopped ∙ All-head (λ x. is_pattern_character x ≡ true) x a pa))
split-one (x ∷ a) b (y ∷ c) d pa sb pc sd e =
    let first : x ≡ y = cc in
    let others : a ++ b ≡ c ++ d = cc in
    let rest = split-one a b c d (All-tail (λ x. is_pattern_character x ≡ true) x a pa) sb
    (All-tail (λ x. is_pattern_character x ≡ true) y c pc)
    sd others in
    (rw (first, rest.0) refl, rest.1)

-- so what a text was cut into is what it is made of
pub split-parts : (text front back made left : List ℕ) → IsSplit text front back → text ≡ made ++ left → AllPass is_pattern_character made
    → IsStopped left → (front ≡ made) × (back ≡ left)
split-parts text front back made left cut is characters stopped =
    split-one front back made left cut.characters cut.stopped characters stopped (sym cut.whole ∙ is)

-- a dot and a semicolon stand in no part
pub dot_stops : is_pattern_character 46 ≡ false
unfolding is_pattern_character is_name_character
dot_stops = refl

pub semicolon_stops : is_pattern_character 59 ≡ false
unfolding is_pattern_character is_name_character
semicolon_stops = refl

-- the characters of a name may stand in a pattern
pub name-passes : (c : ℕ) → is_name_character c ≡ true → is_pattern_character c ≡ true
unfolding is_pattern_character is_name_character
name-passes c h = grind (arith, nat_tests)

pub names-pass : (name : List ℕ) → AllPass is_name_character name → AllPass is_pattern_character name
names-pass name h = λ k d below. name-passes (get_or name k d) (h k d below)
