-- The highest version of a name, among more and more names.
use Rattle.std.proofs.Common.{◌≡◌, ◌⊎◌, inl, inr, ◌==◌, ◌&&◌, ℕ, ◌+◌, ◌<◌, ◌≤◌, arith, Bool, true, false, nat_lt, Contains, List, length}
use Rattle.std.proofs.Common.{slice_index_or, refl, sym, subst, ap, ◌∙◌}
use Rattle.std.proofs.lemmas.Bool.{eq-eqb, eqb-true, lt-ltb, ltb-true, false≢true}
use Rattle.std.proofs.lemmas.List.{get_or_default}
use Rattle.std.specs.Cmp.Derive.{both_true}
use Rattle.f11_patterns.specs.Meant.{IsHighestVersion, are_alike, is_higher, word_at}

-- Of the first so many names none is a higher version than this one, which is a version of the name.
pub record HighestSoFar (names : List (List ℕ)) (i : ℕ) (name highest : List ℕ) : Type 0 where
  pub among : (highest ≡ name) ⊎ Contains names highest
  pub alike : are_alike highest name ≡ true
  pub none_higher : (k : ℕ) (d : List ℕ) → k < i → is_higher (slice_index_or names k d) highest ≡ false

both-parts : (a b : Bool) → (a && b) ≡ true → (a ≡ true) × (b ≡ true)
both-parts true true is = (refl, refl)
both-parts true false is = absurd (false≢true is)
both-parts false b is = absurd (false≢true is)

pub same-words : (a b : List ℕ) → are_alike a b ≡ true
    → (word_at a 0 ≡ word_at b 0) × (word_at a 1 ≡ word_at b 1) × (word_at a 2 ≡ word_at b 2) × (word_at a 3 ≡ word_at b 3)
same-words a b is =
    let one = both-parts (word_at a 0 == word_at b 0) _ is in
    let two = both-parts (word_at a 1 == word_at b 1) _ one.1 in
    let three = both-parts (word_at a 2 == word_at b 2) _ two.1 in (
      eqb-true (word_at a 0) (word_at b 0) one.0,
      eqb-true (word_at a 1) (word_at b 1) two.0,
      eqb-true (word_at a 2) (word_at b 2) three.0,
      eqb-true (word_at a 3) (word_at b 3) three.1,
    )

from-words : (a b : List ℕ) → word_at a 0 ≡ word_at b 0 → word_at a 1 ≡ word_at b 1 → word_at a 2 ≡ word_at b 2
    → word_at a 3 ≡ word_at b 3 → are_alike a b ≡ true
from-words a b zeroth first second third =
    both_true (eq-eqb (word_at a 0) (word_at b 0) zeroth) (both_true (eq-eqb (word_at a 1) (word_at b 1) first)
    (both_true (eq-eqb (word_at a 2) (word_at b 2) second) (eq-eqb (word_at a 3) (word_at b 3) third)))

alike-itself : (a : List ℕ) → are_alike a a ≡ true
alike-itself a = from-words a a refl refl refl refl

alike-all : (a b c : List ℕ) → are_alike a b ≡ true → are_alike b c ≡ true → are_alike a c ≡ true
alike-all a b c one two =
    let ab = same-words a b one in
    let bc = same-words b c two in from-words a c (ab.0 ∙ bc.0) (ab.1 ∙ bc.1) (ab.2 ∙ bc.2) (ab.3 ∙ bc.3)

higher-all : (a b c : List ℕ) → is_higher a b ≡ true → is_higher b c ≡ true → is_higher a c ≡ true
higher-all a b c one two =
    let ab = both-parts (are_alike a b) (nat_lt (word_at b 4) (word_at a 4)) one in
    let bc = both-parts (are_alike b c) (nat_lt (word_at c 4) (word_at b 4)) two in
    let less : word_at c 4 < word_at a 4 = omega (
      arith,
      ltb-true (word_at b 4) (word_at a 4) ab.1,
      ltb-true (word_at c 4) (word_at b 4) bc.1,
    ) in
    both_true (alike-all a b c ab.0 bc.0) (lt-ltb (word_at c 4) (word_at a 4) less)

not-higher-itself : (a : List ℕ) → is_higher a a ≡ true → ⊥
not-higher-itself a is =
    let parts = both-parts (are_alike a a) (nat_lt (word_at a 4) (word_at a 4)) is in
    omega (arith, ltb-true (word_at a 4) (word_at a 4) parts.1)

unless : (b : Bool) → (b ≡ true → ⊥) → b ≡ false
unless true isnt = absurd (isnt refl)
unless false isnt = refl

module _ (names : List (List ℕ)) (i : ℕ) (name highest : List ℕ) where
  pub begun : HighestSoFar names 0 name name
  begun =
      record {
        among = inl refl;
        alike = alike-itself name;
        none_higher = λ k d few.
            absurd (let never : k < 0 = few in omega (arith, never));
      }

  -- what is above the highest of the names so far is that of these and itself
  pub raised : HighestSoFar names i name highest → (other : List ℕ) → other ≡ slice_index_or names i other → i < length names
      → is_higher other highest ≡ true → HighestSoFar names (i + 1) name other
  raised so other is some above = record {
    among = inr (i, some, sym is);
    alike = alike-all other highest name
        (both-parts (are_alike other highest) (nat_lt (word_at highest 4) (word_at other 4)) above).0 so.alike;
    none_higher = λ k d few. unless (is_higher (slice_index_or names k d) other) (λ more. by k d few more);
  }
    where
      at : (d : List ℕ) → slice_index_or names i d ≡ other
      at d = get_or_default names i d other some ∙ sym is

      by : (k : ℕ) (d : List ℕ) → k < i + 1 → is_higher (slice_index_or names k d) other ≡ true → ⊥
      by k d few more = from (k == i) refl
        where
          from : (b : Bool) → (k == i) ≡ b → ⊥
          from true e =
              let same : k ≡ i = eqb-true k i e in
              not-higher-itself other
              (subst (λ x. is_higher x other ≡ true) (ap (λ j. slice_index_or names j d) same ∙ at d) more)
          from false e =
              let apart : k ≡ i → ⊥ = λ same. false≢true (sym e ∙ eq-eqb k i same) in
              let below : k < i = omega (arith, few, apart) in
              false≢true (sym (so.none_higher k d below) ∙ higher-all (slice_index_or names k d) other highest more above)

  -- and what isn't leaves it so
  pub stayed : HighestSoFar names i name highest → (other : List ℕ) → other ≡ slice_index_or names i other → i < length names
      → is_higher other highest ≡ false → HighestSoFar names (i + 1) name highest
  stayed so other is some below = record { among = so.among; alike = so.alike; none_higher = by }
    where
      by : (k : ℕ) (d : List ℕ) → k < i + 1 → is_higher (slice_index_or names k d) highest ≡ false
      by k d few = from (k == i) refl
        where
          from : (b : Bool) → (k == i) ≡ b → is_higher (slice_index_or names k d) highest ≡ false
          from true e =
              let same : k ≡ i = eqb-true k i e in
              ap (λ x. is_higher x highest)
              (ap (λ j. slice_index_or names j d) same ∙ get_or_default names i d other some ∙ sym is) ∙ below
          from false e =
              let apart : k ≡ i → ⊥ = λ same. false≢true (sym e ∙ eq-eqb k i same) in so.none_higher k d (omega (arith, few, apart))

  pub ended : HighestSoFar names i name highest → length names ≤ i → IsHighestVersion names name highest
  ended so all = record {
    among = so.among;
    alike = so.alike;
    none_higher = λ k d few. so.none_higher k d (omega (arith, few, all));
  }
