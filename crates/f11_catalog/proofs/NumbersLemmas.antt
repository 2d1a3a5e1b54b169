-- The numbers that were met.
use Rattle.std.proofs.Common.{◌≡◌, ◌≢◌, ◌⊎◌, ◌+◌, ◌<◌, ◌≤◌, ◌||◌, ◌&&◌, ◌==◌, ℕ, zero, suc, false, true, List, Bool, replicate, get_or}
use Rattle.std.proofs.Common.{cond, refl, sym, ap, ◌∙◌, inl, inr, arith}
use Rattle.std.proofs.Math.Bool.{and-false, or-false, or-true}
use Rattle.std.proofs.lemmas.Bool.{cases_lt, eq-eqb, le-ltb, lt-ltb}
use Rattle.std.proofs.lemmas.Bool.Decides.{eqb_tells}
use Rattle.std.proofs.lemmas.List.{get_or-replicate, get_or_past, length-replicate}
use Rattle.std.specs.Prelude.{nat_lt}
use Rattle.f11_catalog.specs.Steps.{IsNew, is_met, unmet, unmet_below}
use Rattle.f11_catalog.specs.declared.walk.state.Numbers.{Numbers}

-- none is at first
none-met : (n : ℕ) → get_or (replicate 65536 false) n false ≡ false
none-met n = elim (cases_lt n 65536) [
  | inl within ↦ get_or-replicate 65536 n false false within
  | inr past ↦ get_or_past (replicate 65536 false) n false (let long = length-replicate 65536 false in omega (arith, long, past))
]

pub is-new : (numbers : Numbers) → numbers.met.items ≡ replicate 65536 false → numbers.next ≡ 1 → IsNew numbers
is-new numbers met next =
    record { none = λ n. ap (λ (xs : List Bool). get_or xs n false) met ∙ none-met n; first = next }

-- what was met is the same where this is
pub met-same : (one other : Numbers) → one.met ≡ other.met → is_met one ≡ is_met other
met-same one other same = λ i. λ n. get_or (same i).items n false

-- No number past the last of a file was met.
pub past-unmet : (numbers : Numbers) (n : ℕ) → 65536 ≤ n → is_met numbers n ≡ false
past-unmet numbers n past = get_or_past numbers.met.items n false (let room = numbers.room in omega (arith, room, past))

not-same : (a b : ℕ) → a ≢ b → (a == b) ≡ false
not-same a b other = elim (eqb_tells a b) [
  | inl same ↦ absurd (other same.1)
  | inr so ↦ so.0
]

-- One more was met: so many fewer weren't.
module _ (first later : Numbers) (n : ℕ) (not-met : is_met first n ≡ false)
    (meets : (m : ℕ) → is_met later m ≡ (is_met first m || (n == m))) where
  same-weight : (m : ℕ) → (n == m) ≡ false → is_met later m ≡ is_met first m
  same-weight m other = meets m ∙ ap (λ (b : Bool). is_met first m || b) other ∙ or-false (is_met first m)

  abbrev weight : Bool → ℕ
  weight met = cond met 0 1

  unmet-before : (k : ℕ) → k ≤ n → unmet_below later k ≡ unmet_below first k
  unmet-before zero few = refl
  unmet-before (suc k) few =
      ap (λ (b : Bool). weight b + unmet_below later k) (same-weight k (not-same n k (λ is. omega (arith, few, is))))
      ∙ ap (λ (m : ℕ). weight (is_met first k) + m) (unmet-before k (omega (arith, few)))

  unmet-fewer : (k : ℕ) → n < k → unmet_below later k < unmet_below first k
  unmet-fewer zero within = absurd (omega (arith, within))
  unmet-fewer (suc k) within = elim (cases_lt n k) [
    | inl before ↦
        let same = ap weight (same-weight k (not-same n k (λ is. omega (arith, before, is)))) in
        let fewer = unmet-fewer k before in
        omega (arith, same, fewer)
    | inr here ↦
        let is : n ≡ k = omega (arith, within, here) in
        let one : weight (is_met first k) ≡ 1 = ap weight (sym (ap (is_met first) is) ∙ not-met) in
        let none : weight (is_met later k) ≡ 0 =
        ap weight (meets k ∙ ap (λ (b : Bool). is_met first k || b) (eq-eqb n k is) ∙ or-true (is_met first k)) in
        let rest = unmet-before k (omega (arith, here)) in
        omega (arith, one, none, rest)
  ]

  pub one-fewer : n < 65536 → unmet later < unmet first
  unfolding unmet
  one-fewer within = unmet-fewer 65536 within

-- Of the numbers below one those were met that others have met, too; some of them weren't, or all were.
pub record MeetsBelow (others first here : Numbers) (grows : Bool) (n : ℕ) : Type 0 where
  pub met : (m : ℕ) → is_met here m ≡ (is_met first m || (nat_lt m n && is_met others m))
  pub next : here.next ≡ first.next
  pub same : grows ≡ false → (m : ℕ) → is_met here m ≡ is_met first m
  pub fewer : grows ≡ true → unmet here < unmet first
  pub no_more : unmet here ≤ unmet first
  pub within : n ≤ 65536

-- another number is below one more where it is below this
lt-on : (m n : ℕ) → m ≢ n → nat_lt m n ≡ nat_lt m (n + 1)
lt-on m n other = elim (cases_lt m n) [
  | inl below ↦ lt-ltb m n below ∙ sym (lt-ltb m (n + 1) (omega (arith, below)))
  | inr past ↦ elim (cases_lt n m) [
    | inl above ↦ le-ltb m n past ∙ sym (le-ltb m (n + 1) (omega (arith, above)))
    | inr same ↦ absurd (other (omega (arith, past, same)))
  ]
]

pub meets-none : (others first : Numbers) → MeetsBelow others first first false 0
meets-none others first = record {
  met = λ m.
      sym (ap (λ (b : Bool). is_met first m || (b && is_met others m)) (le-ltb m 0 (omega arith)) ∙ or-false (is_met first m));
  next = refl;
  same = λ _ m. refl;
  fewer = λ no. absurd cc;
  no_more = omega arith;
  within = omega arith;
}

module _ (others first here : Numbers) (grows : Bool) (n : ℕ) (below : MeetsBelow others first here grows n) where
  abbrev if_met : ℕ → Bool → Bool
  if_met m b = is_met first m || (b && is_met others m)

  -- one more is looked at, which wasn't met
  pub meets-one : (later : Numbers) → n < 65536 → is_met others n ≡ true → is_met here n ≡ false
      → ((m : ℕ) → is_met later m ≡ (is_met here m || (n == m))) → later.next ≡ here.next → MeetsBelow others first later true (n + 1)
  meets-one later inside other-met not-met meets next = record {
    met = λ m. elim (eqb_tells n m) [
      | inl is ↦
          meets m
          ∙ ap (λ (b : Bool). is_met here m || b) is.0
          ∙ or-true (is_met here m)
          ∙ sym (ap (if_met m) (lt-ltb m (n + 1) (let same = is.1 in omega (arith, same)))
          ∙ ap (λ (b : Bool). is_met first m || b) (ap (is_met others) (sym is.1) ∙ other-met)
          ∙ or-true (is_met first m))
      | inr is ↦
          meets m
          ∙ ap (λ (b : Bool). is_met here m || b) is.0
          ∙ or-false (is_met here m)
          ∙ below.met m
          ∙ ap (if_met m) (lt-on m n (λ same. is.1 (sym same)))
    ];
    next = next ∙ below.next;
    same = λ no. absurd cc;
    fewer = λ _. let one = one-fewer here later n not-met meets inside in let all = below.no_more in omega (arith, one, all);
    no_more = let one = one-fewer here later n not-met meets inside in let all = below.no_more in omega (arith, one, all);
    within = omega (arith, inside);
  }

  -- or which was, or which others haven't met
  pub meets-on : n < 65536 → (is_met others n ≡ false) ⊎ (is_met here n ≡ true) → MeetsBelow others first here grows (n + 1)
  meets-on inside either = record {
    met = λ m. elim (eqb_tells n m) [
      | inl is ↦ here-met m is.1 either
      | inr is ↦ below.met m ∙ ap (if_met m) (lt-on m n (λ same. is.1 (sym same)))
    ];
    next = below.next;
    same = below.same;
    fewer = below.fewer;
    no_more = below.no_more;
    within = omega (arith, inside);
  }
    where
      not-below : (m : ℕ) → n ≡ m → nat_lt m n ≡ false
      not-below m same = le-ltb m n (omega (arith, same))

      here-met : (m : ℕ) → n ≡ m → (is_met others n ≡ false) ⊎ (is_met here n ≡ true)
          → is_met here m ≡ (is_met first m || (nat_lt m (n + 1) && is_met others m))
      here-met m same (inl none) =
          below.met m
          ∙ ap (if_met m) (not-below m same)
          ∙ ap (λ (b : Bool). is_met first m || b) (sym (and-false (nat_lt m (n + 1)))
          ∙ ap (λ (b : Bool). nat_lt m (n + 1) && b) (sym (ap (is_met others) (sym same) ∙ none)))
      here-met m same (inr met) =
          let first-met : is_met first m ≡ true =
          sym (below.met m ∙ ap (if_met m) (not-below m same) ∙ or-false (is_met first m)) ∙ ap (is_met here) (sym same) ∙ met in
          ap (is_met here) (sym same) ∙ met
          ∙ ap (λ (b : Bool). b || (nat_lt m (n + 1) && is_met others m)) (sym first-met)

  -- all were looked at
  pub meets-all : 65536 ≤ n → (m : ℕ) → is_met here m ≡ (is_met first m || is_met others m)
  meets-all past m = elim (cases_lt m n) [
    | inl inside ↦ below.met m ∙ ap (if_met m) (lt-ltb m n inside)
    | inr outside ↦
        below.met m
        ∙ ap (if_met m) (le-ltb m n outside)
        ∙ ap (λ (b : Bool). is_met first m || b) (sym (past-unmet others m (omega (arith, past, outside))))
  ]
