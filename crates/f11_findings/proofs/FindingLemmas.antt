-- The order of findings, and one that is put at its place.
use Rattle.std.proofs.Common.{◌≡◌, ◌⊎◌, inl, inr, ℕ, zero, suc, ◌+◌, ◌-◌, ◌<◌, ◌≤◌, refl, sym, subst, List, [], ◌∷◌, ◌++◌, length, get_or}
use Rattle.std.proofs.Common.{take, drop, ◌==◌, ◌&&◌, true, arith}
use Rattle.std.specs.List.{Contains, insert}
use Rattle.std.proofs.lemmas.Bool.{cases_lt, cases_eq, and_parts}
use Rattle.std.proofs.lemmas.Bool.Decides.{nat_tests}
use Rattle.std.proofs.lemmas.List.{take-append-drop}
use Rattle.std.proofs.lemmas.List.Edits.{length-insert, get_or-insert_below, get_or-insert_at, get_or-insert_above}
use Rattle.std.proofs.lemmas.List.Elements.{Contains-append_left, Contains-append_right, Contains-append_cases}
use Rattle.f11_findings.specs.declared.finding.Finding.{Finding}
use Rattle.f11_findings.specs.Finding.{IsBefore, IsInOrder, AddsFindings, IsPlaceFor}

-- findings that are found to be equal are one
pub same_finding : (f g : Finding) → (f.code == g.code && (f.a == g.a && f.b == g.b)) ≡ true → f ≡ g
same_finding f g equal =
    let code : (f.code == g.code ≡ true) × (f.a == g.a && f.b == g.b ≡ true) = and_parts (f.code == g.code)
    (f.a == g.a && f.b == g.b) equal in
    let numbers : (f.a == g.a ≡ true) × (f.b == g.b ≡ true) = and_parts (f.a == g.a) (f.b == g.b) code.1 in
    let same_code : f.code ≡ g.code = grind (arith, nat_tests) in
    let same_a : f.a ≡ g.a = grind (arith, nat_tests) in
    let same_b : f.b ≡ g.b = grind (arith, nat_tests) in
    λ i. record { code = same_code i; a = same_a i; b = same_b i }

IsBefore-more : (f g h : Finding) → IsBefore f g → IsBefore g h → IsBefore f h
IsBefore-more f g h one two = record {
  code = omega arith;
  a = λ same. omega arith;
  b = λ same a. omega arith;
}

-- a finding put at its place leaves the findings in order
IsInOrder-insert : (found : List Finding) (f : Finding) (at : ℕ) → IsInOrder found → IsPlaceFor found f at → IsInOrder (insert found at f)
IsInOrder-insert found f at order place i j d less within = go (cases_lt i at) (cases_lt j at)
  where
    le : at ≤ length found
    le = place.within

    size : length (insert found at f) ≡ length found + 1
    size = length-insert found at f le

    -- what stands before the place stands before the finding
    ahead : (k : ℕ) → k < at → IsBefore (get_or found k d) f
    ahead k before = elim (cases_eq (k + 1) at) [
      | inl last ↦ place.front k d (sym last)
      | inr further ↦
          let last : at ≡ at - 1 + 1 = omega arith in
          IsBefore-more _ _ _ (order k (at - 1) d (omega arith) (omega (arith, le))) (place.front (at - 1) d last)
    ]

    here : (k : ℕ) → k < at → get_or (insert found at f) k d ≡ get_or found k d
    here k before = get_or-insert_below found at f d k before le

    there : (k : ℕ) → at ≤ k → get_or (insert found at f) (k + 1) d ≡ get_or found k d
    there k behind = get_or-insert_above found at f d k behind le

    -- one before the place, and any behind it
    across : (m : ℕ) → i < at → at ≤ m → m < length found + 1 → IsBefore (get_or found i d) (get_or (insert found at f) m d)
    across m before behind end = elim (cases_eq m at) [
      | inl same ↦ subst (λ (n : ℕ). IsBefore (get_or found i d) (get_or (insert found at f) n d)) (sym same)
          (subst (IsBefore (get_or found i d)) (sym (get_or-insert_at found at f d le)) (ahead i before))
      | inr further ↦
          let next : m - 1 + 1 ≡ m = omega arith in
          subst (λ (n : ℕ). IsBefore (get_or found i d) (get_or (insert found at f) n d)) next
          (subst (IsBefore (get_or found i d)) (sym (there (m - 1) (omega arith))) (order i (m - 1) d (omega arith) (omega arith)))
    ]

    -- two behind it
    both : (k m : ℕ) → at ≤ k → k < m → m < length found + 1 → IsBefore (get_or (insert found at f) k d) (get_or found (m - 1) d)
    both k m behind less end = elim (cases_eq k at) [
      | inl same ↦ subst (λ (n : ℕ). IsBefore (get_or (insert found at f) n d) (get_or found (m - 1) d)) (sym same)
          (subst (λ (g : Finding). IsBefore g (get_or found (m - 1) d)) (sym (get_or-insert_at found at f d le))
          (place.behind (m - 1) d (omega arith) (omega arith)))
      | inr further ↦
          let next : k - 1 + 1 ≡ k = omega arith in
          subst (λ (n : ℕ). IsBefore (get_or (insert found at f) n d) (get_or found (m - 1) d)) next
          (subst (λ (g : Finding). IsBefore g (get_or found (m - 1) d)) (sym (there (k - 1) (omega arith)))
          (order (k - 1) (m - 1) d (omega arith) (omega arith)))
    ]

    go : (i < at) ⊎ (at ≤ i) → (j < at) ⊎ (at ≤ j) → IsBefore (get_or (insert found at f) i d) (get_or (insert found at f) j d)
    go (inl one) (inl two) = subst (λ (g : Finding). IsBefore g (get_or (insert found at f) j d)) (sym (here i one))
        (subst (IsBefore (get_or found i d)) (sym (here j two)) (order i j d less (omega (arith, le))))
    go (inl one) (inr two) = subst (λ (g : Finding). IsBefore g (get_or (insert found at f) j d)) (sym (here i one))
        (across j one two (omega (arith, size)))
    go (inr one) (inl two) = absurd (omega arith)
    go (inr one) (inr two) =
        let next : j - 1 + 1 ≡ j = omega arith in
        subst (λ (n : ℕ). IsBefore (get_or (insert found at f) i d) (get_or (insert found at f) n d)) next
        (subst (IsBefore (get_or (insert found at f) i d)) (sym (there (j - 1) (omega arith))) (both i j one less (omega (arith, size))))

-- an element of a list with one put in is that one or one of the list's
Contains-insert_cases : (found : List Finding) (f g : Finding) (at : ℕ) → at ≤ length found → Contains (insert found at f) g
    → Contains found g ⊎ (f ≡ g)
Contains-insert_cases found f g at le has = go (Contains-append_cases (take at found) (f ∷ drop at found) g has)
  where
    parts : take at found ++ drop at found ≡ found
    parts = take-append-drop at found

    behind : Contains (f ∷ drop at found) g → Contains found g ⊎ (f ≡ g)
    behind (zero, within, is) = inr is
    behind (suc k, within, is) =
        inl (subst (λ (xs : List Finding). Contains xs g) parts
        (Contains-append_right (take at found) (drop at found) g (k, omega arith, is)))

    go : Contains (take at found) g ⊎ Contains (f ∷ drop at found) g → Contains found g ⊎ (f ≡ g)
    go (inl front) = inl (subst (λ (xs : List Finding). Contains xs g) parts (Contains-append_left (take at found) (drop at found) g front))
    go (inr rest) = behind rest

-- a finding is added at its place
pub Adds-insert : (found : List Finding) (f : Finding) (at : ℕ) → IsPlaceFor found f at → AddsFindings found (insert found at f) (f ∷ [])
Adds-insert found f at place = record {
  kept = λ g is. kept_in g is;
  added = λ g one. subst (Contains (insert found at f)) (one_is g one)
      (Contains-append_right (take at found) (f ∷ drop at found) f (0, omega arith, refl));
  no_others = λ g has. elim (Contains-insert_cases found f g at place.within has) [
    | inl is ↦ inl is
    | inr is ↦ inr (subst (λ (h : Finding). Contains (f ∷ []) h) is (0, omega arith, refl))
  ];
  order = λ was. IsInOrder-insert found f at was place;
}
  where
    one_is : (g : Finding) → Contains (f ∷ []) g → f ≡ g
    one_is g (zero, within, is) = is
    one_is g (suc k, within, is) = absurd (omega arith)

    next : (g : Finding) → Contains (drop at found) g → Contains (f ∷ drop at found) g
    next g (k, within, is) = (suc k, omega arith, is)

    kept_in : (g : Finding) → Contains found g → Contains (insert found at f) g
    kept_in g is = elim (Contains-append_cases (take at found) (drop at found) g
        (subst (λ (xs : List Finding). Contains xs g) (sym (take-append-drop at found)) is)) [
          | inl front ↦ Contains-append_left (take at found) (f ∷ drop at found) g front
          | inr rest ↦ Contains-append_right (take at found) (f ∷ drop at found) g (next g rest)
        ]

-- none was added
pub Adds-none : (found : List Finding) → AddsFindings found found []
Adds-none found = record {
  kept = λ g is. is;
  added = λ g none. absurd (omega arith);
  no_others = λ g is. inl is;
  order = λ was. was;
}
