-- The names of a directory's records, and which repeats one.
use Rattle.std.proofs.Common.{◌≡◌, ◌↔◌, ◌⊎◌, ◌<◌, ◌≤◌, ◌+◌, inl, inr, ℕ, Bool, true, false, not, List, [], cond, refl, ap, sym, subst, ◌∙◌}
use Rattle.std.proofs.Common.{arith}
use Rattle.std.proofs.lemmas.Bool.{both_ways, cases_lt}
use Rattle.std.proofs.lemmas.Map.Text.{is_eq-slice_cmp}
use Rattle.std.proofs.lemmas.Slice.Eq.{bytes_eq-Decides}
use Rattle.std.specs.BTreeSet.{BTreeSet, Updates}
use Rattle.std.specs.Cmp.Lexicographic.{slice_cmp}
use Rattle.std.specs.List.{list_any}
use Rattle.std.specs.Ordering.{is_eq, nat_cmp}
use Rattle.f11_store.specs.Directory.{is_empty, record_at, record_name}
use Rattle.f11_vfy.specs.Directory.Flaws.{HasNameIn, KeepsNames, has_name}

same-name : (a b : List ℕ) → is_eq (slice_cmp nat_cmp a b) ≡ true → a ≡ b
same-name a b is = (bytes_eq-Decides a b).0 (sym (is_eq-slice_cmp a b) ∙ is)

name-same : (a b : List ℕ) → a ≡ b → is_eq (slice_cmp nat_cmp a b) ≡ true
name-same a b same = is_eq-slice_cmp a b ∙ (bytes_eq-Decides a b).1 same

pub no-names : (blocks : List (List ℕ)) (names : BTreeSet (List ℕ)) → names.keys ≡ [] → KeepsNames blocks 0 names
no-names blocks names none name = (
  λ has. absurd (both_ways (has_name names name)
      (ap (λ (ks : List (List ℕ)). list_any (λ (k : List ℕ). is_eq (slice_cmp nat_cmp name k)) ks) none) has),
  λ has. absurd (omega (arith, has.earlier)),
)

not-false : (b : Bool) → true ≡ not b → b ≡ false
not-false true is = absurd cc
not-false false is = refl

not-true : (b : Bool) → false ≡ not b → b ≡ true
not-true true is = refl
not-true false is = absurd cc

-- record i, which isn't empty, was taken
module _ (blocks : List (List ℕ)) (i : ℕ) (old new : BTreeSet (List ℕ)) (name : List ℕ) (known : KeepsNames blocks i old)
    (not_empty : is_empty (record_at blocks i) ≡ false)
    (recorded : name ≡ record_name (record_at blocks i)) (update : Updates (slice_cmp nat_cmp) old new name true) where
  more : (q : List ℕ) → HasNameIn blocks i q → HasNameIn blocks (i + 1) q
  more q has = record { place = has.place; earlier = omega (arith, has.earlier); not_empty = has.not_empty; same = has.same }

  here : (q : List ℕ) → name ≡ q → HasNameIn blocks (i + 1) q
  here q same = record { place = i; earlier = omega arith; not_empty = not_empty; same = sym recorded ∙ same }

  found : (q : List ℕ) (b : Bool) → b ≡ is_eq (slice_cmp nat_cmp name q) → cond b true (has_name old q) ≡ true → HasNameIn blocks (i + 1) q
  found q true same has = here q (same-name name q (sym same))
  found q false other has = more q ((known q).0 has)

  back : (q : List ℕ) (has : HasNameIn blocks (i + 1) q) → (has.place < i) ⊎ (i ≤ has.place) → (b : Bool)
      → b ≡ is_eq (slice_cmp nat_cmp name q) → cond b true (has_name old q) ≡ true
  back q has which true same = refl
  back q has (inl earlier) false other =
      (known q).1 (record { place = has.place; earlier = earlier; not_empty = has.not_empty; same = has.same })
  back q has (inr not_earlier) false other =
      let at : has.place ≡ i = omega (arith, has.earlier, not_earlier) in
      let same : name ≡ q = recorded ∙ ap (λ (p : ℕ). record_name (record_at blocks p)) (sym at) ∙ has.same in
      absurd (both_ways _ (sym other) (name-same name q same))

  -- then its name is known too
  pub names-more : KeepsNames blocks (i + 1) new
  names-more q = (
    λ has. found q _ refl (sym (update.0 q) ∙ has),
    λ has. update.0 q ∙ back q has (cases_lt has.place i) _ refl,
  )

  -- and it was added where no earlier record has it
  pub names-repeat : (added : Bool) → added ≡ not (has_name old name)
      → added ≡ false ↔ HasNameIn blocks i (record_name (record_at blocks i))
  names-repeat true is = (
    λ no. absurd (both_ways true no refl),
    λ has. absurd (both_ways (has_name old name) (not-false _ is)
        ((known name).1 (subst (λ (n : List ℕ). HasNameIn blocks i n) (sym recorded) has))),
  )
  names-repeat false is = (
    λ _. subst (λ (n : List ℕ). HasNameIn blocks i n) recorded ((known name).0 (not-true _ is)),
    λ _. refl,
  )
