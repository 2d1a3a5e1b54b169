-- Live headers and next ones are found by tests.
use Rattle.std.proofs.Common.{◌≡◌, ◌↔◌, ℕ, Some, None, refl, ap, sym, subst, ◌∙◌, inl, inr, eqb-true, eq-eqb}
use Rattle.std.specs.Prelude.{IsTrue}
use Rattle.std.proofs.lemmas.Bool.{cases_Bool, and_parts, and_from, cond-true, cond-false}
use Rattle.std.proofs.lemmas.Option.{same_Some}
use Rattle.f11_map.specs.header.Fields.{file_sequence}
use Rattle.f11_map.specs.HeaderBlock.{segment_number, link_of}
use Rattle.f11_index.specs.Table.{Table, IsLive, IsNext}
use Rattle.f11_index.specs.Headers.{is_live, has_next, next_of}

live-from : (t : Table) (n : ℕ) → IsTrue (is_live t n) → IsLive t n
unfolding is_live
live-from t n is =
    let used = and_parts _ _ is in
    let numbered = and_parts _ _ used.1 in
    let holds = and_parts _ _ numbered.1 in
    record { in_use = used.0; valid = record { number = eqb-true _ _ numbered.0; holds = holds.0; sum = eqb-true _ _ holds.1 } }

live-test : (t : Table) (n : ℕ) → IsLive t n → IsTrue (is_live t n)
unfolding is_live
live-test t n live =
    and_from _ _ live.in_use (and_from _ _ (eq-eqb _ _ live.valid.number) (and_from _ _ live.valid.holds (eq-eqb _ _ live.valid.sum)))

pub live-tested : (t : Table) (n : ℕ) → IsTrue (is_live t n) ↔ IsLive t n
live-tested t n = (live-from t n, live-test t n)

next-has : (t : Table) (n m : ℕ) → IsNext t n m → IsTrue (has_next t n)
unfolding has_next
next-has t n m next =
    let there : IsLive t (link_of (t.header n)).number = subst (λ (k : ℕ). IsLive t k) (sym next.number) next.to in
    let sequence = next.sequence ∙ ap (λ (k : ℕ). file_sequence (t.header k)) (sym next.number) in
    let segment = ap (λ (k : ℕ). segment_number (t.header k)) next.number ∙ next.segment in
    and_from _ _ (live-test t n next.from) (and_from _ _ (live-test t _ there) (and_from _ _ (eq-eqb _ _ sequence) (eq-eqb _ _ segment)))

has-next : (t : Table) (n : ℕ) → IsTrue (has_next t n) → IsNext t n (link_of (t.header n)).number
unfolding has_next
has-next t n has =
    let from = and_parts _ _ has in
    let to = and_parts _ _ from.1 in
    let numbers = and_parts _ _ to.1 in
    record {
      from = live-from t n from.0;
      to = live-from t _ to.0;
      number = refl;
      sequence = eqb-true _ _ numbers.0;
      segment = eqb-true _ _ numbers.1;
    }

next-test : (t : Table) (n m : ℕ) → IsNext t n m → next_of t n ≡ Some m
unfolding next_of
next-test t n m next = cond-true (has_next t n) _ _ (next-has t n m next) ∙ ap Some next.number

next-from : (t : Table) (n m : ℕ) → next_of t n ≡ Some m → IsNext t n m
unfolding next_of
next-from t n m found = elim (cases_Bool (has_next t n)) [
  | inl has ↦ subst (λ (k : ℕ). IsNext t n k) (same_Some _ m (sym (cond-true (has_next t n) _ _ has) ∙ found)) (has-next t n has)
  | inr none ↦ let no : None ≡ Some m = sym (cond-false (has_next t n) _ _ none) ∙ found in cc
]

pub next-found : (t : Table) (n m : ℕ) → (next_of t n ≡ Some m) ↔ IsNext t n m
next-found t n m = (next-from t n m, next-test t n m)
