-- How often a number is in a list.
use Rattle.std.proofs.Common.{◌≡◌, ◌≢◌, ◌≤◌, ◌<◌, ◌+◌, ◌⊎◌, inl, inr, ℕ, zero, suc, refl, ap, sym, ◌∙◌, arith, cond, List, [], ◌∷◌, ◌++◌}
use Rattle.std.proofs.Common.{Some, eqb}
use Rattle.std.specs.List.{slice_get, range_with_len}
use Rattle.std.proofs.lemmas.Bool.{cases_lt, cases_eq, eq-eqb, ne_eqb}
use Rattle.std.proofs.lemmas.Option.{same_Some}
use Rattle.f11_vfy.specs.Surveying.Count.{times_among, within}
use Rattle.f11_vfy.proofs.Surveying.Tally.{within-in, within-below, within-above, within-none}

-- 1 where two numbers are one
same : ℕ → ℕ → ℕ
same x l = cond (eqb x l) 1 0

same-yes : (x l : ℕ) → x ≡ l → same x l ≡ 1
unfolding same
same-yes x l e = ap (λ t. cond t 1 0) (eq-eqb x l e)

same-no : (x l : ℕ) → x ≢ l → same x l ≡ 0
unfolding same
same-no x l e = ap (λ t. cond t 1 0) (ne_eqb x l e)

times-cons : (x : ℕ) (xs : List ℕ) (l : ℕ) → times_among (x ∷ xs) l ≡ same x l + times_among xs l
unfolding same times_among
times-cons x xs l = refl

pub times-nil : (l : ℕ) → times_among [] l ≡ 0
unfolding times_among
times-nil l = refl

pub times-append : (xs ys : List ℕ) (l : ℕ) → times_among (xs ++ ys) l ≡ times_among xs l + times_among ys l
times-append [] ys l = omega (arith, times-nil l)
times-append (x ∷ xs) ys l = omega (arith, times-cons x (xs ++ ys) l, times-cons x xs l, times-append xs ys l)

pub times-range : (a n l : ℕ) → times_among (range_with_len a n) l ≡ within a (a + n) l
times-range a zero l = times-nil l ∙ sym (within-none a l) ∙ ap (λ z. within a z l) (omega arith)
times-range a (suc n) l =
    times-cons a (range_with_len (a + 1) n) l ∙ go (times-range (a + 1) n l) (cases_lt l a) (cases_lt a l) (cases_lt l (a + suc n))
  where
    go : times_among (range_with_len (a + 1) n) l ≡ within (a + 1) (a + 1 + n) l → (l < a) ⊎ (a ≤ l) → (a < l) ⊎ (l ≤ a)
        → (l < a + suc n) ⊎ (a + suc n ≤ l)
        → same a l + times_among (range_with_len (a + 1) n) l ≡ within a (a + suc n) l
    go rest (inl x) y z =
        omega (
          arith,
          rest,
          same-no a l (λ e. omega arith),
          within-below (a + 1) (a + 1 + n) l (omega arith),
          within-below a (a + suc n) l x,
        )
    go rest (inr x) (inl y) (inl z) =
        omega (
          arith,
          rest,
          same-no a l (λ e. omega arith),
          within-in (a + 1) (a + 1 + n) l (omega arith) (omega arith),
          within-in a (a + suc n) l x z,
        )
    go rest (inr x) (inl y) (inr z) =
        omega (
          arith,
          rest,
          same-no a l (λ e. omega arith),
          within-above (a + 1) (a + 1 + n) l (omega arith),
          within-above a (a + suc n) l z,
        )
    go rest (inr x) (inr y) z =
        omega (
          arith,
          rest,
          same-yes a l (omega arith),
          within-below (a + 1) (a + 1 + n) l (omega arith),
          within-in a (a + suc n) l x (omega arith),
        )

-- a number that is there has a place, and one that has a place is there
pub some_place : (xs : List ℕ) (l : ℕ) → 1 ≤ times_among xs l → (i : ℕ) × (slice_get xs i ≡ Some l)
some_place [] l some = absurd (omega (arith, some, times-nil l))
some_place (x ∷ xs) l some = go (some_place xs l) (cases_eq x l)
  where
    go : (1 ≤ times_among xs l → (i : ℕ) × (slice_get xs i ≡ Some l)) → (x ≡ l) ⊎ (x ≢ l) → (i : ℕ) × (slice_get (x ∷ xs) i ≡ Some l)
    go rest_of (inl e) = (0, ap Some e)
    go rest_of (inr e) = let rest = rest_of (omega (arith, some, times-cons x xs l, same-no x l e)) in (suc rest.0, rest.1)

pub place_some : (xs : List ℕ) (i l : ℕ) → slice_get xs i ≡ Some l → 1 ≤ times_among xs l
place_some [] i l e = absurd cc
place_some (x ∷ xs) zero l e = omega (arith, times-cons x xs l, same-yes x l (same_Some x l e))
place_some (x ∷ xs) (suc i) l e = omega (arith, times-cons x xs l, place_some xs i l e)

-- two places
pub record TwoPlaces (xs : List ℕ) (l : ℕ) : Type 0 where
  pub one : ℕ
  pub other : ℕ
  pub apart : one ≢ other
  pub at_one : slice_get xs one ≡ Some l
  pub at_other : slice_get xs other ≡ Some l

pub two_places : (xs : List ℕ) (l : ℕ) → 2 ≤ times_among xs l → TwoPlaces xs l
two_places [] l two = absurd (omega (arith, two, times-nil l))
two_places (x ∷ xs) l two = go (two_places xs l) (cases_eq x l)
  where
    go : (2 ≤ times_among xs l → TwoPlaces xs l) → (x ≡ l) ⊎ (x ≢ l) → TwoPlaces (x ∷ xs) l
    go rest_of (inl e) =
        let rest = some_place xs l (omega (arith, two, times-cons x xs l, same-yes x l e)) in
        record { one = 0; other = suc rest.0; apart = λ same. omega (arith, same); at_one = ap Some e; at_other = rest.1 }
    go rest_of (inr e) =
        let rest : TwoPlaces xs l = rest_of (omega (arith, two, times-cons x xs l, same-no x l e)) in
        record {
          one = suc rest.one;
          other = suc rest.other;
          apart = λ same. rest.apart (omega (arith, same));
          at_one = rest.at_one;
          at_other = rest.at_other;
        }

pub places_two : (xs : List ℕ) (i j l : ℕ) → slice_get xs i ≡ Some l → slice_get xs j ≡ Some l → i ≢ j → 2 ≤ times_among xs l
places_two [] i j l a b apart = absurd cc
places_two (x ∷ xs) zero zero l a b apart = absurd (apart refl)
places_two (x ∷ xs) zero (suc j) l a b apart = omega (arith, times-cons x xs l, same-yes x l (same_Some x l a), place_some xs j l b)
places_two (x ∷ xs) (suc i) zero l a b apart = omega (arith, times-cons x xs l, same-yes x l (same_Some x l b), place_some xs i l a)
places_two (x ∷ xs) (suc i) (suc j) l a b apart = omega (arith, times-cons x xs l, places_two xs i j l a b (λ e. apart (ap suc e)))
