-- How often headers name a block, and the cells.
use Rattle.std.proofs.Common.{◌≡◌, ◌≢◌, ◌≤◌, ◌<◌, ◌+◌, ◌-◌, ◌⊎◌, inl, inr, ℕ, sym, subst, arith, Some}
use Rattle.std.specs.List.{slice_get}
use Rattle.std.proofs.lemmas.Bool.{cases_order, cases_Bool, both_ways}
use Rattle.f11_map.specs.HeaderBlock.{blocks_named}
use Rattle.f11_index.specs.Table.{Table, IsLive}
use Rattle.f11_vfy.specs.Chain.{IsFit}
use Rattle.f11_index.specs.Headers.{is_live}
use Rattle.f11_vfy.specs.Surveying.Count.{times_among, times_by, times_named}
use Rattle.f11_volume.specs.Volume.{IsCell, IsNamed, IsNamedTwice}
use Rattle.f11_index.proofs.NextLemmas.{live-tested}
use Rattle.f11_vfy.proofs.Surveying.Sums.{term, two_terms, some_term, pair_of_terms, Pair}
use Rattle.f11_vfy.proofs.Surveying.Headers.{times-live, times-other}
use Rattle.f11_vfy.proofs.Surveying.Times.{some_place, place_some, TwoPlaces, two_places, places_two}

-- a header that names a block is live
live-times : (t : Table) (n l k : ℕ) → k + 1 ≤ times_by t n l → IsLive t n × (k + 1 ≤ times_among (blocks_named (t.header n)) l)
live-times t n l k some = elim (cases_Bool (is_live t n)) [
  | inl is ↦ let live = (live-tested t n).0 is in (live, omega (arith, some, times-live t n l live))
  | inr fails ↦ absurd (omega (arith, some, times-other t n l (λ live. both_ways (is_live t n) fails ((live-tested t n).1 live))))
]

-- a cell is counted
cell-times : (t : Table) (n place l : ℕ) → IsCell t n place l → 1 ≤ times_by t n l
cell-times t n place l cell = omega (arith, times-live t n l cell.live, place_some (blocks_named (t.header n)) place l cell.names)

module _ (t : Table) (fit : IsFit t) where
  at : ℕ → ℕ → ℕ
  at l k = times_by t (k + 1) l

  -- with its header's number
  counted : (n place l : ℕ) → IsCell t n place l → (1 ≤ at l (n - 1)) × (n - 1 < t.slots) × (1 ≤ n)
  unfolding at
  counted n place l cell =
      let low : 1 ≤ n = fit.low n cell.live.in_use in
      let high : n ≤ t.slots = fit.high n cell.live.in_use in
      (subst (λ m. 1 ≤ times_by t m l) (omega arith) (cell-times t n place l cell), omega arith, low)

  pub named-some : (l : ℕ) → 1 ≤ times_named t t.slots l → IsNamed t l
  unfolding times_named at
  named-some l some =
      let one = some_term (at l) t.slots some in
      let live = live-times t (one.0 + 1) l 0 one.2 in
      let place = some_place (blocks_named (t.header (one.0 + 1))) l live.1 in
      record { header = one.0 + 1; place = place.0; cell = record { live = live.0; names = place.1 } }

  pub some-named : (l : ℕ) → IsNamed t l → 1 ≤ times_named t t.slots l
  unfolding times_named at
  some-named l named =
      let here = counted named.header named.place l named.cell in
      omega (arith, term (at l) t.slots (named.header - 1) here.1, here.0)

  pub named-twice : (l : ℕ) → 2 ≤ times_named t t.slots l → IsNamedTwice t l
  unfolding times_named at
  named-twice l two = go (pair_of_terms (at l) t.slots two)
    where
      go : ((m : ℕ) × (m < t.slots) × (2 ≤ at l m)) ⊎ Pair (at l) t.slots → IsNamedTwice t l
      go (inl one) =
          let live = live-times t (one.0 + 1) l 1 one.2 in
          let places : TwoPlaces (blocks_named (t.header (one.0 + 1))) l = two_places (blocks_named (t.header (one.0 + 1))) l live.1 in
          record {
            one = one.0 + 1;
            place = places.one;
            other = one.0 + 1;
            other_place = places.other;
            cell = record { live = live.0; names = places.at_one };
            other_cell = record { live = live.0; names = places.at_other };
            apart = inr places.apart;
          }
      go (inr pair) =
          let low = live-times t (pair.low + 1) l 0 pair.at_low in
          let high = live-times t (pair.high + 1) l 0 pair.at_high in
          let one = some_place (blocks_named (t.header (pair.low + 1))) l low.1 in
          let other = some_place (blocks_named (t.header (pair.high + 1))) l high.1 in
          record {
            one = pair.low + 1;
            place = one.0;
            other = pair.high + 1;
            other_place = other.0;
            cell = record { live = low.0; names = one.1 };
            other_cell = record { live = high.0; names = other.1 };
            apart = inl (λ same. omega (arith, same, pair.apart));
          }

  pub twice-named : (l : ℕ) → IsNamedTwice t l → 2 ≤ times_named t t.slots l
  unfolding times_named at
  twice-named l named = go (cases_order named.one named.other)
    where
      one : (1 ≤ at l (named.one - 1)) × (named.one - 1 < t.slots) × (1 ≤ named.one)
      one = counted named.one named.place l named.cell

      other : (1 ≤ at l (named.other - 1)) × (named.other - 1 < t.slots) × (1 ≤ named.other)
      other = counted named.other named.other_place l named.other_cell

      places : named.one ≡ named.other → (named.one ≢ named.other) ⊎ (named.place ≢ named.other_place) → named.place ≢ named.other_place
      places same (inl apart) = absurd (apart same)
      places same (inr apart) = apart

      go : (named.one ≡ named.other) ⊎ ((named.one < named.other) ⊎ (named.other < named.one)) → 2 ≤ times_named t t.slots l
      go (inl same) =
          let there : slice_get (blocks_named (t.header named.one)) named.other_place ≡ Some l =
          subst (λ n. slice_get (blocks_named (t.header n)) named.other_place ≡ Some l) (sym same) named.other_cell.names in
          let two = places_two (blocks_named (t.header named.one)) named.place named.other_place l named.cell.names there
          (places same named.apart) in
          let by : 2 ≤ times_by t named.one l = omega (arith, two, times-live t named.one l named.cell.live) in
          let here : 2 ≤ at l (named.one - 1) = subst (λ m. 2 ≤ times_by t m l) (omega (arith, one.2)) by in
          omega (arith, here, term (at l) t.slots (named.one - 1) one.1)
      go (inr (inl less)) =
          omega (
            arith,
            two_terms (at l) t.slots (named.one - 1) (named.other - 1) (omega (arith, one.2, other.2, less)) other.1,
            one.0,
            other.0,
          )
      go (inr (inr more)) =
          omega (
            arith,
            two_terms (at l) t.slots (named.other - 1) (named.one - 1) (omega (arith, one.2, other.2, more)) one.1,
            one.0,
            other.0,
          )
