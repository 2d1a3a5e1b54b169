-- Facts about blocks that are added while the headers of an index file are read.
use Rattle.std.proofs.Common.{◌≡◌, ℕ, zero, suc, ◌+◌, ◌-◌, ◌<◌, ◌≤◌, List, [], ◌∷◌, ◌++◌, length, get_or, take, drop, min, Some, refl, sym}
use Rattle.std.proofs.Common.{ap, subst, ◌∙◌, inl, inr, arith, append_assoc}
use Rattle.std.specs.List.{All, slice_get, range_with_len}
use Rattle.std.proofs.lemmas.List.FromFn.{length-range_with_len}
use Rattle.std.proofs.lemmas.Bool.{cases_lt}
use Rattle.std.proofs.lemmas.List.{append-nil, drop_all, length-append, length-take, take_all, take_more, take-append-drop}
use Rattle.std.proofs.lemmas.Option.{same_Some, slice_get_within, slice_get-get_or, get_or_from_slice_get}
use Rattle.f11_home.specs.Home.{HomeFields}
use Rattle.f11_index.specs.IndexFile.{most_slots}
use Rattle.f11_index.specs.Sound.{IsPlaced}
use Rattle.f11_index.specs.Walk.{lbn_due, first_place, FitsAt, FitFrom, AddsPlaces}
use Rattle.f11_index.proofs.PlaceLemmas.{drop-range_with_len, take-range, take-append-back, slice_get-range, range-slice_get}
use Rattle.f11_index.proofs.PlaceLemmas.{slice_get-append_front, take-append_take, drop-append}
use Rattle.f11_map.specs.MapArea.{blocks_in}
use Rattle.f11_map.proofs.MapLemmas.{slice_get-append_back, blocks_in-append, blocks_in-drop}

module _ (home : HomeFields) where
  -- none, and some behind others
  pub Adds-none : (places : ℕ) (headers : List ℕ) → length headers ≤ most_slots home → AddsPlaces home [] places headers places headers
  Adds-none places headers few = record {
    places_are = omega arith;
    headers_are = sym (ap (take (most_slots home))
        (ap (λ (h : List ℕ). headers ++ h) (drop_all (first_place home - places) [] (omega arith)) ∙ append-nil headers)
        ∙ take_all (most_slots home) headers few);
  }

  pub Adds-append : (xs ys : List ℕ) {p q r : ℕ} {hs is js : List ℕ} → AddsPlaces home xs p hs q is → AddsPlaces home ys q is r js
      → AddsPlaces home (xs ++ ys) p hs r js
  Adds-append xs ys {p} {q} {r} {hs} {is} {js} one two =
      let most = most_slots home in
      let first = first_place home in
      let left : first - q ≡ first - p - length xs = omega (arith, one.places_are) in
      record {
        places_are = omega (arith, one.places_are, two.places_are, length-append xs ys);
        headers_are =
            two.headers_are
            ∙ ap (λ (h : List ℕ). take most (h ++ drop (first - q) ys)) one.headers_are
            ∙ take-append_take most (hs ++ drop (first - p) xs) (drop (first - q) ys)
            ∙ ap (take most) (append_assoc hs (drop (first - p) xs) (drop (first - q) ys))
            ∙ ap (λ (n : ℕ). take most (hs ++ (drop (first - p) xs ++ drop n ys))) left
            ∙ ap (λ (h : List ℕ). take most (hs ++ h)) (sym (drop-append (first - p) xs ys));
      }

  pub FitFrom-none : (blocks place : ℕ) → FitFrom home blocks place []
  FitFrom-none blocks place = record { each = λ i lbn at. cc }

  pub FitFrom-append : (blocks place : ℕ) (xs ys : List ℕ) (behind : ℕ) → behind ≡ place + length xs → FitFrom home blocks place xs
      → FitFrom home blocks behind ys → FitFrom home blocks place (xs ++ ys)
  FitFrom-append blocks place xs ys behind is front back = record {
    each = λ i lbn at. elim (cases_lt i (length xs)) [
      | inl inside ↦ front.each i lbn (within i lbn inside at)
      | inr past ↦
          let there : behind + (i - length xs) ≡ place + i = omega arith in
          subst (λ (k : ℕ). FitsAt home blocks k lbn) there
          (back.each (i - length xs) lbn (sym (slice_get-append_back xs ys i (length xs) refl past) ∙ at))
    ];
  }
    where
      within : (i lbn : ℕ) → i < length xs → slice_get (xs ++ ys) i ≡ Some lbn → slice_get xs i ≡ Some lbn
      within i lbn inside at =
          let here = slice_get-get_or xs i lbn inside in
          here ∙ sym (slice_get-append_front xs ys i (get_or xs i lbn) here) ∙ at

  -- the front of what fits, and what is behind it
  pub FitFrom-front : (blocks place : ℕ) (xs ys : List ℕ) → FitFrom home blocks place (xs ++ ys) → FitFrom home blocks place xs
  FitFrom-front blocks place xs ys fit = record { each = λ i lbn at. fit.each i lbn (slice_get-append_front xs ys i lbn at) }

  pub FitFrom-back : (blocks place : ℕ) (xs ys : List ℕ) (behind : ℕ) → behind ≡ place + length xs → FitFrom home blocks place (xs ++ ys)
      → FitFrom home blocks behind ys
  FitFrom-back blocks place xs ys behind is fit = record {
    each = λ i lbn at.
        let there : place + (length xs + i) ≡ behind + i = omega arith in
        let inside : length xs + i - length xs ≡ i = omega arith in
        subst (λ (k : ℕ). FitsAt home blocks k lbn) there
        (fit.each (length xs + i) lbn (slice_get-append_back xs ys (length xs + i) (length xs) refl (omega arith) ∙ ap (slice_get ys) inside
        ∙ at));
  }

  -- the blocks of an index file fit where the first ones are placed
  pub IsPlaced-fit : (blocks : ℕ) (known : List ℕ) → FitFrom home blocks 0 known → first_place home + 16 ≤ length known
      → IsPlaced home known
  IsPlaced-fit blocks known fit all = record {
    boot = there 0 (omega arith);
    home_block = there 1 (omega arith);
    bitmap_and_headers = λ i few. there (2 + i) (omega arith) ∙ ap Some (lbn_due-past i);
  }
    where
      lbn_due-past : (i : ℕ) → lbn_due home (2 + i) ≡ home.index_lbn + i
      lbn_due-past i = let two : 2 + i ≡ suc (suc i) = omega arith in ap (lbn_due home) two

      there : (i : ℕ) → i < first_place home + 16 → slice_get known i ≡ Some (lbn_due home i)
      there i few =
          let here = slice_get-get_or known i 0 (omega arith) in
          let start : 0 + i ≡ i = omega arith in
          here ∙ ap Some ((fit.each i (get_or known i 0) here).due (omega arith)) ∙ ap (λ (k : ℕ). Some (lbn_due home k)) start

  pub fit-IsPlaced : (blocks : ℕ) (known : List ℕ) → All (λ lbn. lbn < blocks) known → IsPlaced home known → FitFrom home blocks 0 known
  fit-IsPlaced blocks known within placed = record {
    each = λ i lbn at. record {
      within = subst (λ (l : ℕ). l < blocks) (get_or_from_slice_get known i lbn 0 at) (within i 0 (slice_get_within known i lbn at));
      due = λ few.
          let start : 0 + i ≡ i = omega arith in
          same_Some lbn (lbn_due home i) (sym at ∙ placed_at i (omega arith)) ∙ ap (lbn_due home) (sym start);
    };
  }
    where
      placed_at : (i : ℕ) → i < first_place home + 16 → slice_get known i ≡ Some (lbn_due home i)
      placed_at zero few = placed.boot
      placed_at (suc zero) few = placed.home_block
      placed_at (suc (suc i)) few =
          let two : suc (suc i) ≡ 2 + i = omega arith in ap (slice_get known) two ∙ placed.bitmap_and_headers i (omega arith)

  pub All-fit : (blocks : ℕ) (known : List ℕ) → FitFrom home blocks 0 known → All (λ lbn. lbn < blocks) known
  All-fit blocks known fit = λ i d inside. (fit.each i (get_or known i d) (slice_get-get_or known i d inside)).within

  -- a run of blocks, of which the headers were pushed
  pub Adds-run : (lbn count places : ℕ) (hs now : List ℕ) (skipped more : ℕ) → length hs ≤ most_slots home
      → skipped ≡ min (first_place home - places) count
      → more ≡ min (most_slots home - length hs) (count - skipped) → now ≡ hs ++ range_with_len (lbn + skipped) more
      → AddsPlaces home (range_with_len lbn count) places hs (places + count) now
  Adds-run lbn count places hs now skipped more few skipped_is more_is now_is = record {
    places_are = omega (arith, length-range_with_len lbn count);
    headers_are = now_is ∙ sym (
        take-append-back (most_slots home) hs (drop (first_place home - places) (range_with_len lbn count)) few
        ∙ ap (λ (xs : List ℕ). hs ++ take (most_slots home - length hs) xs)
        (drop-range_with_len lbn count (first_place home - places) ∙ ap (λ (k : ℕ). range_with_len (lbn + k) (count - k))
        (sym skipped_is))
        ∙ ap (λ (xs : List ℕ). hs ++ xs) (take-range (lbn + skipped) (count - skipped) (most_slots home - length hs)
        ∙ ap (range_with_len (lbn + skipped)) (sym more_is)));
  }

  pub Adds-few : (lbns : List ℕ) {p q : ℕ} {hs is : List ℕ} → AddsPlaces home lbns p hs q is → length is ≤ most_slots home
  Adds-few lbns {p} {hs = hs} adds =
      omega (arith, ap length adds.headers_are, length-take (most_slots home) (hs ++ drop (first_place home - p) lbns))

  -- a run of blocks fits where its end does, and each that is among the first is where it should be
  pub FitFrom-run : (end place lbn count : ℕ) → lbn + count ≤ end
      → ((i : ℕ) → i < count → place + i < first_place home + 16 → lbn + i ≡ lbn_due home (place + i))
      → FitFrom home end place (range_with_len lbn count)
  FitFrom-run end place lbn count within due = record {
    each = λ i l at.
        let (below, is) = slice_get-range lbn count i l at in
        record { within = omega (arith, is, below, within); due = λ few. is ∙ due i below few };
  }

  pub run-due : (end place lbn count : ℕ) → FitFrom home end place (range_with_len lbn count)
      → (i : ℕ) → i < count → place + i < first_place home + 16 → lbn + i ≡ lbn_due home (place + i)
  run-due end place lbn count fit i below few = (fit.each i (lbn + i) (range-slice_get lbn count i below)).due few

  pub run-within : (end place lbn count : ℕ) → 0 < count → FitFrom home end place (range_with_len lbn count) → lbn + count ≤ end
  run-within end place lbn count some fit =
      let last : count - 1 < count = omega arith in
      omega (arith, (fit.each (count - 1) (lbn + (count - 1)) (range-slice_get lbn count (count - 1) last)).within)

-- the blocks of one pointer more
pub blocks_in-more : (runs : List (ℕ × ℕ)) (i : ℕ) (run : ℕ × ℕ) → slice_get runs i ≡ Some run
    → blocks_in (take (i + 1) runs) ≡ blocks_in (take i runs) ++ range_with_len run.0 run.1
blocks_in-more runs i run at =
    let within = slice_get_within runs i run at in
    ap blocks_in (take_more runs i run within ∙ ap (λ (r : ℕ × ℕ). take i runs ++ r ∷ []) (get_or_from_slice_get runs i run run at))
    ∙ blocks_in-append (take i runs) (run ∷ [])
    ∙ ap (λ (xs : List ℕ). blocks_in (take i runs) ++ xs) (append-nil (range_with_len run.0 run.1))

-- where all blocks fit, those of a pointer do
pub FitFrom-pointer : (home : HomeFields) (end place now : ℕ) (runs : List (ℕ × ℕ)) (i : ℕ) (run : ℕ × ℕ) → slice_get runs i ≡ Some run
    → now ≡ place + length (blocks_in (take i runs))
    → FitFrom home end place (blocks_in runs) → FitFrom home end now (range_with_len run.0 run.1)
FitFrom-pointer home end place now runs i run at is fit =
    let split : blocks_in runs ≡ blocks_in (take i runs) ++ (range_with_len run.0 run.1 ++ blocks_in (drop (i + 1) runs)) =
    ap blocks_in (sym (take-append-drop i runs)) ∙ blocks_in-append (take i runs) (drop i runs)
    ∙ ap (λ (xs : List ℕ). blocks_in (take i runs) ++ xs) (blocks_in-drop runs i run at) in
    FitFrom-front home end now (range_with_len run.0 run.1) (blocks_in (drop (i + 1) runs))
    (FitFrom-back home end place (blocks_in (take i runs)) (range_with_len run.0 run.1 ++ blocks_in (drop (i + 1) runs)) now is
    (subst (FitFrom home end place) split fit))
