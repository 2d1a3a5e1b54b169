-- No more segments are visited than are in use.
use Rattle.std.proofs.Common.{◌≡◌, ◌≢◌, inl, inr, ℕ, zero, suc, ◌+◌, ◌-◌, ◌<◌, ◌≤◌, ◌==◌, true, false, List, length, get_or, map, Some}
use Rattle.std.proofs.Common.{refl, sym, ◌∙◌, ap, arith}
use Rattle.std.specs.List.{list_any, remove}
use Rattle.std.proofs.lemmas.Bool.{cases_lt, cases_Bool, eqb-true, eq-eqb}
use Rattle.std.proofs.lemmas.List.{length-map, get_or-map, get_or_default}
use Rattle.std.proofs.lemmas.List.Edits.{length-remove, get_or-remove_below, get_or-remove_above}
use Rattle.std.proofs.lemmas.List.Folds.{Any-from_list_any, list_any_at}
use Rattle.std.proofs.lemmas.Option.{slice_get-get_or}
use Rattle.f11_dev.specs.Image.{Image}
use Rattle.rt11_volume.specs.Directory.{visited}
use Rattle.rt11_volume.specs.Segment.{segment_words, highest_segment}
use Rattle.rt11_volume.proofs.Verifying.Sound.{IsSoundImage}
use Rattle.rt11_volume.proofs.Walking.Walk.{visited-distinct, visited-some}

-- Some numbers, each below n, no two of them the same.
record AreDistinct (n : ℕ) (xs : List ℕ) : Type 0 where
  pub below : (j : ℕ) → j < length xs → get_or xs j 0 < n
  pub apart : (i j : ℕ) → i < j → j < length xs → get_or xs i 0 ≢ get_or xs j 0

-- where a removed element stood
kept-at : (xs : List ℕ) (p j : ℕ) → p < length xs
    → (k : ℕ) × (k ≢ p) × (get_or (remove xs p) j 0 ≡ get_or xs k 0) × (j < p → k ≡ j) × (p ≤ j → k ≡ j + 1)
kept-at xs p j inside = elim (cases_lt j p) [
  | inl before ↦ (
    j,
    (λ same. omega (arith, same, before)),
    get_or-remove_below xs p 0 j before inside,
    (λ b. refl),
    (λ b. omega (arith, before, b)),
  )
  | inr behind ↦ (
    j + 1,
    (λ same. omega (arith, same, behind)),
    get_or-remove_above xs p 0 j behind inside,
    (λ b. omega (arith, behind, b)),
    (λ b. refl),
  )
]

-- there are n at most
distinct-few : (n : ℕ) (xs : List ℕ) → AreDistinct n xs → length xs ≤ n
distinct-few zero xs are = elim (cases_lt 0 (length xs)) [ inl some ↦ absurd (omega (arith, are.below 0 some)) | inr none ↦ none ]
distinct-few (suc n) xs are = elim (cases_Bool (list_any (λ x. x == n) xs)) [
  | inl has ↦
      let a = Any-from_list_any (λ x. x == n) xs has in
      removed (λ ys. distinct-few n ys) a.0 a.2 (get-is a.0 a.1 a.2 a.3 ∙ eqb-true a.1 n a.4)
  | inr lacks ↦ omega (
    arith,
    distinct-few n xs (record {
      below = λ j within.
          let low = are.below j within in
          let other : get_or xs j 0 ≢ n = λ same. not_there j within same lacks in
          omega (arith, low, other);
      apart = are.apart;
    }),
  )
]
  where
    get-is : (p : ℕ) (d : ℕ) → p < length xs → get_or xs p d ≡ d → get_or xs p 0 ≡ d
    get-is p d within is = get_or_default xs p 0 d within ∙ is

    not_there : (j : ℕ) → j < length xs → get_or xs j 0 ≡ n → list_any (λ x. x == n) xs ≡ false → ⊥
    not_there j within same none =
        let clash : true ≡ false = sym (list_any_at (λ x. x == n) xs j 0 within (eq-eqb (get_or xs j 0) n same)) ∙ none in
        cc

    place-in : (p j k : ℕ) → length (remove xs p) + 1 ≡ length xs → j < length (remove xs p) → (j < p → k ≡ j) → (p ≤ j → k ≡ j + 1)
        → k < length xs
    place-in p j k size within below above =
        elim (cases_lt j p) [ inl b ↦ omega (arith, size, within, below b) | inr a ↦ omega (arith, size, within, above a) ]

    in_order : (p i j k l : ℕ) → i < j → (i < p → k ≡ i) → (p ≤ i → k ≡ i + 1) → (j < p → l ≡ j) → (p ≤ j → l ≡ j + 1) → k < l
    in_order p i j k l before ib ia jb ja = elim (cases_lt i p) [
      | inl b ↦ elim (cases_lt j p) [ inl c ↦ omega (arith, before, ib b, jb c) | inr c ↦ omega (arith, before, ib b, ja c) ]
      | inr a ↦ elim (cases_lt j p) [ inl c ↦ absurd (omega (arith, before, a, c)) | inr c ↦ omega (arith, before, ia a, ja c) ]
    ]

    twice : (p k : ℕ) → p < length xs → k < length xs → k ≢ p → get_or xs k 0 ≡ get_or xs p 0 → ⊥
    twice p k one two differ same = elim (cases_lt k p) [
      | inl before ↦ are.apart k p before one same
      | inr behind ↦ are.apart p k (omega (arith, behind, differ)) two (sym same)
    ]

    removed : ((ys : List ℕ) → AreDistinct n ys → length ys ≤ n) → (p : ℕ) → p < length xs → get_or xs p 0 ≡ n → length xs ≤ suc n
    removed few p inside is =
        let size = length-remove xs p inside in
        let fewer = few (remove xs p) (record {
          below = λ j within.
              let k = kept-at xs p j inside in
              let in_it : k.0 < length xs = place-in p j k.0 size within k.3 k.4 in
              let low = are.below k.0 in_it in
              let other : get_or xs k.0 0 ≢ n = λ same. twice p k.0 inside in_it k.1 (same ∙ sym is) in
              omega (arith, low, other, k.2);
          apart = λ i j before within same.
              let one = kept-at xs p i inside in
              let two = kept-at xs p j inside in
              let in_it : two.0 < length xs = place-in p j two.0 size within two.3 two.4 in
              are.apart one.0 two.0 (in_order p i j one.0 two.0 before one.3 one.4 two.3 two.4) in_it (sym one.2 ∙ same ∙ two.2);
        }) in
        omega (arith, size, fewer)

-- as many segments as are in use, at most
pub visited-highest : (image : Image) → IsSoundImage image → length (visited image) ≤ highest_segment (segment_words image 1)
visited-highest image sound =
    let V : List ℕ = visited image in
    let high : ℕ = highest_segment (segment_words image 1) in
    let less = distinct-few high (map (λ k. k - 1) V) (record {
      below = λ j within.
          let inside : j < length V = omega (arith, within, size image) in
          let k : ℕ = get_or V j 0 in
          let at = slice_get-get_or V j 0 inside in
          omega (arith, value image j inside, (sound.each j k at).low, visited-some image j k sound at);
      apart = λ i j before within same.
          let inside : j < length V = omega (arith, within, size image) in
          let early : i < length V = omega (arith, before, inside) in
          let one = slice_get-get_or V i 0 early in
          let two = slice_get-get_or V j 0 inside in
          let equal : get_or V i 0 ≡ get_or V j 0 =
          omega (
            arith,
            same,
            value image i early,
            value image j inside,
            visited-some image i (get_or V i 0) sound one,
            visited-some image j (get_or V j 0) sound two,
          ) in
          visited-distinct image i j (get_or V j 0) sound before (one ∙ ap Some equal) two;
    }) in
    omega (arith, less, size image)
  where
    size : (image : Image) → length (map (λ k. k - 1) (visited image)) ≡ length (visited image)
    size image = simp length-map

    value : (image : Image) (j : ℕ) → j < length (visited image)
        → get_or (map (λ k. k - 1) (visited image)) j 0 ≡ get_or (visited image) j 0 - 1
    value image j inside = get_or-map (λ k. k - 1) (visited image) j 0 0 inside
