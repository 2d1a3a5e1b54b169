-- The segments that were visited, and those of the image.
use Rattle.std.proofs.Common.{◌≡◌, ◌↔◌, ℕ, zero, suc, ◌-◌, ◌<◌, Bool, true, false, IsTrue, if◌then◌else◌, List, [], ◌∷◌, ◌++◌, length, map}
use Rattle.std.proofs.Common.{take, Some, refl, sym, ◌∙◌, ap, subst, arith}
use Rattle.std.specs.List.{Any, list_any, slice_get}
use Rattle.std.proofs.Math.Seq.{take-length}
use Rattle.std.proofs.lemmas.List.{length-map, length-take, get_or-map, get_or-take, take-map}
use Rattle.std.proofs.lemmas.List.Folds.{Any-from_list_any, list_any-from_Any}
use Rattle.std.proofs.lemmas.Option.{slice_get_within, get_or_from_slice_get, slice_get-get_or}
use Rattle.f11_dev.specs.Image.{Image}
use Rattle.rt11_volume.specs.Directory.{walked, goes_on, next_of, visited, data_start, segment_of, end_before}
use Rattle.rt11_volume.specs.InHand.{visit_of, visits, visit_at, no_visit}
use Rattle.rt11_volume.specs.Segment.{areas_end}
use Rattle.rt11_volume.specs.Verifying.Scans.{number_at}
use Rattle.rt11_volume.specs.declared.directory.Visited.{Visited}
use Rattle.rt11_volume.proofs.Walking.Visit.{list_any-map}

-- a walk that began at segment 1 begins there still
begins : (most : ℕ) (image : Image) (seen : List ℕ) (k : ℕ) → (rest : List ℕ) × (walked most image (1 ∷ seen) k ≡ 1 ∷ rest)
unfolding walked
begins zero image seen k = (seen, refl)
begins (suc most) image seen k = by_test (goes_on image ((1 ∷ seen) ++ k ∷ []) k) (begins most image (seen ++ k ∷ []) (next_of image k))
  where
    by_test : (b : Bool) → (rest : List ℕ) × (walked most image (1 ∷ (seen ++ k ∷ [])) (next_of image k) ≡ 1 ∷ rest)
        → (rest : List ℕ) × ((if b then walked most image ((1 ∷ seen) ++ k ∷ []) (next_of image k) else (1 ∷ seen) ++ k ∷ []) ≡ 1 ∷ rest)
    by_test true more = more
    by_test false more = (seen ++ k ∷ [], refl)

first_step : (most : ℕ) (image : Image) → (rest : List ℕ) × (walked (suc most) image [] 1 ≡ 1 ∷ rest)
unfolding walked
first_step most image = by_test (goes_on image (1 ∷ []) 1) (begins most image [] (next_of image 1))
  where
    by_test : (b : Bool) → (rest : List ℕ) × (walked most image (1 ∷ []) (next_of image 1) ≡ 1 ∷ rest)
        → (rest : List ℕ) × ((if b then walked most image (1 ∷ []) (next_of image 1) else 1 ∷ []) ≡ 1 ∷ rest)
    by_test true more = more
    by_test false more = ([], refl)

-- segment 1 is visited first
pub visited-first : (image : Image) → (rest : List ℕ) × (visited image ≡ 1 ∷ rest)
visited-first image = first_step 30 image

visits-first : (image : Image) → visit_at (visits image) 0 ≡ visit_of image 1
visits-first image = ap (λ (ks : List ℕ). visit_at (map (visit_of image) ks) 0) (visited-first image).1

length-visits : (image : Image) → length (visits image) ≡ length (visited image)
length-visits image = simp length-map

pub as-many : (image : Image) (vs : List Visited) → vs ≡ visits image → length vs ≡ length (visited image)
as-many image vs is = ap length is ∙ length-visits image

-- What is in hand for a place is the segment visited there, and what is in hand first is segment 1.
pub record IsAt (image : Image) (vs : List Visited) (j : ℕ) : Type 0 where
  pub inside : j < length (visited image)
  pub visited_at : slice_get (visited image) j ≡ Some (number_at image j)
  pub here : visit_at vs j ≡ visit_of image (number_at image j)
  pub first : visit_at vs 0 ≡ visit_of image 1

pub at-place : (image : Image) (vs : List Visited) (j : ℕ) → vs ≡ visits image → j < length vs → IsAt image vs j
at-place image vs j is within =
    let inside : j < length (visited image) = omega (arith, within, as-many image vs is) in
    record {
      inside = inside;
      visited_at = slice_get-get_or (visited image) j 0 inside;
      here = ap (λ (ws : List Visited). visit_at ws j) is ∙ get_or-map (visit_of image) (visited image) j 0 no_visit inside;
      first = ap (λ (ws : List Visited). visit_at ws 0) is ∙ visits-first image;
    }

-- where the areas before those of the first segment end, and those before another
pub end-first : (image : Image) (j : ℕ) → j ≡ 0 → data_start image ≡ end_before image j
unfolding end_before
end-first image j first = ap (end_before image) (sym first)

pub end-next : (image : Image) (j : ℕ) → 0 < j → areas_end (segment_of image (number_at image (j - 1))) ≡ end_before image j
unfolding end_before
end-next image j later = let place : suc (j - 1) ≡ j = omega arith in ap (end_before image) place

-- One of the first so many segments visited has a number that passes.
pub record AnyVisited (image : Image) (n : ℕ) (test : ℕ → Bool) : Type 0 where
  pub place : ℕ
  pub number : ℕ
  pub before : place < n
  pub visited_at : slice_get (visited image) place ≡ Some number
  pub passes : test number ≡ true

pub any-visited : (image : Image) (vs : List Visited) (n : ℕ) (test : ℕ → Bool) → vs ≡ visits image
    → IsTrue (list_any (λ (v : Visited). test v.number) (take n vs)) ↔ AnyVisited image n test
any-visited image vs n test is = (
  λ yes. to (Any-from_list_any test (take n (visited image)) (sym same ∙ yes)),
  λ any. same ∙ list_any-from_Any test (take n (visited image)) (from any),
)
  where
    same : list_any (λ (v : Visited). test v.number) (take n vs) ≡ list_any test (take n (visited image))
    same = ap (λ (ws : List Visited). list_any (λ (v : Visited). test v.number) (take n ws)) is ∙ ap
        (list_any (λ (v : Visited). test v.number)) (take-map (visit_of image) n (visited image))
        ∙ list_any-map (visit_of image) (λ (v : Visited). test v.number) (take n (visited image))

    to : Any (λ k. test k ≡ true) (take n (visited image)) → AnyVisited image n test
    to a =
        let size = length-take n (visited image) in
        let before : a.0 < n = omega (arith, a.2, size) in
        record {
          place = a.0;
          number = a.1;
          before = before;
          visited_at = slice_get-get_or (visited image) a.0 a.1 (omega (arith, a.2, size)) ∙ ap Some
              (sym (get_or-take n (visited image) a.0 a.1 before) ∙ a.3);
          passes = a.4;
        }

    from : AnyVisited image n test → Any (λ k. test k ≡ true) (take n (visited image))
    from any = (
      any.place,
      any.number,
      omega (arith, any.before, slice_get_within (visited image) any.place any.number any.visited_at, length-take n (visited image)),
      get_or-take n (visited image) any.place any.number any.before ∙ get_or_from_slice_get
          (visited image) any.place any.number any.number any.visited_at,
      any.passes,
    )

pub any-of-all : (image : Image) (vs : List Visited) (test : ℕ → Bool) → vs ≡ visits image
    → IsTrue (list_any (λ (v : Visited). test v.number) vs) ↔ AnyVisited image (length vs) test
any-of-all image vs test is =
    subst (λ (ws : List Visited). IsTrue (list_any (λ (v : Visited). test v.number) ws) ↔ AnyVisited image (length vs) test)
    (take-length vs) (any-visited image vs (length vs) test is)
