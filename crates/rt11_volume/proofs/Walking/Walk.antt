-- The walk over an accepted volume, a segment at a time.
use Rattle.std.proofs.Common.{◌≡◌, ◌≢◌, ℕ, zero, suc, ◌+◌, ◌-◌, ◌*◌, ◌<◌, ◌≤◌, ◌==◌, ◌&&◌, Bool, true, false, not, nat_le, if◌then◌else◌}
use Rattle.std.proofs.Common.{List, [], ◌∷◌, ◌++◌, length, get_or, take, Some, inl, inr, refl, sym, ◌∙◌, ap, subst, append_assoc}
use Rattle.std.proofs.Common.{append-nil, arith}
use Rattle.std.specs.List.{list_any, slice_get}
use Rattle.std.proofs.Math.Seq.{get_or-append_seam}
use Rattle.std.proofs.lemmas.Bool.{cases_lt, ne_eqb, le-leb, and_from, not_from_false}
use Rattle.std.proofs.lemmas.List.{take_more, take_all, length-append, get_or_append_left}
use Rattle.std.proofs.lemmas.List.Folds.{list_any_none}
use Rattle.std.proofs.lemmas.Option.{slice_get_within, slice_get-get_or, get_or_from_slice_get}
use Rattle.f11_dev.specs.Image.{Image}
use Rattle.rt11_volume.specs.Directory.{is_extra_wrong, goes_on, next_of, walked, visited, is_link_on, count_of}
use Rattle.rt11_volume.proofs.Verifying.Sound.{IsSoundImage, IsSoundAt}
use Rattle.rt11_volume.proofs.Walking.Visit.{walk_on, walked-step, walk_on-is}

-- Segment k is visited at this place, and the walk is at it.
pub record IsOn (image : Image) (place k : ℕ) : Type 0 where
  pub before : List ℕ
  pub size : length before ≡ place
  pub walk : visited image ≡ walk_on (30 - place) image (before ++ k ∷ []) k

-- The walk goes to segment n next, at this place, or is at its end where n is 0.
pub record IsNext (image : Image) (place n : ℕ) : Type 0 where
  pub ends : n ≡ 0 → length (visited image) ≤ place
  pub goes : n ≢ 0 → place < 31 → IsOn image place n

-- what was seen stands at the front
front : (most : ℕ) (image : Image) (seen : List ℕ) (k : ℕ) → (rest : List ℕ) × (walked most image seen k ≡ seen ++ rest)
unfolding walked
front zero image seen k = ([], sym (append-nil seen))
front (suc most) image seen k = by_test (goes_on image (seen ++ k ∷ []) k) (front most image (seen ++ k ∷ []) (next_of image k))
  where
    by_test : (b : Bool) → (rest : List ℕ) × (walked most image (seen ++ k ∷ []) (next_of image k) ≡ (seen ++ k ∷ []) ++ rest)
        → (rest : List ℕ) × ((if b then walked most image (seen ++ k ∷ []) (next_of image k) else seen ++ k ∷ []) ≡ seen ++ rest)
    by_test true more = (k ∷ more.0, more.1 ∙ append_assoc seen (k ∷ []) more.0)
    by_test false more = (k ∷ [], refl)

front_on : (most : ℕ) (image : Image) (seen : List ℕ) (k : ℕ) → (rest : List ℕ) × (walk_on most image seen k ≡ seen ++ rest)
unfolding walk_on
front_on most image seen k = by_test (goes_on image seen k) (front most image seen (next_of image k))
  where
    by_test : (b : Bool) → (rest : List ℕ) × (walked most image seen (next_of image k) ≡ seen ++ rest)
        → (rest : List ℕ) × ((if b then walked most image seen (next_of image k) else seen) ≡ seen ++ rest)
    by_test true more = more
    by_test false more = ([], sym (append-nil seen))

-- there are no more than so many
few : (most : ℕ) (image : Image) (seen : List ℕ) (k : ℕ) → length (walked most image seen k) ≤ length seen + most
unfolding walked
few zero image seen k = omega arith
few (suc most) image seen k = by_test (goes_on image (seen ++ k ∷ []) k) (few most image (seen ++ k ∷ []) (next_of image k))
  where
    by_test : (b : Bool) → length (walked most image (seen ++ k ∷ []) (next_of image k)) ≤ length (seen ++ k ∷ []) + most
        → length (if b then walked most image (seen ++ k ∷ []) (next_of image k) else seen ++ k ∷ []) ≤ length seen + suc most
    by_test true more = omega (arith, more, length-append seen (k ∷ []))
    by_test false more = omega (arith, length-append seen (k ∷ []))

pub visited-few : (image : Image) → length (visited image) ≤ 31
visited-few image = few 31 image [] 1

-- the walk begins at segment 1
pub IsNext-first : (image : Image) → IsNext image 0 1
IsNext-first image =
    record {
      ends = λ none. absurd (omega (arith, none));
      goes = λ some within.
          record { before = []; size = refl; walk = walked-step 30 image [] 1 };
    }

-- the segment that the walk is at is visited
pub visited-on : (image : Image) (place k : ℕ) → IsOn image place k → slice_get (visited image) place ≡ Some k
visited-on image place k on =
    let rest = front_on (30 - place) image (on.before ++ k ∷ []) k in
    let all : visited image ≡ on.before ++ (k ∷ rest.0) = on.walk ∙ rest.1 ∙ append_assoc on.before (k ∷ []) rest.0 in
    let long : place < length (visited image) =
    omega (arith, on.size, ap (λ (ks : List ℕ). length ks) all, length-append on.before (k ∷ rest.0)) in
    let at : get_or (visited image) place 0 ≡ k =
    ap (λ (ks : List ℕ). get_or ks place 0) all ∙ ap (λ p. get_or (on.before ++ (k ∷ rest.0)) p 0) (sym on.size)
    ∙ get_or-append_seam on.before k rest.0 0 in
    slice_get-get_or (visited image) place 0 long ∙ ap Some at

-- those before it
seen-at : (image : Image) (place k : ℕ) (on : IsOn image place k) (i d : ℕ) → i < place + 1
    → get_or (on.before ++ k ∷ []) i d ≡ get_or (visited image) i d
seen-at image place k on i d within =
    let rest = front_on (30 - place) image (on.before ++ k ∷ []) k in
    sym (ap (λ (ks : List ℕ). get_or ks i d) (on.walk ∙ rest.1)
    ∙ get_or_append_left (on.before ++ k ∷ []) rest.0 d i (omega (arith, on.size, length-append on.before (k ∷ []))))

-- the link of a sound segment leads on just where it isn't 0
link_on : (image : Image) (place k : ℕ) (on : IsOn image place k) → IsSoundAt image place k → next_of image k ≢ 0
    → goes_on image (on.before ++ k ∷ []) k ≡ true
link_on image place k on sound some =
    let seen : List ℕ = on.before ++ k ∷ [] in
    let next : ℕ = next_of image k in
    let size : length seen ≡ place + 1 = length-append on.before (k ∷ []) ∙ omega (arith, on.size) in
    let long : place < length (visited image) = slice_get_within (visited image) place k (visited-on image place k on) in
    let none : list_any (λ j. j == next) seen ≡ false = list_any_none (λ j. j == next) seen (λ i d within.
    let early : i ≤ place = omega (arith, within, size) in
    ne_eqb _ _ (λ same. sound.link_on i early
    (slice_get-get_or (visited image) i d (omega (arith, early, long))
    ∙ ap Some (sym (seen-at image place k on i d (omega (arith, early))) ∙ same)))) in
    and_from (not (is_extra_wrong image k)) (is_link_on (count_of image) seen next) (not_from_false _ sound.right)
    (and_from (not (next == 0)) (nat_le next (count_of image) && not (list_any (λ j. j == next) seen))
    (not_from_false _ (ne_eqb next 0 some))
    (and_from (nat_le next (count_of image)) (not (list_any (λ j. j == next) seen)) (le-leb _ _ sound.link_in) (not_from_false _ none)))

pub link_ends : (image : Image) (seen : List ℕ) (k : ℕ) → next_of image k ≡ 0 → goes_on image seen k ≡ false
link_ends image seen k none =
    ap (λ n. not (is_extra_wrong image k) && is_link_on (count_of image) seen n) none ∙ and_false (not (is_extra_wrong image k))
  where
    and_false : (b : Bool) → (b && false) ≡ false
    and_false true = refl
    and_false false = refl

-- one step on an image without faults
pub IsNext-step : (image : Image) (place k : ℕ) → IsSoundImage image → place < 31 → IsOn image place k
    → IsNext image (place + 1) (next_of image k)
IsNext-step image place k sound within on =
    let seen : List ℕ = on.before ++ k ∷ [] in
    let size : length seen ≡ place + 1 = length-append on.before (k ∷ []) ∙ omega (arith, on.size) in
    record {
      ends = λ none. omega (
        arith,
        size,
        ap (λ (ks : List ℕ). length ks) (on.walk ∙ walk_on-is (30 - place) image seen k (link_ends image seen k none)),
      );
      goes = λ some below. record {
        before = seen;
        size = size;
        walk =
            on.walk ∙ walk_on-is (30 - place) image seen k
            (link_on image place k on (sound.each place k (visited-on image place k on)) some)
            ∙ ap (λ n. walked n image seen (next_of image k)) (let steps : 30 - place ≡ suc (30 - (place + 1)) = omega (arith, below) in
            steps)
            ∙ walked-step (30 - (place + 1)) image seen (next_of image k);
      };
    }

-- a segment that is visited is on the device
pub visited-within : (image : Image) (place k : ℕ) → IsSoundImage image → slice_get (visited image) place ≡ Some k
    → 4 + 2 * k + 1 < length image
visited-within image place k sound at = omega (arith, (sound.each place k at).low, sound.highest, sound.sized.within)

-- the walk comes to each segment that is visited
pub on-visited : (image : Image) (place k : ℕ) → IsSoundImage image → slice_get (visited image) place ≡ Some k → IsOn image place k
on-visited image zero k sound at =
    let first = (IsNext-first image).goes (λ none. omega (arith, none)) (omega arith) in
    let same : Some k ≡ Some 1 = sym at ∙ visited-on image 0 1 first in
    let is : 1 ≡ k = cc in
    subst (IsOn image 0) is first
on-visited image (suc place) k sound at =
    let long : suc place < length (visited image) = slice_get_within (visited image) (suc place) k at in
    let j : ℕ = get_or (visited image) place 0 in
    let here : IsOn image place j = on-visited image place j sound (slice_get-get_or (visited image) place 0 (omega (arith, long))) in
    let next = IsNext-step image place j sound (omega (arith, long, visited-few image)) here in
    let some : next_of image j ≢ 0 = λ none. omega (arith, next.ends none, long) in
    let there : IsOn image (place + 1) (next_of image j) = next.goes some (omega (arith, long, visited-few image)) in
    let place_is : place + 1 ≡ suc place = omega arith in
    let same : Some k ≡ Some (next_of image j) = sym at ∙ ap (slice_get (visited image)) (sym place_is)
    ∙ visited-on image (place + 1) (next_of image j) there in
    let is : next_of image j ≡ k = cc in
    subst (IsOn image (suc place)) is (subst (λ p. IsOn image p (next_of image j)) place_is there)

-- no segment is visited twice
pub visited-distinct : (image : Image) (earlier place k : ℕ) → IsSoundImage image → earlier < place
    → slice_get (visited image) earlier ≡ Some k → slice_get (visited image) place ≡ Some k → ⊥
visited-distinct image earlier zero k sound before first again = omega (arith, before)
visited-distinct image earlier (suc place) k sound before first again =
    let long : suc place < length (visited image) = slice_get_within (visited image) (suc place) k again in
    let j : ℕ = get_or (visited image) place 0 in
    let at : slice_get (visited image) place ≡ Some j = slice_get-get_or (visited image) place 0 (omega (arith, long)) in
    let next = IsNext-step image place j sound (omega (arith, long, visited-few image)) (on-visited image place j sound at) in
    let some : next_of image j ≢ 0 = λ none. omega (arith, next.ends none, long) in
    let there : IsOn image (place + 1) (next_of image j) = next.goes some (omega (arith, long, visited-few image)) in
    let place_is : place + 1 ≡ suc place = omega arith in
    let same : slice_get (visited image) (suc place) ≡ Some (next_of image j) = ap (slice_get (visited image)) (sym place_is)
    ∙ visited-on image (place + 1) (next_of image j) there in
    (sound.each place j at).link_on earlier (omega (arith, before)) (first ∙ sym again ∙ same)

-- A list of segments that links make: it begins at segment 1, each but the last leads on to the next, and the last leads nowhere.
pub record IsLinked (image : Image) (ks : List ℕ) : Type 0 where
  pub some : 0 < length ks
  pub few : length ks ≤ 31
  pub first : get_or ks 0 0 ≡ 1
  pub leads : (j : ℕ) → j + 1 < length ks → goes_on image (take (j + 1) ks) (get_or ks j 0) ≡ true
  pub next : (j : ℕ) → j + 1 < length ks → next_of image (get_or ks j 0) ≡ get_or ks (j + 1) 0
  pub last : goes_on image ks (get_or ks (length ks - 1) 0) ≡ false

-- the walk from one of them on
linked-walk : (image : Image) (ks : List ℕ) (most j : ℕ) → IsLinked image ks → j < length ks → length ks ≤ j + most
    → walked most image (take j ks) (get_or ks j 0) ≡ ks
linked-walk image ks zero j linked inside long = absurd (omega (arith, inside, long))
linked-walk image ks (suc most) j linked inside long =
    let here : take j ks ++ get_or ks j 0 ∷ [] ≡ take (j + 1) ks = sym (take_more ks j 0 inside) in
    walked-step most image (take j ks) (get_or ks j 0) ∙ ap (λ seen. walk_on most image seen (get_or ks j 0)) here
    ∙ elim (cases_lt (j + 1) (length ks)) [
      | inl more ↦
          walk_on-is most image (take (j + 1) ks) (get_or ks j 0) (linked.leads j more)
          ∙ ap (walked most image (take (j + 1) ks)) (linked.next j more)
          ∙ linked-walk image ks most (j + 1) linked more (omega (arith, long))
      | inr end ↦
          let all : take (j + 1) ks ≡ ks = take_all (j + 1) ks end in
          let place : j ≡ length ks - 1 = omega (arith, inside, end) in
          let stops : goes_on image (take (j + 1) ks) (get_or ks j 0) ≡ false = (λ t. goes_on image (all t) (get_or ks (place t) 0))
          ∙ linked.last in
          walk_on-is most image (take (j + 1) ks) (get_or ks j 0) stops ∙ all
    ]

-- is the list of those that are visited
pub linked-visited : (image : Image) (ks : List ℕ) → IsLinked image ks → visited image ≡ ks
linked-visited image ks linked =
    ap (walked 31 image []) (sym linked.first) ∙ linked-walk image ks 31 0 linked linked.some (omega (arith, linked.few))

-- no segment 0 is visited
pub visited-some : (image : Image) (place k : ℕ) → IsSoundImage image → slice_get (visited image) place ≡ Some k → 0 < k
visited-some image zero k sound at =
    let first = (IsNext-first image).goes (λ none. omega (arith, none)) (omega arith) in
    let same : Some k ≡ Some 1 = sym at ∙ visited-on image 0 1 first in
    let is : k ≡ 1 = cc in
    omega (arith, is)
visited-some image (suc place) k sound at =
    let long : suc place < length (visited image) = slice_get_within (visited image) (suc place) k at in
    let j : ℕ = get_or (visited image) place 0 in
    let there : slice_get (visited image) place ≡ Some j = slice_get-get_or (visited image) place 0 (omega (arith, long)) in
    let next = IsNext-step image place j sound (omega (arith, long, visited-few image)) (on-visited image place j sound there) in
    let some : next_of image j ≢ 0 = λ none. omega (arith, next.ends none, long) in
    let place_is : place + 1 ≡ suc place = omega arith in
    let same : Some k ≡ Some (next_of image j) =
    sym at ∙ ap (slice_get (visited image)) (sym place_is)
    ∙ visited-on image (place + 1) (next_of image j) (next.goes some (omega (arith, long, visited-few image))) in
    let is : k ≡ next_of image j = cc in
    omega (arith, is, some)

-- segment 1 is visited first
pub visited-first_one : (image : Image) → IsSoundImage image → get_or (visited image) 0 0 ≡ 1
visited-first_one image sound =
    get_or_from_slice_get (visited image) 0 1 0
    (visited-on image 0 1 ((IsNext-first image).goes (λ none. omega (arith, none)) (omega arith)))
