-- The walk from segment to segment.
use Rattle.std.specs.List.{list_any}
use Rattle.std.proofs.Math.Seq.{get_or-append_seam}
use Rattle.std.proofs.lemmas.List.{length-map, length-append, get_or-map, get_or_append_left, map-append}
use Rattle.std.proofs.lemmas.Bool.{and_parts, leb-true}
use Rattle.std.proofs.Common.{◌≡◌, ◌≢◌, ◌||◌, ◌≤◌, nat_le, ℕ, suc, ◌+◌, ◌-◌, ◌<◌, ◌&&◌, ◌==◌, Bool, true, false, not, if◌then◌else◌, List}
use Rattle.std.proofs.Common.{[], ◌∷◌, ◌++◌, length, map, Some, None, refl, sym, ◌∙◌, ap, arith}
use Rattle.f11_dev.specs.Image.{Image}
use Rattle.rt11_volume.specs.Directory.{is_extra_wrong, goes_on, next_of, walked, visited, is_link_on, are_extra_wrong, count_of}
use Rattle.rt11_volume.specs.InHand.{visit_of, visits, visit_at, last_visit, link_from, no_visit}
use Rattle.rt11_volume.specs.Segment.{segment_words, segment_count, next_segment, extra_bytes}
use Rattle.std.proofs.lemmas.Bool.Decides.{nat_tests}
use Rattle.rt11_volume.specs.declared.directory.Visited.{Visited}

-- those visited and what the walk finds behind the last of them, in so many steps
unfoldable pub walk_on : ℕ → Image → List ℕ → ℕ → List ℕ
walk_on most image seen last = if goes_on image seen last then walked most image seen (next_of image last) else seen

-- These segments were visited, in so many steps fewer than the whole walk.
pub record IsWalked (image : Image) (most : ℕ) (found : List Visited) : Type 0 where
  pub seen : List ℕ
  pub before : List ℕ
  pub last : ℕ
  pub ends : seen ≡ before ++ last ∷ []
  pub found_is : found ≡ map (visit_of image) seen
  pub walk : visited image ≡ walk_on most image seen last

-- a test of what each element is mapped to
pub list_any-map : {A B : Type 0} (f : A → B) (p : B → Bool) (xs : List A) → list_any p (map f xs) ≡ list_any (λ x. p (f x)) xs
list_any-map f p [] = refl
list_any-map f p (x ∷ xs) = ap (λ b. p (f x) || b) (list_any-map f p xs)

-- whether a number is that of one visited
pub has_number-any : (found : List Visited) (n : ℕ)
    → list_any (λ v. v.number == n) found ≡ list_any (λ j. j == n) (map (λ v. v.number) found)
has_number-any found n = sym (list_any-map (λ v. v.number) (λ j. j == n) found)

-- one step of the walk
pub walked-step : (most : ℕ) (image : Image) (seen : List ℕ) (k : ℕ)
    → walked (suc most) image seen k ≡ walk_on most image (seen ++ k ∷ []) k
unfolding walked walk_on
walked-step most image seen k = refl

pub walk_on-is : (most : ℕ) (image : Image) (seen : List ℕ) (last : ℕ) {goes : Bool} → goes_on image seen last ≡ goes
    → walk_on most image seen last ≡ (if goes then walked most image seen (next_of image last) else seen)
unfolding walk_on
walk_on-is most image seen last is = ap (λ b. if b then walked most image seen (next_of image last) else seen) is

walk_on-none : (image : Image) (seen : List ℕ) (last : ℕ) → walk_on 0 image seen last ≡ seen
unfolding walk_on walked
walk_on-none image seen last = by_test (goes_on image seen last)
  where
    by_test : (b : Bool) → (if b then seen else seen) ≡ seen
    by_test true = refl
    by_test false = refl

-- segment 1 was visited
pub IsWalked-first : (image : Image) (first : List ℕ) (found : List Visited) → found ≡ record { number = 1; segment = first } ∷ []
    → first ≡ segment_words image 1 → IsWalked image 30 found
IsWalked-first image first found is same = record {
  seen = 1 ∷ [];
  before = [];
  last = 1;
  ends = refl;
  found_is = is ∙ ap (λ (s : List ℕ). record { number = 1; segment = s } ∷ []) same;
  walk = walked-step 30 image [] 1;
}

numbers_of : (image : Image) (seen : List ℕ) → map (λ (v : Visited). v.number) (map (visit_of image) seen) ≡ seen
numbers_of image [] = refl
numbers_of image (k ∷ ks) = ap (λ r. k ∷ r) (numbers_of image ks)

last_of : (image : Image) (before : List ℕ) (last : ℕ) → last_visit (map (visit_of image) (before ++ last ∷ [])) ≡ visit_of image last
last_of image before last =
    let long : length (map (visit_of image) (before ++ last ∷ [])) ≡ length before + 1 = simp (length-map, length-append) in
    let size : length (map (visit_of image) (before ++ last ∷ [])) - 1 ≡ length before = omega (arith, long) in
    ap (λ n. visit_at (map (visit_of image) (before ++ last ∷ [])) n) size
    ∙ get_or-map (visit_of image) (before ++ last ∷ []) (length before) 0 no_visit (simp length-append (omega arith))
    ∙ ap (visit_of image) (get_or-append_seam before last [] 0)

-- the link of the last one visited, as the image has it
link_is : (image : Image) (most : ℕ) (found : List Visited) (walked : IsWalked image most found)
    → (visit_at found 0).segment ≡ segment_words image 1
    → link_from found ≡ (if goes_on image walked.seen walked.last then Some (next_of image walked.last) else None)
unfolding link_from
link_is image most found walked first =
    let last : last_visit found ≡ visit_of image walked.last = ap last_visit walked.found_is ∙ ap
    (λ ks. last_visit (map (visit_of image) ks)) walked.ends ∙ last_of image walked.before walked.last in
    let numbers : map (λ (v : Visited). v.number) found ≡ walked.seen = ap (λ vs. map (λ (v : Visited). v.number) vs) walked.found_is
    ∙ numbers_of image walked.seen in
    rw (first, last, numbers) refl

-- a link to a segment that there is leads on unless it was visited
pub link-here : (count next : ℕ) (seen : List ℕ) (was : Bool) → next ≢ 0 → next ≤ count → was ≡ list_any (λ j. j == next) seen
    → not was ≡ is_link_on count seen next
link-here count next seen was some within is =
    let one : next == 0 ≡ false = grind (arith, nat_tests) in
    let two : nat_le next count ≡ true = grind (arith, nat_tests) in
    rw (one, two, is) refl

some_if : (b : Bool) (x n : ℕ) → (if b then Some x else None) ≡ Some n → (b ≡ true) × (x ≡ n)
some_if true x n is = (refl, cc)
some_if false x n is = absurd (cc)

none_if : (b : Bool) (x : ℕ) → (if b then Some x else None) ≡ None → b ≡ false
none_if true x is = absurd (cc)
none_if false x is = refl

-- a link that leads on is to a segment that there is
pub link_from-within : (found : List Visited) (n : ℕ) → link_from found ≡ Some n → n ≤ segment_count (visit_at found 0).segment
unfolding link_from
link_from-within found n is =
    let next : ℕ = next_segment (last_visit found).segment in
    let wrong : Bool = are_extra_wrong (extra_bytes (visit_at found 0).segment) (extra_bytes (last_visit found).segment) in
    let count : ℕ = segment_count (visit_at found 0).segment in
    let numbers : List ℕ = map (λ (v : Visited). v.number) found in
    let one : (not wrong && is_link_on count numbers next ≡ true) × (next ≡ n) = some_if
    (not wrong && is_link_on count numbers next) next n is in
    let two : (not wrong ≡ true) × (is_link_on count numbers next ≡ true) = and_parts (not wrong) (is_link_on count numbers next) one.0 in
    let three : (not (next == 0) ≡ true) × (nat_le next count && not (list_any (λ j. j == next) numbers) ≡ true) = and_parts
    (not (next == 0)) (nat_le next count && not (list_any (λ j. j == next) numbers)) two.1 in
    let four : (nat_le next count ≡ true) × (not (list_any (λ j. j == next) numbers) ≡ true) = and_parts (nat_le next count)
    (not (list_any (λ j. j == next) numbers)) three.1 in
    omega (arith, leb-true next count four.0, one.1)

-- one more was visited
pub IsWalked-more : (image : Image) (most less : ℕ) (found now : List Visited) (next : ℕ) (words : List ℕ) → most ≡ suc less
    → (visit_at found 0).segment ≡ segment_words image 1
    → link_from found ≡ Some next → words ≡ segment_words image next → now ≡ found ++ record { number = next; segment = words } ∷ []
    → IsWalked image most found → IsWalked image less now
IsWalked-more image most less found now next words fewer first link is now_is walk =
    let test = some_if (goes_on image walk.seen walk.last) (next_of image walk.last) next
    (sym (link_is image most found walk first) ∙ link) in
    record {
      seen = walk.seen ++ next ∷ [];
      before = walk.seen;
      last = next;
      ends = refl;
      found_is = now_is ∙ ap (λ (vs : List Visited). vs ++ record { number = next; segment = words } ∷ []) walk.found_is
          ∙ ap (λ (s : List ℕ). map (visit_of image) walk.seen ++ record { number = next; segment = s } ∷ []) is ∙ sym
          (map-append (visit_of image) walk.seen (next ∷ []));
      walk = walk.walk ∙ walk_on-is most image walk.seen walk.last test.0 ∙ ap (walked most image walk.seen) test.1
          ∙ ap (λ n. walked n image walk.seen next) fewer ∙ walked-step less image walk.seen next;
    }

-- the last link doesn't lead on
pub IsWalked-ends : (image : Image) (most : ℕ) (found : List Visited) → (visit_at found 0).segment ≡ segment_words image 1
    → link_from found ≡ None → IsWalked image most found → found ≡ visits image
IsWalked-ends image most found first link walk =
    let ends = none_if (goes_on image walk.seen walk.last) (next_of image walk.last) (sym (link_is image most found walk first) ∙ link) in
    walk.found_is ∙ sym (ap (map (visit_of image)) (walk.walk ∙ walk_on-is most image walk.seen walk.last ends))

-- there were as many steps as there may be
pub IsWalked-all : (image : Image) (most : ℕ) (found : List Visited) → most ≡ 0 → IsWalked image most found → found ≡ visits image
IsWalked-all image most found none walk =
    walk.found_is ∙ sym (ap (map (visit_of image))
    (walk.walk ∙ ap (λ n. walk_on n image walk.seen walk.last) none ∙ walk_on-none image walk.seen walk.last))

-- the first one stays the first
pub visit_at-push : (found : List Visited) (v : Visited) → 0 < length found → visit_at (found ++ v ∷ []) 0 ≡ visit_at found 0
visit_at-push found v some = get_or_append_left found (v ∷ []) no_visit 0 some

-- where segment 1 links to none, it alone is visited
pub visited-one : (image : Image) → next_of image 1 ≡ 0 → visited image ≡ 1 ∷ []
visited-one image none =
    let ends : goes_on image (1 ∷ []) 1 ≡ false = ap (λ n. not (is_extra_wrong image 1) && is_link_on (count_of image) (1 ∷ []) n) none
    ∙ and_false (not (is_extra_wrong image 1)) in
    walked-step 30 image [] 1 ∙ walk_on-is 30 image (1 ∷ []) 1 ends
  where
    and_false : (b : Bool) → (b && false) ≡ false
    and_false true = refl
    and_false false = refl
