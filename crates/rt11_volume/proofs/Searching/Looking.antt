-- The search for an entry, a segment at a time.
use Rattle.std.proofs.Common.{◌≡◌, inl, inr, ℕ, ◌+◌, ◌<◌, ◌≤◌, Bool, false, List, [], length, get_or, Option, Some, None, sym, ◌∙◌, ap}
use Rattle.std.proofs.Common.{subst, is_some, true, arith}
use Rattle.std.specs.List.{All, slice_get}
use Rattle.std.proofs.lemmas.Bool.{cases_eq}
use Rattle.std.proofs.lemmas.List.{length-map, get_or-map, get_or_default}
use Rattle.std.proofs.lemmas.Option.{slice_get-get_or}
use Rattle.f11_dev.specs.Disk.{Disk}
use Rattle.f11_dev.specs.Image.{Image}
use Rattle.rt11_volume.specs.Directory.{segment_of, visited}
use Rattle.rt11_volume.specs.Searching.Looking.{segments_of, found_segment, IsOnDevice, IsPlaceIn, IsFirstIn, IsFirstFound, IsKept, Surveys}
use Rattle.rt11_volume.specs.Verifying.Verdict.{IsSoundDisk}
use Rattle.rt11_volume.specs.Entry.{is_file_named}
use Rattle.rt11_volume.specs.Searching.Search.{HasNone, is_empty_for}
use Rattle.rt11_volume.specs.Segment.{Segment, segment_words, next_segment, entries, extra_bytes}
use Rattle.rt11_volume.specs.declared.lookup.entry.Found.{Found}
use Rattle.rt11_volume.proofs.Verifying.Sound.{IsSoundImage}
use Rattle.rt11_volume.proofs.Walking.Walk.{IsNext, IsNext-step, visited-on, visited-within}

-- no entry of the segments visited before this place passes
abbrev pub HasNoneBefore : (List ℕ → Bool) → Image → ℕ → Type 0
HasNoneBefore test image place =
    (j k : ℕ) → j < place → slice_get (visited image) j ≡ Some k → IsPlaceIn test (segment_of image k).entries None

-- one segment more
pub HasNoneBefore-more : (test : List ℕ → Bool) (image : Image) (place k : ℕ) → slice_get (visited image) place ≡ Some k
    → IsPlaceIn test (segment_of image k).entries None
    → HasNoneBefore test image place → HasNoneBefore test image (place + 1)
HasNoneBefore-more test image place k at none before j k' low at' = elim (cases_eq j place) [
  | inl same ↦
      let is : Some k ≡ Some k' = sym at ∙ ap (slice_get (visited image)) (sym same) ∙ at' in
      subst (λ n. IsPlaceIn test (segment_of image n).entries None) (let number : k ≡ k' = cc in number) none
  | inr apart ↦ before j k' (omega arith) at'
]

-- as many segments as are visited
pub length-segments : (image : Image) → length (segments_of image) ≡ length (visited image)
length-segments image = simp length-map

-- that was all
pub HasNone-before : (test : List ℕ → Bool) (image : Image) (place : ℕ) → length (visited image) ≤ place → HasNoneBefore test image place
    → HasNone test (segments_of image)
HasNone-before test image place long before j s within =
    let inside : j < length (visited image) = omega (arith, within, length-segments image) in
    let k : ℕ = get_or (visited image) j 0 in
    let is : get_or (segments_of image) j s ≡ segment_of image k = get_or-map (segment_of image) (visited image) j 0 s inside in
    subst (λ (seg : Segment). All (λ e. test e ≡ false) seg.entries) (sym is)
    (λ i e in_it. ap test (get_or_default (segment_of image k).entries i e [] in_it) ∙ before j k (omega (arith, inside, long))
    (slice_get-get_or (visited image) j 0 inside) i in_it)

-- The walk is at a segment that was read.
pub on_read : (image : Image) (place n : ℕ) → IsSoundImage image → place < 31 → IsNext image place n → 0 < n
    → slice_get (visited image) place ≡ Some n
on_read image place n sound within next some = visited-on image place n (next.goes (λ none. omega (arith, some, none)) within)

-- the walk goes on from the segment that was read
pub next_read : (image : Image) (place n : ℕ) (words : List ℕ) → IsSoundImage image → place < 31 → IsNext image place n → 0 < n
    → words ≡ segment_words image n
    → IsNext image (place + 1) (next_segment words)
next_read image place n words sound within next some is =
    subst (IsNext image (place + 1)) (ap next_segment (sym is))
    (IsNext-step image place n sound within (next.goes (λ none. omega (arith, some, none)) within))

-- where there is no segment to be read, the walk is at its end
pub ends_unread : (image : Image) (place n : ℕ) → IsSoundImage image → place < 31 → IsNext image place n → (IsOnDevice n (length image) → ⊥)
    → length (visited image) ≤ place
ends_unread image place n sound within next none = elim (cases_eq n 0) [
  | inl zero_is ↦ next.ends zero_is
  | inr some ↦ absurd (none
      (record {
        some = omega (arith, some);
        within = visited-within image place n sound (visited-on image place n (next.goes some within));
      }))
]

-- The first that was found so far, if there is one.
abbrev pub IsFoundSoFar : (List ℕ → Bool) → Disk → ℕ → Option Found → Type 0
IsFoundSoFar test disk place None = IsSoundDisk disk → HasNoneBefore test disk.image place
IsFoundSoFar test disk place (Some found) =
    (found.i < length (found_segment found).entries) × IsOnDevice found.number (length disk.image)
    × (IsSoundDisk disk → IsFirstFound test disk.image found)

-- one segment more
pub IsFoundSoFar-more : (test : List ℕ → Bool) (disk : Disk) (place number : ℕ) (words : List ℕ) (area kept : Option Found)
    → IsOnDevice number (length disk.image)
    → (IsSoundDisk disk → slice_get (visited disk.image) place ≡ Some number) → (IsSoundDisk disk → words ≡ segment_words disk.image number)
    → IsKept test area number words kept
    → IsFoundSoFar test disk place area → IsFoundSoFar test disk (place + 1) kept
IsFoundSoFar-more test disk place number words (Some found) kept on at is stays so_far =
    subst (IsFoundSoFar test disk (place + 1)) (sym stays) so_far
IsFoundSoFar-more test disk place number words None None on at is none so_far = λ sound.
    HasNoneBefore-more test disk.image place number (at sound)
    (subst (λ (s : List ℕ). IsPlaceIn test (entries (extra_bytes s) s) None) (is sound) none) (so_far sound)
IsFoundSoFar-more test disk place number words None (Some found) on at is finds so_far =
    let same_number = finds.0 in
    let same_words = finds.1 in (
      subst (λ (s : List ℕ). found.i < length (entries (extra_bytes s) s)) (sym same_words) finds.2.inside,
      subst (λ n. IsOnDevice n (length disk.image)) (sym same_number) on,
      λ sound.
          let words_are : found.segment ≡ segment_words disk.image found.number = same_words ∙ is sound
          ∙ ap (segment_words disk.image) (sym same_number) in
          record {
            place = place;
            visited_at = at sound ∙ ap Some (sym same_number);
            words_are = words_are;
            first = subst (λ (s : List ℕ). IsFirstIn test (entries (extra_bytes s) s) found.i) (sym same_words ∙ words_are) finds.2;
            none_earlier = so_far sound;
          },
    )

-- all segments were visited
pub Surveys-found : (name : List ℕ) (blocks : ℕ) (disk : Disk) (place : ℕ) (area : Option Found)
    → (IsSoundDisk disk → length (visited disk.image) ≤ place) → (IsSoundDisk disk → HasNoneBefore (is_file_named name) disk.image place)
    → IsFoundSoFar (is_empty_for blocks) disk place area → Surveys name blocks area disk
Surveys-found name blocks disk place None all none so_far = record {
  no_area = λ sound. HasNone-before (is_empty_for blocks) disk.image place (all sound) (so_far sound);
  no_file = λ sound. HasNone-before (is_file_named name) disk.image place (all sound) (none sound);
}
Surveys-found name blocks disk place (Some found) all none so_far = record {
  inside = so_far.0;
  on_device = so_far.1;
  is_first = so_far.2;
  no_file = λ sound. HasNone-before (is_file_named name) disk.image place (all sound) (none sound);
}

-- whether an entry passes
pub place-some : (test : List ℕ → Bool) (es : List (List ℕ)) (o : Option ℕ) (b : Bool) → b ≡ is_some o → b ≡ true → IsPlaceIn test es o
    → (i : ℕ) × IsFirstIn test es i
place-some test es (Some i) b is holds finds = (i, finds)
place-some test es None b is holds finds = absurd (let clash : true ≡ false = sym holds ∙ is in cc)

pub place-none : (test : List ℕ → Bool) (es : List (List ℕ)) (o : Option ℕ) (b : Bool) → b ≡ is_some o → b ≡ false → IsPlaceIn test es o
    → IsPlaceIn test es None
place-none test es None b is fails finds = finds
place-none test es (Some i) b is fails finds = absurd (let clash : true ≡ false = sym is ∙ fails in cc)
