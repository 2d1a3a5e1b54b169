-- The list of the areas.
use Rattle.std.proofs.Common.{◌≡◌, ℕ, suc, ◌+◌, ◌<◌, ◌≤◌, min, List, [], ◌∷◌, ◌++◌, length, get_or, map, take, Some, refl, sym, ◌∙◌, ap}
use Rattle.std.proofs.Common.{append_assoc, arith}
use Rattle.std.specs.List.{flat_map, range_with_len, slice_get}
use Rattle.std.proofs.lemmas.Grind.{flat_map-append}
use Rattle.std.proofs.lemmas.List.{get_or-map, take_more, take_all, map-append, append-nil}
use Rattle.std.proofs.lemmas.List.FromFn.{map-range_with_len_more, length-range_with_len, get_or-range_with_len}
use Rattle.std.proofs.lemmas.Option.{slice_get_within, slice_get-get_or, get_or_from_slice_get}
use Rattle.std.proofs.lemmas.Simd.{map-map}
use Rattle.f11_dev.specs.Image.{Image}
use Rattle.rt11_volume.specs.Directory.{segment_of, visited}
use Rattle.rt11_volume.specs.Entry.{kind_of, is_protected}
use Rattle.rt11_volume.specs.InHand.{SaysEntry}
use Rattle.rt11_volume.specs.Listing.{shown_name, shown_area, shown_entry, shown_words, shown_segment, ListsAreas}
use Rattle.rt11_volume.specs.Searching.Looking.{segments_of}
use Rattle.rt11_volume.specs.Segment.{Segment, area_start, segment_words, segment_with}
use Rattle.rt11_volume.specs.Store.{RtStore, rt_store_of, area_at, areas_of}
use Rattle.rt11_volume.specs.declared.area.RtArea.{RtArea}
use Rattle.rt11_volume.specs.declared.entry.Entry.{Entry}
use Rattle.rt11_volume.proofs.BlockLemmas.{map-agree}
use Rattle.rt11_volume.proofs.Searching.File.{area-ends}
use Rattle.rt11_volume.proofs.Searching.Looking.{length-segments}
use Rattle.rt11_volume.proofs.Verifying.Sound.{IsSoundImage}

-- what is shown of an entry in hand is what is shown of its words
pub shown-says : (e : Entry) (words : List ℕ) (start at : ℕ) → SaysEntry e words → start ≡ at → shown_entry e start ≡ shown_words words at
shown-says e words start at says is = λ i. record {
  kind = kind_of (says.status i);
  name = shown_name (kind_of (says.status i)) (says.name i);
  start = min (is i) 65535;
  length = says.length i;
  protected = is_protected (says.status i ∷ []);
}

-- one area more of a segment
pub shown-more : (seg : Segment) (before areas : List RtArea) (area : RtArea) (i : ℕ)
    → area ≡ shown_words (get_or seg.entries i []) (area_start seg i)
    → areas ≡ before ++ map (λ j. shown_words (get_or seg.entries j []) (area_start seg j)) (range_with_len 0 i)
    → areas ++ area ∷ [] ≡ before ++ map (λ j. shown_words (get_or seg.entries j []) (area_start seg j)) (range_with_len 0 (i + 1))
shown-more seg before areas area i one so_far =
    let f = λ (j : ℕ). shown_words (get_or seg.entries j []) (area_start seg j) in
    (λ k. so_far k ++ one k ∷ []) ∙ append_assoc before (map f (range_with_len 0 i)) (f i ∷ [])
    ∙ ap (λ xs. before ++ xs) (sym (map-range_with_len_more f 0 i i (omega arith)))

-- one segment more
pub listed-more : (image : Image) (place k : ℕ) (words : List ℕ) (before : List RtArea) → slice_get (visited image) place ≡ Some k
    → words ≡ segment_words image k
    → before ≡ flat_map shown_segment (take place (segments_of image))
    → before ++ shown_segment (segment_with 0 words) ≡ flat_map shown_segment (take (place + 1) (segments_of image))
listed-more image place k words before at is so_far =
    let none : Segment = record { number = 0; first = 0; entries = [] } in
    let long : place < length (visited image) = slice_get_within (visited image) place k at in
    let inside : place < length (segments_of image) = omega (arith, long, length-segments image) in
    let here : get_or (segments_of image) place none ≡ segment_of image k =
    get_or-map (segment_of image) (visited image) place 0 none long
    ∙ ap (segment_of image) (get_or_from_slice_get (visited image) place k 0 at) in
    (λ i. so_far i ++ shown_segment (segment_with k (is i)))
    ∙ ap (λ (s : Segment). flat_map shown_segment (take place (segments_of image)) ++ shown_segment s) (sym here)
    ∙ ap (λ xs. flat_map shown_segment (take place (segments_of image)) ++ xs)
    (sym (append-nil (shown_segment (get_or (segments_of image) place none))))
    ∙ sym (flat_map-append shown_segment (take place (segments_of image)) (get_or (segments_of image) place none ∷ []))
    ∙ ap (flat_map shown_segment) (sym (take_more (segments_of image) place none inside))

-- what two functions agree on, piece by piece
pub flat_map-agree : {A B : Type 0} (f g : A → List B) (xs : List A) → ((j : ℕ) (x : A) → slice_get xs j ≡ Some x → f x ≡ g x)
    → flat_map f xs ≡ flat_map g xs
flat_map-agree f g [] same = refl
flat_map-agree f g (x ∷ xs) same = λ i. same 0 x refl i ++ flat_map-agree f g xs (λ j y at. same (suc j) y at) i

pub map-flat_map : {A B C : Type 0} (h : B → C) (f : A → List B) (xs : List A) → map h (flat_map f xs) ≡ flat_map (λ x. map h (f x)) xs
map-flat_map h f [] = refl
map-flat_map h f (x ∷ xs) = map-append h (f x) (flat_map f xs) ∙ ap (λ r. map h (f x) ++ r) (map-flat_map h f xs)

-- the areas of a segment of an image without faults
area-shown : (image : Image) (store : RtStore) (place k : ℕ) → IsSoundImage image → slice_get (visited image) place ≡ Some k
    → shown_segment (segment_of image k) ≡ map shown_area
    (map (area_at store (segment_of image k)) (range_with_len 0 (length (segment_of image k).entries)))
unfolding area_at
area-shown image store place k sound at =
    let seg : Segment = segment_of image k in
    map-agree (λ i. shown_words (get_or seg.entries i []) (area_start seg i)) (λ i. shown_area (area_at store seg i))
    (range_with_len 0 (length seg.entries)) (λ j i is.
    let within : j < length (range_with_len 0 (length seg.entries)) = slice_get_within (range_with_len 0 (length seg.entries)) j i is in
    let inside : j < length seg.entries = omega (arith, within, length-range_with_len 0 (length seg.entries)) in
    let same : i ≡ j = sym (get_or_from_slice_get (range_with_len 0 (length seg.entries)) j i 0 is)
    ∙ get_or-range_with_len 0 (length seg.entries) j 0 inside ∙ omega arith in
    let low : min (area_start seg i) 65535 ≡ area_start seg i =
    omega (arith, area-ends image place k i sound at (omega (arith, same, inside))) in
    λ t. record (shown_words (get_or seg.entries i []) (area_start seg i)) { start = low t })
    ∙ sym (map-map shown_area (area_at store seg) (range_with_len 0 (length seg.entries)))

-- all areas, where every segment was visited
pub listed-all : (image : Image) (place : ℕ) (areas : List RtArea) → IsSoundImage image → length (visited image) ≤ place
    → areas ≡ flat_map shown_segment (take place (segments_of image))
    → ListsAreas (rt_store_of image) areas
unfolding rt_store_of areas_of
listed-all image place areas sound long so_far =
    let segs : List Segment = segments_of image in
    let store : RtStore = rt_store_of image in
    so_far ∙ ap (flat_map shown_segment) (take_all place segs (omega (arith, long, length-segments image)))
    ∙ flat_map-agree shown_segment (λ seg. map shown_area (map (area_at store seg) (range_with_len 0 (length seg.entries)))) segs (λ j s is.
    let within : j < length (visited image) = omega (arith, slice_get_within segs j s is, length-segments image) in
    let k : ℕ = get_or (visited image) j 0 in
    let none : Segment = record { number = 0; first = 0; entries = [] } in
    let seg : s ≡ segment_of image k = sym (get_or_from_slice_get segs j s none is)
    ∙ get_or-map (segment_of image) (visited image) j 0 none within in
    ap shown_segment seg ∙ area-shown image store j k sound (slice_get-get_or (visited image) j 0 within)
    ∙ ap (λ (x : Segment). map shown_area (map (area_at store x) (range_with_len 0 (length x.entries)))) (sym seg))
    ∙ sym (map-flat_map shown_area (λ seg. map (area_at store seg) (range_with_len 0 (length seg.entries))) segs)
