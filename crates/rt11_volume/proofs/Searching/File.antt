-- A file that was found in hand is the store's.
use Rattle.std.proofs.Common.{◌≡◌, ℕ, zero, suc, ◌+◌, ◌<◌, ◌≤◌, Bool, false, min, List, [], length, get_or, Some, sym, ◌∙◌}
use Rattle.std.proofs.Common.{ap, subst, arith}
use Rattle.std.specs.List.{All, slice_get}
use Rattle.std.specs.Option.{option_map}
use Rattle.std.proofs.lemmas.List.{get_or_default}
use Rattle.std.proofs.lemmas.Option.{slice_get-map, slice_get_within, slice_get-get_or, get_or_from_slice_get}
use Rattle.f11_dev.specs.Image.{Image}
use Rattle.rt11_volume.specs.Directory.{segment_of, visited, data_start, end_before}
use Rattle.rt11_volume.specs.Entry.{area_length, is_file_named}
use Rattle.rt11_volume.specs.Files.{HasFile, file_area}
use Rattle.rt11_volume.specs.Searching.Looking.{segments_of, found_segment, found_entry, IsFirstFound}
use Rattle.rt11_volume.specs.Searching.Search.{IsFirst, HasNone}
use Rattle.rt11_volume.specs.Segment.{Segment, segment_with, area_start}
use Rattle.rt11_volume.specs.Store.{rt_store_of, area_at}
use Rattle.rt11_volume.specs.declared.lookup.entry.Found.{Found}
use Rattle.rt11_volume.proofs.Rewriting.Entries.{area_start-more}
use Rattle.rt11_volume.proofs.Searching.Looking.{length-segments}
use Rattle.rt11_volume.proofs.Verifying.Sound.{IsSoundImage}

-- the segments that are visited, by their place
pub segments-at : (image : Image) (place k : ℕ) → slice_get (visited image) place ≡ Some k
    → slice_get (segments_of image) place ≡ Some (segment_of image k)
segments-at image place k at = slice_get-map (segment_of image) (visited image) place ∙ ap (option_map (segment_of image)) at

-- the segment in hand is the image's
pub found-segment : (test : List ℕ → Bool) (image : Image) (found : Found) → IsFirstFound test image found
    → found_segment found ≡ segment_of image found.number
found-segment test image found is = ap (segment_with found.number) is.words_are

-- what was found is the first such entry of the store
pub first-found : (test : List ℕ → Bool) (image : Image) (found : Found) (is : IsFirstFound test image found)
    → IsFirst test (segments_of image) is.place found.i (segment_of image found.number)
    (get_or (segment_of image found.number).entries found.i [])
first-found test image found is =
    let es : List (List ℕ) = (segment_of image found.number).entries in
    record {
      segment_is = segments-at image is.place found.number is.visited_at;
      entry_is = slice_get-get_or es found.i [] is.first.inside;
      passes = is.first.passes;
      none_before = λ j e before at. ap test (sym (get_or_from_slice_get es j e [] at)) ∙ is.first.none_before j before;
      none_earlier = λ l s before at.
          let long : l < length (visited image) = omega (arith, slice_get_within (segments_of image) l s at, length-segments image) in
          let k : ℕ = get_or (visited image) l 0 in
          let there = slice_get-get_or (visited image) l 0 long in
          let same : Some s ≡ Some (segment_of image k) = sym at ∙ segments-at image l k there in
          let seg : s ≡ segment_of image k = cc in
          subst (λ (x : Segment). All (λ e. test e ≡ false) x.entries) (sym seg)
          (λ i e in_it. ap test (get_or_default (segment_of image k).entries i e [] in_it) ∙ is.none_earlier l k before there i in_it);
    }

-- the file of a name that was found
unfoldable pub file-found : (name : List ℕ) (image : Image) (found : Found) → IsFirstFound (is_file_named name) image found
    → HasFile name (rt_store_of image)
unfolding rt_store_of
file-found name image found is = record {
  place = is.place;
  i = found.i;
  segment = segment_of image found.number;
  entry = get_or (segment_of image found.number).entries found.i [];
  first = first-found (is_file_named name) image found is;
}

-- there is none
pub no-file-found : (test : List ℕ → Bool) (image : Image) → HasNone test (segments_of image) → HasNone test (rt_store_of image).segments
unfolding rt_store_of
no-file-found test image none = none

-- where it begins, and how long it is, as it is in hand
pub file-start : (name : List ℕ) (image : Image) (found : Found) (is : IsFirstFound (is_file_named name) image found)
    → area_start (found_segment found) found.i ≡ (file_area (file-found name image found is)).start
unfolding area_at file-found
file-start name image found is = ap (λ (seg : Segment). area_start seg found.i) (found-segment (is_file_named name) image found is)

pub file-length : (name : List ℕ) (image : Image) (found : Found) (is : IsFirstFound (is_file_named name) image found)
    → area_length (found_entry found) ≡ (file_area (file-found name image found is)).length
unfolding area_at file-found
file-length name image found is =
    ap (λ (seg : Segment). area_length (get_or seg.entries found.i [])) (found-segment (is_file_named name) image found is)

-- the areas of a sound image lie behind the directory, on the device, and end at block 65535 at most
pub area-ends : (image : Image) (place k i : ℕ) → IsSoundImage image → slice_get (visited image) place ≡ Some k
    → i < length (segment_of image k).entries
    → area_start (segment_of image k) i + area_length (get_or (segment_of image k).entries i []) ≤ min (length image) 65535
area-ends image place k i sound at inside =
    let es : List (List ℕ) = (segment_of image k).entries in
    omega (
      arith,
      area_start-more (segment_of image k) i inside,
      (sound.each place k at).within i (get_or es i [])
          (slice_get-get_or es i [] inside),
    )

pub area-begins : (image : Image) (place k i : ℕ) → IsSoundImage image → slice_get (visited image) place ≡ Some k
    → data_start image ≤ area_start (segment_of image k) i
unfolding end_before
area-begins image zero k i sound at = omega (arith, (sound.each zero k at).begins)
area-begins image (suc place) k i sound at =
    let earlier : ℕ = get_or (visited image) place 0 in
    let long : place < length (visited image) = omega (arith, slice_get_within (visited image) (suc place) k at) in
    let there : slice_get (visited image) place ≡ Some earlier = slice_get-get_or (visited image) place 0 long in
    let before : data_start image ≤ area_start (segment_of image earlier) 0 = area-begins image place earlier 0 sound there in
    omega (arith, before, (sound.each (suc place) k at).begins)

-- the file in hand of an image without faults begins and ends where a word can tell
pub file-ends : (name : List ℕ) (image : Image) (found : Found) → IsSoundImage image → IsFirstFound (is_file_named name) image found
    → area_start (found_segment found) found.i + area_length (found_entry found) ≤ min (length image) 65535
file-ends name image found sound is =
    subst (λ (seg : Segment). area_start seg found.i + area_length (get_or seg.entries found.i []) ≤ min (length image) 65535)
    (sym (found-segment (is_file_named name) image found is))
    (area-ends image is.place found.number found.i sound is.visited_at is.first.inside)
