-- The segments of the entries that are read of a directory.
use Rattle.std.proofs.Common.{◌≡◌, ℕ, zero, suc, ◌≤◌, ◌==◌, ◌&&◌, Bool, true, false, not, nat_le, if◌then◌else◌, List, [], ◌∷◌, ◌++◌}
use Rattle.std.proofs.Common.{length, get_or, refl, subst, arith}
use Rattle.std.specs.List.{All, flat_map, list_any, range_with_len}
use Rattle.std.proofs.lemmas.Bool.{and_parts}
use Rattle.std.proofs.lemmas.Bool.Decides.{nat_tests}
use Rattle.std.proofs.lemmas.List.Elements.{All-append, All-map, All-nil, All-push}
use Rattle.std.proofs.lemmas.Option.{get_or_from_slice_get, slice_get_within}
use Rattle.f11_dev.specs.Image.{Image}
use Rattle.rt11_volume.specs.AnyDirectory.{directory_entries, entries_in, entries_told, entry_of_segment}
use Rattle.rt11_volume.specs.Directory.{IsSized, count_of, goes_on, is_extra_wrong, is_link_on, next_of, segment_of, visited, walked}
use Rattle.rt11_volume.specs.declared.any_entries.RtEntry.{RtEntry}
use Rattle.rt11_copy.specs.Laws.{EntriesHaveSegments}
use Rattle.rt11_copy.specs.Reading.{HasSegment}

-- segments that a directory has
abbrev AreThere : Image → List ℕ → Type 0
AreThere image ks = All (λ k. k ≤ count_of image) ks

-- where the walk goes on the link is to one of them
link-there : (image : Image) (seen : List ℕ) (k : ℕ) → goes_on image seen k ≡ true → next_of image k ≤ count_of image
link-there image seen k goes =
    let next : ℕ = next_of image k in
    let one = and_parts (not (is_extra_wrong image k)) (is_link_on (count_of image) seen next) goes in
    let two = and_parts (not (next == 0)) (nat_le next (count_of image) && not (list_any (λ j. j == next) seen)) one.1 in
    let three = and_parts (nat_le next (count_of image)) (not (list_any (λ j. j == next) seen)) two.1 in
    let low : nat_le next (count_of image) ≡ true = three.0 in grind (arith, nat_tests)

walked-there : (image : Image) (most : ℕ) (seen : List ℕ) (k : ℕ) → AreThere image seen → k ≤ count_of image
    → AreThere image (walked most image seen k)
unfolding walked
walked-there image zero seen k before low = before
walked-there image (suc most) seen k before low =
    by (goes_on image (seen ++ k ∷ []) k)
    (λ goes. walked-there image most (seen ++ k ∷ []) (next_of image k) so-far (link-there image (seen ++ k ∷ []) k goes))
  where
    so-far : AreThere image (seen ++ k ∷ [])
    so-far = All-push (λ n. n ≤ count_of image) seen k before low

    by : (b : Bool) → (b ≡ true → AreThere image (walked most image (seen ++ k ∷ []) (next_of image k)))
        → AreThere image (if b then walked most image (seen ++ k ∷ []) (next_of image k) else seen ++ k ∷ [])
    by true more = more refl
    by false more = so-far

-- entries whose segment is on the image
abbrev HaveSegments : Image → List RtEntry → Type 0
HaveSegments image es = All (λ e. HasSegment e image) es

segment-entries : (image : Image) (k : ℕ) → IsSized image → k ≤ count_of image → HaveSegments image (entries_in image k)
segment-entries image k sized low = by (is_extra_wrong image k)
  where
    by : (b : Bool) → HaveSegments image (if b then [] else entries_told (segment_of image k))
    by true = All-nil (λ e. HasSegment e image)
    by false =
        All-map (λ e. HasSegment e image) (entry_of_segment (segment_of image k)) (range_with_len 0 (length (segment_of image k).entries))
        (λ j d within. omega (arith, low, sized.within))

all-entries : (image : Image) → IsSized image → (ks : List ℕ) → AreThere image ks → HaveSegments image (flat_map (entries_in image) ks)
all-entries image sized [] there = All-nil (λ e. HasSegment e image)
all-entries image sized (k ∷ ks) there =
    All-append (λ e. HasSegment e image) (entries_in image k) (flat_map (entries_in image) ks)
    (segment-entries image k sized (there 0 k (omega arith)))
    (all-entries image sized ks (λ j d within. there (suc j) d (omega (arith, within))))

pub entries-have-segments : EntriesHaveSegments
unfolding directory_entries
entries-have-segments image k e sized at =
    let all = all-entries image sized (visited image) (walked-there image 31 [] 1 (All-nil (λ n. n ≤ count_of image)) (sized.some)) in
    let same : get_or (directory_entries image) k e ≡ e = get_or_from_slice_get (directory_entries image) k e e at in
    subst (λ (x : RtEntry). HasSegment x image) same (all k e (slice_get_within (directory_entries image) k e at))
