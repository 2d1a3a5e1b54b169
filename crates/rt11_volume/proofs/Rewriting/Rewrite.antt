-- An image of which one segment was written with other entries.
use Rattle.std.proofs.Common.{◌≡◌, ◌≢◌, inl, inr, ℕ, ◌+◌, ◌-◌, ◌*◌, ◌<◌, ◌≤◌, true, min, if◌then◌else◌, List, [], ◌++◌, length, get_or, map}
use Rattle.std.proofs.Common.{take, slice_index, sum_by, Some, sym, ◌∙◌, ap, subst, arith}
use Rattle.std.specs.Prelude.{slice_set, nat_le}
use Rattle.std.specs.List.{All, slice_get}
use Rattle.std.proofs.Math.Seq.{take-length}
use Rattle.std.proofs.lemmas.Bool.{cases_eq, cases_lt, cases_order, lt-leb}
use Rattle.std.proofs.lemmas.List.{length-map, length-set, get_or-take, get_or-map, get_or-set_same, get_or-set_other, same_lists}
use Rattle.std.proofs.lemmas.List.Sums.{sum_by-take-le}
use Rattle.std.proofs.lemmas.Option.{slice_get_within, slice_get-get_or, get_or_from_slice_get}
use Rattle.f11_dev.specs.Image.{Image, image_block}
use Rattle.rt11_volume.specs.Directory.{segment_of, visited, data_start}
use Rattle.rt11_volume.specs.Rewriting.Draft.{IsRewritten}
use Rattle.rt11_volume.specs.Entry.{area_length, status, is_one_kind}
use Rattle.rt11_volume.specs.InHand.{KeepsOthers}
use Rattle.rt11_volume.specs.Operations.{with_entries}
use Rattle.rt11_volume.specs.Segment.{Segment, segment_words, segment_with, words_in, area_start, areas_end}
use Rattle.rt11_volume.specs.Store.{rt_store_of}
use Rattle.rt11_volume.proofs.Verifying.Keep.{KeepsLinks, KeepsAreas, visited-same, visited-low, sound-kept, keeps-words}
use Rattle.rt11_volume.proofs.Verifying.Sound.{IsSoundImage}
use Rattle.rt11_volume.proofs.Walking.Walk.{visited-distinct}

-- Segment k was written with these entries and the header that it had, and no block but those of the segment is another.
pub record Rewrites (old new : Image) (k : ℕ) (es : List (List ℕ)) : Type 0 where
  pub size : length new ≡ length old
  pub kept : KeepsOthers k old new
  pub written : IsRewritten (take 5 (segment_words old k)) es (segment_words new k)

-- the areas of the entries are as long as those that were there, and each is of one kind
pub record IsAsLong (image : Image) (k : ℕ) (es : List (List ℕ)) : Type 0 where
  pub sum : sum_by area_length es ≡ sum_by area_length (segment_of image k).entries
  pub some : 0 < length (segment_of image k).entries
  pub one_kind : All (λ e. is_one_kind (status e) ≡ true) es

pub words-kept : (old new : Image) (k j : ℕ) → KeepsOthers k old new → j ≢ k → segment_words new j ≡ segment_words old j
unfolding segment_words
words-kept old new k j kept apart =
    let one = kept (4 + 2 * j) (λ same. apart (omega (arith, same))) (λ same. omega (arith, same)) in
    let two = kept (4 + 2 * j + 1) (λ same. omega (arith, same)) (λ same. apart (omega (arith, same))) in
    λ i. words_in (one i ++ two i)

-- the header's words
header-kept : (old new : Image) (k : ℕ) (es : List (List ℕ)) → Rewrites old new k es → (j w : ℕ) → w < 5
    → slice_index (segment_words new j) w ≡ slice_index (segment_words old j) w
header-kept old new k es is j w few = elim (cases_eq j k) [
  | inl same ↦
      ap (λ n. slice_index (segment_words new n) w) same ∙ sym (get_or-take 5 (segment_words new k) w 0 few)
      ∙ ap (λ ws. slice_index ws w) is.written.header_is
      ∙ get_or-take 5 (segment_words old k) w 0 few ∙ ap (λ n. slice_index (segment_words old n) w) (sym same)
  | inr apart ↦ ap (λ ws. slice_index ws w) (words-kept old new k j is.kept apart)
]

rewritten-links : (old new : Image) (k : ℕ) (es : List (List ℕ)) → Rewrites old new k es → KeepsLinks old new
rewritten-links old new k es is = record {
  size = is.size;
  count = header-kept old new k es is 1 0 (omega arith);
  highest = header-kept old new k es is 1 2 (omega arith);
  next = λ j low. header-kept old new k es is j 1 (omega arith);
  extra = λ j low. header-kept old new k es is j 3 (omega arith);
}

-- the segment that was written
segment-new : (old new : Image) (k : ℕ) (es : List (List ℕ)) → Rewrites old new k es
    → segment_of new k ≡ record { number = k; first = (segment_of old k).first; entries = es }
segment-new old new k es is =
    λ i. record { number = k; first = header-kept old new k es is k 4 (omega arith) i; entries = is.written.entries_are i }

-- the areas of a segment with entries end at block 65535 at most
pub areas-end-low : (image : Image) (place k : ℕ) → IsSoundImage image → slice_get (visited image) place ≡ Some k
    → 0 < length (segment_of image k).entries → areas_end (segment_of image k) ≤ min (length image) 65535
areas-end-low image place k sound at some =
    let es : List (List ℕ) = (segment_of image k).entries in
    let n : ℕ = length es in
    let inside : n - 1 < n = omega (arith, some) in
    let end = (sound.each place k at).within (n - 1) (get_or es (n - 1) []) (slice_get-get_or es (n - 1) [] inside) in
    let all : area_start (segment_of image k) (n - 1 + 1) ≡ areas_end (segment_of image k) =
    ap (area_start (segment_of image k)) (let p : n - 1 + 1 ≡ n = omega (arith, some) in p)
    ∙ ap (λ xs. (segment_of image k).first + sum_by area_length xs) (take-length es) in
    omega (arith, end, all)

rewritten-areas : (old new : Image) (k : ℕ) (es : List (List ℕ)) → IsSoundImage old → Rewrites old new k es → IsAsLong old k es → (j n : ℕ)
    → slice_get (visited old) j ≡ Some n → KeepsAreas old new n
rewritten-areas old new k es sound is long j n at = elim (cases_eq n k) [
  | inl same ↦ subst (KeepsAreas old new) (sym same) (here (ap Some same))
  | inr apart ↦ keeps-words old new j n sound at (words-kept old new k n is.kept apart)
]
  where
    here : Some n ≡ Some k → KeepsAreas old new k
    here same =
        let seg = segment-new old new k es is in
        let size = λ (i : ℕ). sum_by-take-le area_length es i in
        record {
          first = λ t. (seg t).first;
          end = ap areas_end seg ∙ ap (λ n. (segment_of old k).first + n) long.sum;
          ends = is.written.ends;
          one_kind = λ i e entry.
              let entry_in : slice_get es i ≡ Some e = ap (λ (s : Segment). slice_get s.entries i) (sym seg) ∙ entry in
              ap (λ (x : List ℕ). is_one_kind (status x)) (sym (get_or_from_slice_get es i e [] entry_in))
              ∙ long.one_kind i [] (slice_get_within es i e entry_in);
          within = λ i e entry.
              let whole = areas-end-low old j k sound (at ∙ same) long.some in
              omega (arith, ap (λ (s : Segment). area_start s (i + 1)) seg, size (i + 1), long.sum, whole);
        }

-- the image has no fault
pub rewritten-sound : (old new : Image) (k : ℕ) (es : List (List ℕ)) → IsSoundImage old → Rewrites old new k es → IsAsLong old k es
    → IsSoundImage new
rewritten-sound old new k es sound is long =
    sound-kept old new sound (rewritten-links old new k es is) (rewritten-areas old new k es sound is long)

-- its segments
segments-new : (old new : Image) (place k : ℕ) (es : List (List ℕ)) → IsSoundImage old → slice_get (visited old) place ≡ Some k
    → Rewrites old new k es
    → map (segment_of new) (visited new) ≡ with_entries (map (segment_of old) (visited old)) place es
segments-new old new place k es sound at is =
    let none : Segment = record { number = 0; first = 0; entries = [] } in
    let segs : List Segment = map (segment_of old) (visited old) in
    let visits = visited-same old new (rewritten-links old new k es is) sound.sized.some in
    let inside : place < length (visited old) = slice_get_within (visited old) place k at in
    let here : get_or segs place none ≡ segment_of old k = get_or-map (segment_of old) (visited old) place 0 none inside
    ∙ ap (segment_of old) (get_or_from_slice_get (visited old) place k 0 at) in
    let written : Segment = record (get_or segs place none) { entries = es } in
    let new_one : segment_of new k ≡ written = segment-new old new k es is
    ∙ (λ t. record { number = (sym here t).number; first = (sym here t).first; entries = es }) in
    ap (map (segment_of new)) visits
    ∙ same_lists (map (segment_of new) (visited old)) (slice_set segs place written) (sizes (segment_of new) (segment_of old) written)
    (λ j d within.
    let low : j < length (visited old) = omega (arith, within, size_of (segment_of new)) in
    let n : ℕ = get_or (visited old) j 0 in
    let there : slice_get (visited old) j ≡ Some n = slice_get-get_or (visited old) j 0 low in
    get_or-map (segment_of new) (visited old) j 0 d low ∙ elim (cases_eq j place) [
      | inl same ↦
          let number : n ≡ k = ap (λ p. get_or (visited old) p 0) same ∙ get_or_from_slice_get (visited old) place k 0 at in
          ap (segment_of new) number ∙ new_one
          ∙ sym (get_or-set_same segs place written d (omega (arith, inside, size_of (segment_of old))))
          ∙ ap (λ p. get_or (slice_set segs place written) p d) (sym same)
      | inr apart ↦
          let other : n ≢ k = λ same. twice j n low there same apart in
          ap (segment_with n) (words-kept old new k n is.kept other) ∙ sym (get_or-map (segment_of old) (visited old) j 0 d low)
          ∙ sym (get_or-set_other segs place j written d apart)
    ])
  where
    size_of : (f : ℕ → Segment) → length (map f (visited old)) ≡ length (visited old)
    size_of f = length-map (visited old) f

    sizes : (f g : ℕ → Segment) (s : Segment) → length (map f (visited old)) ≡ length (slice_set (map g (visited old)) place s)
    sizes f g s = size_of f ∙ sym (size_of g) ∙ sym (length-set (map g (visited old)) place s)

    twice : (j n : ℕ) → j < length (visited old) → slice_get (visited old) j ≡ Some n → n ≡ k → j ≢ place → ⊥
    twice j n low there same apart = elim (cases_order j place) [
      | inl equal ↦ apart equal
      | inr (inl before) ↦ visited-distinct old j place k sound before (there ∙ ap Some same) at
      | inr (inr behind) ↦ visited-distinct old place j k sound behind at (there ∙ ap Some same)
    ]

-- a block behind the directory is none of a segment's
behind-apart : (image : Image) (place k lbn : ℕ) → IsSoundImage image → slice_get (visited image) place ≡ Some k → data_start image ≤ lbn
    → (lbn ≢ 4 + 2 * k) × (lbn ≢ 4 + 2 * k + 1)
behind-apart image place k lbn sound at behind =
    let low = visited-low image place k sound at in
    ((λ same. omega (arith, same, behind, low)), (λ same. omega (arith, same, behind, low)))

blocks-kept : (old new : Image) (place k : ℕ) → IsSoundImage old → slice_get (visited old) place ≡ Some k → KeepsOthers k old new
    → data_start new ≡ data_start old → (lbn : ℕ)
    → (if nat_le (data_start new) lbn then image_block new lbn else []) ≡ (if nat_le (data_start old) lbn then image_block old lbn else [])
blocks-kept old new place k sound at kept start lbn = elim (cases_lt lbn (data_start old)) [
  | inl before ↦
      let no = lt-leb (data_start old) lbn before in
      (λ t. if nat_le (start t) lbn then image_block new lbn else []) ∙ (λ t. if no t then image_block new lbn else [])
      ∙ (λ t. if sym no t then image_block old lbn else [])
  | inr behind ↦
      let apart = behind-apart old place k lbn sound at behind in
      λ t. if nat_le (start t) lbn then kept lbn apart.0 apart.1 t else []
]

-- the store with these entries
pub rewritten-store : (old new : Image) (place k : ℕ) (es : List (List ℕ)) → IsSoundImage old → slice_get (visited old) place ≡ Some k
    → Rewrites old new k es
    → rt_store_of new ≡ record (rt_store_of old) { segments = with_entries (rt_store_of old).segments place es }
unfolding rt_store_of
rewritten-store old new place k es sound at is =
    let links = rewritten-links old new k es is in
    let segments = segments-new old new place k es sound at is in
    let extra = links.extra 1 sound.sized.some in
    let blocks = blocks-kept old new place k sound at is.kept (ap (λ c. 6 + 2 * c) links.count) in
    λ i. record { count = links.count i; highest = links.highest i; extra = extra i; segments = segments i; block = λ n. blocks n i }
