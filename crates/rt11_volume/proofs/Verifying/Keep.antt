-- An image whose segments have the links that they had, and areas that end where they did, has no fault where it had none.
use Rattle.std.proofs.Common.{◌≡◌, ℕ, zero, suc, ◌+◌, ◌*◌, ◌<◌, ◌≤◌, ◌==◌, ◌&&◌, Bool, true, false, not, nat_le, min, if◌then◌else◌, List}
use Rattle.std.proofs.Common.{[], ◌∷◌, ◌++◌, length, get_or, Some, refl, sym, ◌∙◌, ap, subst, arith}
use Rattle.std.specs.List.{list_any, slice_get}
use Rattle.std.proofs.lemmas.Bool.{and_parts, leb-true}
use Rattle.std.proofs.lemmas.Option.{slice_get_within, slice_get-get_or}
use Rattle.f11_dev.specs.Image.{Image}
use Rattle.rt11_volume.specs.Directory.{count_of, next_of, visited, walked, goes_on, segment_of, is_extra_wrong, are_extra_wrong}
use Rattle.rt11_volume.specs.Directory.{is_link_on, end_before}
use Rattle.rt11_volume.specs.Entry.{status, is_one_kind}
use Rattle.rt11_volume.specs.Segment.{Segment, segment_words, segment_with, highest_segment, extra_bytes, HasEnd, area_start, areas_end}
use Rattle.rt11_volume.proofs.Verifying.Sound.{IsSoundImage, IsSoundAt}

-- The segments that there are have the links and extra bytes that they had, and segment 1 tells as many.
pub record KeepsLinks (old new : Image) : Type 0 where
  pub size : length new ≡ length old
  pub count : count_of new ≡ count_of old
  pub highest : highest_segment (segment_words new 1) ≡ highest_segment (segment_words old 1)
  pub next : (k : ℕ) → k ≤ count_of old → next_of new k ≡ next_of old k
  pub extra : (k : ℕ) → k ≤ count_of old → extra_bytes (segment_words new k) ≡ extra_bytes (segment_words old k)

-- The areas of segment k begin and end where they did, and nothing is wrong with its entries.
pub record KeepsAreas (old new : Image) (k : ℕ) : Type 0 where
  pub first : (segment_of new k).first ≡ (segment_of old k).first
  pub end : areas_end (segment_of new k) ≡ areas_end (segment_of old k)
  pub ends : HasEnd (extra_bytes (segment_words new k)) (segment_words new k)
  pub one_kind : (i : ℕ) (e : List ℕ) → slice_get (segment_of new k).entries i ≡ Some e → is_one_kind (status e) ≡ true
  pub within : (i : ℕ) (e : List ℕ) → slice_get (segment_of new k).entries i ≡ Some e
      → area_start (segment_of new k) (i + 1) ≤ min (length old) 65535

extra-same : (old new : Image) → KeepsLinks old new → 1 ≤ count_of old → (k : ℕ) → k ≤ count_of old
    → is_extra_wrong new k ≡ is_extra_wrong old k
extra-same old new keeps some k within = λ i. are_extra_wrong (keeps.extra 1 some i) (keeps.extra k within i)

goes_on-same : (old new : Image) → KeepsLinks old new → 1 ≤ count_of old → (seen : List ℕ) (k : ℕ) → k ≤ count_of old
    → goes_on new seen k ≡ goes_on old seen k
goes_on-same old new keeps some seen k within =
    λ i. not (extra-same old new keeps some k within i) && is_link_on (keeps.count i) seen (keeps.next k within i)

-- where the walk goes on the link is to a segment that there is
link-within : (image : Image) (seen : List ℕ) (k : ℕ) → goes_on image seen k ≡ true → next_of image k ≤ count_of image
link-within image seen k goes =
    let next : ℕ = next_of image k in
    let one : (not (is_extra_wrong image k) ≡ true) × (is_link_on (count_of image) seen next ≡ true) =
    and_parts (not (is_extra_wrong image k)) (is_link_on (count_of image) seen next) goes in
    let two : (not (next == 0) ≡ true) × (nat_le next (count_of image) && not (list_any (λ j. j == next) seen) ≡ true) =
    and_parts (not (next == 0)) (nat_le next (count_of image) && not (list_any (λ j. j == next) seen)) one.1 in
    let three : (nat_le next (count_of image) ≡ true) × (not (list_any (λ j. j == next) seen) ≡ true) =
    and_parts (nat_le next (count_of image)) (not (list_any (λ j. j == next) seen)) two.1 in
    leb-true next (count_of image) three.0

walked-same : (old new : Image) → KeepsLinks old new → 1 ≤ count_of old → (most : ℕ) (seen : List ℕ) (k : ℕ) → k ≤ count_of old
    → walked most new seen k ≡ walked most old seen k
unfolding walked
walked-same old new keeps some zero seen k within = refl
walked-same old new keeps some (suc most) seen k within =
    by_test (goes_on old (seen ++ k ∷ []) k) (goes_on new (seen ++ k ∷ []) k) (goes_on-same old new keeps some (seen ++ k ∷ []) k within)
    (λ goes. ap (walked most new (seen ++ k ∷ [])) (keeps.next k within) ∙ walked-same old new keeps some most (seen ++ k ∷ [])
    (next_of old k) (link-within old (seen ++ k ∷ []) k goes))
  where
    by_test : (b c : Bool) → c ≡ b
        → (b ≡ true → walked most new (seen ++ k ∷ []) (next_of new k) ≡ walked most old (seen ++ k ∷ []) (next_of old k))
        → (if c then walked most new (seen ++ k ∷ []) (next_of new k) else seen ++ k ∷ [])
        ≡ (if b then walked most old (seen ++ k ∷ []) (next_of old k) else seen ++ k ∷ [])
    by_test true true same more = more refl
    by_test true false same more = absurd (let no : false ≡ true = same in cc)
    by_test false true same more = absurd (let no : true ≡ false = same in cc)
    by_test false false same more = refl

-- so the same segments are visited
pub visited-same : (old new : Image) → KeepsLinks old new → 1 ≤ count_of old → visited new ≡ visited old
visited-same old new keeps some = walked-same old new keeps some 31 [] 1 some

-- those that are visited are segments that there are
pub visited-low : (image : Image) (place k : ℕ) → IsSoundImage image → slice_get (visited image) place ≡ Some k → k ≤ count_of image
visited-low image place k sound at = omega (arith, (sound.each place k at).low, sound.highest)

end-same : (old new : Image) → KeepsLinks old new → visited new ≡ visited old
    → ((j k : ℕ) → slice_get (visited old) j ≡ Some k → KeepsAreas old new k)
    → (place : ℕ) → place < length (visited old) → end_before new place ≡ end_before old place
unfolding end_before
end-same old new keeps visits areas zero within = ap (λ n. 6 + 2 * n) keeps.count
end-same old new keeps visits areas (suc place) within =
    let k : ℕ = get_or (visited old) place 0 in
    ap (λ (ks : List ℕ). areas_end (segment_of new (get_or ks place 0))) visits
    ∙ (areas place k (slice_get-get_or (visited old) place 0 (omega (arith, within)))).end

-- an image without faults stays one
pub sound-kept : (old new : Image) → IsSoundImage old → KeepsLinks old new
    → ((j k : ℕ) → slice_get (visited old) j ≡ Some k → KeepsAreas old new k) → IsSoundImage new
sound-kept old new sound keeps areas = record {
  sized = record {
    some = omega (arith, sound.sized.some, keeps.count);
    few = omega (arith, sound.sized.few, keeps.count);
    within = omega (arith, sound.sized.within, keeps.count, keeps.size);
  };
  highest = omega (arith, sound.highest, keeps.count, keeps.highest);
  each = λ place k at. each place k (ap (λ (ks : List ℕ). slice_get ks place) (sym visits) ∙ at);
}
  where
    some : 1 ≤ count_of old
    some = sound.sized.some

    visits : visited new ≡ visited old
    visits = visited-same old new keeps some

    each : (place k : ℕ) → slice_get (visited old) place ≡ Some k → IsSoundAt new place k
    each place k at =
        let here = sound.each place k at in
        let area = areas place k at in
        let low : k ≤ count_of old = visited-low old place k sound at in
        let long : place < length (visited old) = slice_get_within (visited old) place k at in
        record {
          right = extra-same old new keeps some k low ∙ here.right;
          link_in = omega (arith, here.link_in, keeps.next k low, keeps.count);
          link_on = λ earlier order back.
              here.link_on earlier order (ap (λ (ks : List ℕ). slice_get ks earlier) (sym visits) ∙ back ∙ ap Some (keeps.next k low));
          ends = area.ends;
          begins = omega (arith, here.begins, area.first, end-same old new keeps visits areas place long);
          low = omega (arith, here.low, keeps.highest);
          one_kind = area.one_kind;
          within = λ i e is. omega (arith, area.within i e is, keeps.size);
        }

-- a segment with the words that it had
pub keeps-words : (old new : Image) (place k : ℕ) → IsSoundImage old → slice_get (visited old) place ≡ Some k
    → segment_words new k ≡ segment_words old k → KeepsAreas old new k
keeps-words old new place k sound at same =
    let here = sound.each place k at in
    let seg : segment_of new k ≡ segment_of old k = ap (segment_with k) same in
    record {
      first = λ i. (seg i).first;
      end = ap areas_end seg;
      ends = subst (λ (s : List ℕ). HasEnd (extra_bytes s) s) (sym same) here.ends;
      one_kind = λ i e is. here.one_kind i e (ap (λ (s : Segment). slice_get s.entries i) (sym seg) ∙ is);
      within = λ i e is. omega (
        arith,
        here.within i e (ap (λ (s : Segment). slice_get s.entries i) (sym seg) ∙ is),
        ap (λ (s : Segment). area_start s (i + 1)) seg,
      );
    }
