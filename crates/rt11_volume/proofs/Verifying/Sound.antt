-- An image without faults, by what holds of it.
use Rattle.std.proofs.Common.{◌≡◌, inl, inr, ⊎_elim, ℕ, ◌+◌, ◌*◌, ◌<◌, ◌≤◌, true, false, min, List, length, Some, sym, ◌∙◌, arith}
use Rattle.std.specs.List.{slice_get}
use Rattle.std.proofs.lemmas.Bool.{cases_lt, false_from_ne_true, true_from_ne_false}
use Rattle.f11_dev.specs.Image.{Image}
use Rattle.rt11_volume.specs.Directory.{count_of, next_of, visited, segment_of, is_extra_wrong, IsSized, end_before, IsJudged}
use Rattle.rt11_volume.specs.Entry.{status, is_one_kind}
use Rattle.rt11_volume.specs.Verifying.Faults.{IsDirectoryFault, IsWrong, IsHighestBelow, IsHighestAbove}
use Rattle.rt11_volume.specs.Verifying.Faults.IsDirectoryFault.{links_outside, links_back, extra_wrong, no_end, status_wrong, area_outside}
use Rattle.rt11_volume.specs.Verifying.Faults.IsDirectoryFault.{begins_early, highest_wrong}
use Rattle.rt11_volume.specs.Segment.{segment_words, highest_segment, extra_bytes, HasEnd, area_start}
use Rattle.rt11_volume.specs.Verifying.Verdict.{IsRtFault, IsRtAccepted}
use Rattle.rt11_volume.specs.Verifying.Verdict.IsRtFault.{size_wrong, of_directory}
use Rattle.rt11_volume.proofs.Rewriting.Entries.{HasEnd-stable}

-- What holds of the segment visited at a place, where nothing is wrong with it.
pub record IsSoundAt (image : Image) (place k : ℕ) : Type 0 where
  pub right : is_extra_wrong image k ≡ false
  pub link_in : next_of image k ≤ count_of image
  pub link_on : (earlier : ℕ) → earlier ≤ place → slice_get (visited image) earlier ≡ Some (next_of image k) → ⊥
  pub ends : HasEnd (extra_bytes (segment_words image k)) (segment_words image k)
  pub begins : end_before image place ≤ (segment_of image k).first
  pub low : k ≤ highest_segment (segment_words image 1)
  pub one_kind : (i : ℕ) (e : List ℕ) → slice_get (segment_of image k).entries i ≡ Some e → is_one_kind (status e) ≡ true
  pub within : (i : ℕ) (e : List ℕ) → slice_get (segment_of image k).entries i ≡ Some e
      → area_start (segment_of image k) (i + 1) ≤ min (length image) 65535

-- What holds of an image with which nothing is wrong.
pub record IsSoundImage (image : Image) : Type 0 where
  pub sized : IsSized image
  pub highest : highest_segment (segment_words image 1) ≤ count_of image
  pub each : (place k : ℕ) → slice_get (visited image) place ≡ Some k → IsSoundAt image place k

-- a number is no greater where it can't be greater
not_less : (a b : ℕ) → (b < a → ⊥) → a ≤ b
not_less a b none = elim (cases_lt b a) [ inl less ↦ absurd (none less) | inr more ↦ more ]

sized_from : (image : Image) → IsRtAccepted image → IsSized image
sized_from image accepted = record {
  some = not_less 1 (count_of image) (λ less. accepted 1 0 0 (size_wrong (λ s. omega (arith, s.some, less))));
  few = not_less (count_of image) 31 (λ more. accepted 1 0 0 (size_wrong (λ s. omega (arith, s.few, more))));
  within = not_less (6 + 2 * count_of image) (length image) (λ more. accepted 1 0 0 (size_wrong (λ s. omega (arith, s.within, more))));
}

-- an accepted image is sound
pub sound_from : (image : Image) → IsRtAccepted image → IsSoundImage image
sound_from image accepted = record { sized = sized; highest = highest; each = λ place k at. each place k at }
  where
    sized : IsSized image
    sized = sized_from image accepted

    none : (code a b : ℕ) → IsDirectoryFault image code a b → ⊥
    none code a b fault = accepted code a b (of_directory code a b sized fault)

    right : (place k : ℕ) → slice_get (visited image) place ≡ Some k → is_extra_wrong image k ≡ false
    right place k at = false_from_ne_true (is_extra_wrong image k)
        (λ wrong. none 4 k 0 (extra_wrong k (record { place = place; visited_at = at; wrong = wrong })))

    all_right : (k : ℕ) → ¬ IsWrong image k
    all_right k wrong = none 4 k 0 (extra_wrong k wrong)

    highest : highest_segment (segment_words image 1) ≤ count_of image
    highest = not_less _ _ (λ more. none 9 0 0 (highest_wrong all_right (inr more)))

    each : (place k : ℕ) → slice_get (visited image) place ≡ Some k → IsSoundAt image place k
    each place k at =
        let judged : IsJudged image place k = record { visited_at = at; right = right place k at } in
        let s : List ℕ = segment_words image k in
        record {
          right = right place k at;
          link_in = not_less _ _ (λ more. none 2 k 0 (links_outside place k judged more));
          link_on = λ earlier order back. none 3 k 0
              (links_back place k judged (record { earlier = earlier; order = order; visited_at = back }));
          ends = HasEnd-stable (extra_bytes s) s (λ none_there. none 5 k 0 (no_end place k judged none_there));
          begins = not_less _ _ (λ early. none 8 k 0 (begins_early place k judged early));
          low = not_less _ _
              (λ above. none 9 0 0 (highest_wrong all_right (inl (record { place = place; segment = k; visited_at = at; below = above }))));
          one_kind = λ i e is. true_from_ne_false (is_one_kind (status e))
              (λ wrong. none 6 k i (status_wrong place k i e (record { judged = judged; entry_is = is }) wrong));
          within = λ i e is. not_less _ _ (λ outside. none 7 k i
              (area_outside place k i e (record { judged = judged; entry_is = is }) outside));
        }

-- a sound image is accepted
pub accepted_from : (image : Image) → IsSoundImage image → IsRtAccepted image
accepted_from image sound = λ code a b fault. judge code a b fault
  where
    faultless : (code a b : ℕ) → IsDirectoryFault image code a b → ⊥
    faultless _ _ _ (links_outside place k judged outside) = omega (arith, outside, (sound.each place k judged.visited_at).link_in)
    faultless _ _ _ (links_back place k judged back) =
        (sound.each place k judged.visited_at).link_on back.earlier back.order back.visited_at
    faultless _ _ _ (extra_wrong k wrong) = let is : true ≡ false = sym wrong.wrong ∙ (sound.each wrong.place k wrong.visited_at).right in
        cc
    faultless _ _ _ (no_end place k judged none) = none (sound.each place k judged.visited_at).ends
    faultless _ _ _ (status_wrong place k i entry is wrong) = let same : true ≡ false = sym
        ((sound.each place k is.judged.visited_at).one_kind i entry is.entry_is) ∙ wrong in cc
    faultless _ _ _ (area_outside place k i entry is outside) = omega
        (arith, outside, (sound.each place k is.judged.visited_at).within i entry is.entry_is)
    faultless _ _ _ (begins_early place k judged early) = omega (arith, early, (sound.each place k judged.visited_at).begins)
    faultless _ _ _ (highest_wrong none wrong) = ⊎_elim
        (λ (below : IsHighestBelow image). omega (arith, below.below, (sound.each below.place below.segment below.visited_at).low))
        (λ (above : IsHighestAbove image). omega (arith, above, sound.highest)) wrong

    judge : (code a b : ℕ) → IsRtFault image code a b → ⊥
    judge _ _ _ (size_wrong unsized) = unsized sound.sized
    judge _ _ _ (of_directory code a b sized fault) = faultless code a b fault
