-- A file is deleted.
use Rattle.std.proofs.Common.{◌≡◌, ⊎_elim, ℕ, ◌+◌, ◌*◌, ◌%◌, ◌<◌, ◌≤◌, ◌==◌, ◌||◌, Bool, true, false, not, nat_lt, List, [], length, get_or}
use Rattle.std.proofs.Common.{take, sym, ◌∙◌, ap, subst, arith}
use Rattle.std.specs.List.{All}
use Rattle.std.proofs.lemmas.Bool.{or_parts, eqb-true, not-false}
use Rattle.std.proofs.lemmas.Option.{slice_get-get_or}
use Rattle.f11_dev.specs.Image.{Image}
use Rattle.rt11_volume.specs.Directory.{segment_of, count_of, extra_of, is_extra_wrong, KeepsData}
use Rattle.rt11_volume.specs.Rewriting.Draft.{IsRewritten}
use Rattle.rt11_volume.specs.Entry.{status, is_one_kind, is_protected, is_file_named}
use Rattle.rt11_volume.specs.Files.{file_area, DeletesFile, IsProtectedFile}
use Rattle.rt11_volume.specs.InHand.{KeepsOthers}
use Rattle.rt11_volume.specs.Searching.Looking.{found_entry, IsFirstFound}
use Rattle.rt11_volume.specs.Operations.{with_entries, with_area_emptied, without_file}
use Rattle.rt11_volume.specs.Segment.{Segment, segment_words, segment_with, areas_end, entries, extra_bytes, HasEnd}
use Rattle.rt11_volume.specs.Store.{rt_store_of, area_at}
use Rattle.rt11_volume.specs.declared.lookup.entry.Found.{Found}
use Rattle.rt11_volume.proofs.Rewriting.Edit.{without-sum, without-kinds}
use Rattle.rt11_volume.proofs.Searching.File.{found-segment, file-found}
use Rattle.rt11_volume.proofs.Rewriting.Rewrite.{Rewrites, IsAsLong, areas-end-low, rewritten-sound, rewritten-store}
use Rattle.rt11_volume.proofs.Verifying.Sound.{IsSoundImage, accepted_from}

-- whether the file in hand is protected
file-protected : (name : List ℕ) (image : Image) (found : Found) (is : IsFirstFound (is_file_named name) image found)
    → is_protected (found_entry found) ≡ (file_area (file-found name image found is)).protected
unfolding area_at file-found
file-protected name image found is =
    ap (λ (seg : Segment). is_protected (get_or seg.entries found.i [])) (found-segment (is_file_named name) image found is)

pub protected-found : (name : List ℕ) (image : Image) (found : Found) → IsFirstFound (is_file_named name) image found
    → is_protected (found_entry found) ≡ true → IsProtectedFile name (rt_store_of image)
protected-found name image found is protected =
    record { file = file-found name image found is; protected = sym (file-protected name image found is) ∙ protected }

-- the segment in hand of a sound image has an end
pub found-ends : (test : List ℕ → Bool) (image : Image) (found : Found) → IsSoundImage image → IsFirstFound test image found
    → HasEnd (extra_bytes found.segment) found.segment
found-ends test image found sound is =
    subst (λ (s : List ℕ). HasEnd (extra_bytes s) s) (sym is.words_are) (sound.each is.place found.number is.visited_at).ends

-- the directory alone was written
pub others-data : (k : ℕ) (old : Image) (image : Image) → 0 < k → k ≤ count_of old → KeepsOthers k old image
    → KeepsData (count_of old) old image
others-data k old image some low kept = λ lbn place.
    kept lbn (λ same. ⊎_elim (λ (before : lbn < 6). omega (arith, before, same, some))
    (λ (behind : 6 + 2 * count_of old ≤ lbn). omega (arith, behind, same, low)) place)
    (λ same. ⊎_elim (λ (before : lbn < 6). omega (arith, before, same, some))
    (λ (behind : 6 + 2 * count_of old ≤ lbn). omega (arith, behind, same, low)) place)

-- each segment has the extra bytes of segment 1
pub extra-first : (image : Image) (k : ℕ) → is_extra_wrong image k ≡ false → extra_bytes (segment_words image k) ≡ extra_of image
extra-first image k right =
    let extra : ℕ = extra_bytes (segment_words image k) in
    let one = or_parts (extra % 2 == 1) (nat_lt 128 extra || not (extra == extra_of image)) right in
    let two = or_parts (nat_lt 128 extra) (not (extra == extra_of image)) one.1 in
    eqb-true extra (extra_of image) (not-false (extra == extra_of image) two.1)

-- the file was deleted
pub deleted : (name : List ℕ) (old new : Image) (found : Found) (segment : List ℕ) → IsSoundImage old
    → IsFirstFound (is_file_named name) old found → is_protected (found_entry found) ≡ false
    → length new ≡ length old → KeepsOthers found.number old new → segment_words new found.number ≡ segment
    → (areas_end (segment_with 0 found.segment) ≤ 65535
    → IsRewritten (take 5 found.segment)
    (without_file (extra_bytes found.segment) (entries (extra_bytes found.segment) found.segment) found.i) segment)
    → DeletesFile name old new
unfolding with_area_emptied rt_store_of file-found
deleted name old new found segment sound is unprotected size kept words written = record {
  file = file-found name old found is;
  unprotected = sym (file-protected name old found is) ∙ unprotected;
  store_is = rewritten-store old new is.place k es sound is.visited_at rewrites
      ∙ ap (λ x. record (rt_store_of old)
      { segments = with_entries (rt_store_of old).segments is.place (without_file x (segment_of old k).entries found.i) }) extra;
  accepted = accepted_from new (rewritten-sound old new k es sound rewrites long);
}
  where
    k : ℕ
    k = found.number

    es : List (List ℕ)
    es = without_file (extra_bytes (segment_words old k)) (segment_of old k).entries found.i

    inside : found.i < length (segment_of old k).entries
    inside = is.first.inside

    extra : extra_bytes (segment_words old k) ≡ extra_of old
    extra = extra-first old k (sound.each is.place k is.visited_at).right

    low : areas_end (segment_of old k) ≤ 65535
    low = omega (arith, areas-end-low old is.place k sound is.visited_at (omega (arith, inside)))

    here : areas_end (segment_with 0 found.segment) ≤ 65535
    here = subst (λ (s : List ℕ). areas_end (segment_with 0 s) ≤ 65535) (sym is.words_are) low

    rewrites : Rewrites old new k es
    rewrites = record {
      size = size;
      kept = kept;
      written = subst (IsRewritten (take 5 (segment_words old k)) es) (sym words)
          (subst (λ (s : List ℕ). IsRewritten (take 5 s) (without_file (extra_bytes s) (entries (extra_bytes s) s) found.i) segment)
          is.words_are (written here));
    }

    long : IsAsLong old k es
    long = record {
      sum = without-sum (extra_bytes (segment_words old k)) (segment_of old k).entries found.i inside;
      some = omega (arith, inside);
      one_kind = without-kinds (extra_bytes (segment_words old k)) (segment_of old k).entries found.i kinds;
    }
      where
        kinds : All (λ e. is_one_kind (status e) ≡ true) (segment_of old k).entries
        kinds i d within =
            (sound.each is.place k is.visited_at).one_kind i (get_or (segment_of old k).entries i d)
            (slice_get-get_or (segment_of old k).entries i d within)
