-- A file is made.
use Rattle.std.proofs.Common.{◌≡◌, ℕ, ◌+◌, ◌-◌, ◌*◌, ◌<◌, ◌≤◌, ◌==◌, ◌&&◌, Bool, true, false, not, nat_le, if◌then◌else◌, List, [], length}
use Rattle.std.proofs.Common.{get_or, take, slice_range, refl, sym, ◌∙◌, ap, subst, arith}
use Rattle.std.specs.List.{All}
use Rattle.std.proofs.Math.Nat.{mul-le-mul_right, div-mul-le_self}
use Rattle.std.proofs.Math.Seq.{take-length}
use Rattle.std.proofs.lemmas.Bool.{and_parts, leb-true, leb-false}
use Rattle.std.proofs.lemmas.Option.{slice_get-get_or}
use Rattle.std.proofs.lemmas.Slice.{between_from_start}
use Rattle.f11_dev.specs.Image.{Image}
use Rattle.rt11_volume.specs.Directory.{segment_of, extra_of}
use Rattle.rt11_volume.specs.Rewriting.Draft.{IsRewritten}
use Rattle.rt11_volume.specs.Entry.{status, is_one_kind, is_empty, area_length, is_file_named, entry_size}
use Rattle.rt11_volume.specs.Files.{HasArea, CreatesFile}
use Rattle.rt11_volume.specs.InHand.{KeepsOthers}
use Rattle.rt11_volume.specs.Searching.Looking.{segments_of, found_segment, IsFirstFound}
use Rattle.rt11_volume.specs.Operations.{entry_at, most_entries, needs_split, segments_with_file, with_entries, with_file, with_new_file}
use Rattle.rt11_volume.specs.Searching.Search.{HasNone, is_empty_for}
use Rattle.rt11_volume.specs.Segment.{Segment, segment_words, segment_with, entries, extra_bytes, entry_place, entry_room}
use Rattle.rt11_volume.specs.Store.{RtStore, rt_store_of}
use Rattle.rt11_volume.specs.declared.lookup.entry.Found.{Found}
use Rattle.rt11_volume.proofs.DeleteLemmas.{extra-first}
use Rattle.rt11_volume.proofs.Rewriting.Edit.{with-sum, with-kinds}
use Rattle.rt11_volume.proofs.Searching.File.{first-found, no-file-found}
use Rattle.rt11_volume.proofs.Rewriting.Rewrite.{Rewrites, IsAsLong, rewritten-sound, rewritten-store}
use Rattle.rt11_volume.proofs.Verifying.Sound.{IsSoundImage, accepted_from}

-- the area that was found
unfoldable pub area-found : (blocks : ℕ) (image : Image) (found : Found) → IsFirstFound (is_empty_for blocks) image found
    → HasArea blocks (rt_store_of image)
unfolding rt_store_of
area-found blocks image found is = record {
  place = is.place;
  i = found.i;
  segment = segment_of image found.number;
  entry = get_or (segment_of image found.number).entries found.i [];
  first = first-found (is_empty_for blocks) image found is;
}

-- it is long enough
pub area-fits : (blocks : ℕ) (es : List (List ℕ)) (i : ℕ) → is_empty_for blocks (entry_at es i) ≡ true
    → blocks ≤ area_length (entry_at es i)
area-fits blocks es i is =
    leb-true blocks (area_length (entry_at es i)) (and_parts (is_empty (entry_at es i)) (nat_le blocks (area_length (entry_at es i))) is).1

-- an entry more has room in a segment with fewer than the most
pub room-more : (extra n : ℕ) → n < most_entries extra → 5 + (n + 1) * entry_size extra < 512
room-more extra n fewer =
    let all : entry_room extra * entry_size extra ≤ 507 = div-mul-le_self 507 (entry_size extra) in
    let h : (n + 1 + 1) * entry_size extra ≤ entry_room extra * entry_size extra =
    mul-le-mul_right (entry_size extra) (omega (arith, fewer)) in
    omega (arith, all, h)

-- all entries of a segment
pub slice_whole : (es : List (List ℕ)) (n : ℕ) → n ≡ length es → slice_range es 0 n ≡ es
slice_whole es n all = between_from_start es n ∙ ap (λ k. take k es) all ∙ take-length es

-- the store with a file where no split is needed
new-file-here : (store : RtStore) (place i : ℕ) (seg : Segment) (name : List ℕ) (blocks day : ℕ)
    → needs_split store.extra seg i blocks ≡ false
    → record store { segments = with_entries store.segments place (with_file store.extra seg.entries i name blocks day) } ≡ with_new_file
    store place i seg name blocks day
unfolding with_new_file segments_with_file
new-file-here store place i seg name blocks day here = rw here refl

-- the file was made in its segment
pub created-here : (name : List ℕ) (blocks day : ℕ) (old new : Image) (found : Found) (segment : List ℕ) (count : ℕ) → IsSoundImage old
    → length name ≡ 3 → IsFirstFound (is_empty_for blocks) old found → HasNone (is_file_named name) (segments_of old)
    → needs_split (extra_bytes found.segment) (found_segment found) found.i blocks ≡ false → length new ≡ length old
    → KeepsOthers found.number old new → segment_words new found.number ≡ segment
    → count ≡ length (found_segment found).entries
    → IsRewritten (take 5 found.segment)
    (with_file (extra_bytes found.segment) (slice_range (found_segment found).entries 0 count) (found.i - 0) name blocks day) segment
    → CreatesFile name blocks day old new
unfolding area-found rt_store_of
created-here name blocks day old new found segment count sound three is none here size kept words all written = record {
  no_file = no-file-found (is_file_named name) old none;
  area = area-found blocks old found is;
  fits = λ needs. absurd (let clash : true ≡ false = sym needs ∙ no_split in cc);
  store_is = rewritten-store old new is.place k es sound is.visited_at rewrites
      ∙ ap (λ x. record (rt_store_of old)
      { segments = with_entries (rt_store_of old).segments is.place (with_file x (segment_of old k).entries found.i name blocks day) })
      extra
      ∙ new-file-here (rt_store_of old) is.place found.i (segment_of old k) name blocks day no_split;
  accepted = accepted_from new (rewritten-sound old new k es sound rewrites long);
}
  where
    k : ℕ
    k = found.number

    es : List (List ℕ)
    es = with_file (extra_bytes (segment_words old k)) (segment_of old k).entries found.i name blocks day

    inside : found.i < length (segment_of old k).entries
    inside = is.first.inside

    extra : extra_bytes (segment_words old k) ≡ extra_of old
    extra = extra-first old k (sound.each is.place k is.visited_at).right

    no_split : needs_split (extra_of old) (segment_of old k) found.i blocks ≡ false
    no_split =
        subst (λ x. needs_split x (segment_of old k) found.i blocks ≡ false) extra
        (subst (λ (s : List ℕ). needs_split (extra_bytes s) (segment_with k s) found.i blocks ≡ false) is.words_are here)

    rewrites : Rewrites old new k es
    rewrites = record {
      size = size;
      kept = kept;
      written = subst (IsRewritten (take 5 (segment_words old k)) es) (sym words)
          (subst (λ (s : List ℕ). IsRewritten (take 5 s) (with_file (extra_bytes s) (entries (extra_bytes s) s) found.i name blocks day)
          segment) is.words_are
          (subst (λ xs. IsRewritten (take 5 found.segment) (with_file (extra_bytes found.segment) xs found.i name blocks day) segment)
          (slice_whole (found_segment found).entries count all)
          (subst (λ n. IsRewritten (take 5 found.segment)
          (with_file (extra_bytes found.segment) (slice_range (found_segment found).entries 0 count) n name blocks day) segment)
          (let n : found.i - 0 ≡ found.i = omega arith in n) written)));
    }

    long : IsAsLong old k es
    long = record {
      sum = with-sum (extra_bytes (segment_words old k)) (segment_of old k).entries found.i name blocks day inside three
          (area-fits blocks (segment_of old k).entries found.i is.first.passes);
      some = omega (arith, inside);
      one_kind = with-kinds (extra_bytes (segment_words old k)) (segment_of old k).entries found.i name blocks day kinds;
    }
      where
        kinds : All (λ e. is_one_kind (status e) ≡ true) (segment_of old k).entries
        kinds i d within =
            (sound.each is.place k is.visited_at).one_kind i (get_or (segment_of old k).entries i d)
            (slice_get-get_or (segment_of old k).entries i d within)

-- where no split is needed there is room
pub room-here : (extra n count blocks area : ℕ) → count ≡ n → not (blocks == area) && nat_le (most_entries extra) n ≡ false
    → entry_place extra n < 512
    → 5 + (count - 0 + (if blocks == area then 0 else 1)) * entry_size extra < 512
room-here extra n count blocks area all none place = by_test (blocks == area) none
  where
    by_test : (b : Bool) → not b && nat_le (most_entries extra) n ≡ false → 5 + (count - 0 + (if b then 0 else 1)) * entry_size extra < 512
    by_test true fits = subst (λ k. 5 + k * entry_size extra < 512) (let k : n ≡ count - 0 + 0 = omega (arith, all) in k) place
    by_test false few =
        subst (λ k. 5 + k * entry_size extra < 512) (let k : n + 1 ≡ count - 0 + 1 = omega (arith, all) in k)
        (room-more extra n (leb-false (most_entries extra) n few))
