-- A file made where its segment is split.
use Rattle.std.proofs.Common.{◌≡◌, ◌⊎◌, ⊎_elim, inl, inr, ℕ, ◌+◌, ◌*◌, ◌/◌, ◌%◌, ◌<◌, ◌≤◌, ◌==◌, ◌&&◌, ◌||◌, true, false, not, nat_le}
use Rattle.std.proofs.Common.{nat_lt, if◌then◌else◌, List, [], ◌∷◌, ◌++◌, length, get_or, map, take, drop, sum_by, Some, sym, ◌∙◌, ap}
use Rattle.std.proofs.Common.{subst, arith}
use Rattle.std.specs.Prelude.{slice_set}
use Rattle.std.specs.List.{All, slice_get}
use Rattle.std.proofs.lemmas.Bool.{and_parts, cases_lt, leb-true, lt-leb, ltb-false, or_parts}
use Rattle.std.proofs.lemmas.List.{length-map}
use Rattle.std.proofs.lemmas.List.Sums.{sum_by-take-le}
use Rattle.std.proofs.lemmas.Option.{slice_get_within, slice_get-get_or}
use Rattle.std.proofs.lemmas.Slice.{between_from_start}
use Rattle.f11_dev.specs.Disk.{Disk}
use Rattle.f11_dev.specs.Image.{Image, image_block}
use Rattle.rt11_volume.specs.Directory.{segment_of, count_of, extra_of, visited, data_start, is_extra_wrong, KeepsData}
use Rattle.rt11_volume.specs.Rewriting.Draft.{IsRewritten}
use Rattle.rt11_volume.specs.Entry.{status, is_one_kind, area_length, is_file_named}
use Rattle.rt11_volume.specs.Files.{CreatesFile, IsDirectoryFull}
use Rattle.rt11_volume.specs.Searching.Looking.{segments_of, found_segment, IsFirstFound}
use Rattle.rt11_volume.specs.Operations.{entry_at, kept_of, most_entries, needs_split, with_new_file}
use Rattle.rt11_volume.specs.Searching.Search.{HasNone, is_empty_for}
use Rattle.rt11_volume.specs.Segment.{Segment, segment_words, segment_with, segment_count, segment_lbn, highest_segment, entries}
use Rattle.rt11_volume.specs.Segment.{entry_room, extra_bytes, area_start}
use Rattle.rt11_volume.specs.Rewriting.Split.{HasNext, IsApart, KeepsSplit, SplitsHere, back_header, front_header, half_with}
use Rattle.rt11_volume.specs.Store.{rt_store_of}
use Rattle.rt11_volume.specs.declared.rewrite.edit.NewFile.{NewFile}
use Rattle.rt11_volume.specs.declared.lookup.entry.Found.{Found}
use Rattle.rt11_volume.proofs.CreateLemmas.{area-found, area-fits}
use Rattle.rt11_volume.proofs.DeleteLemmas.{extra-first}
use Rattle.rt11_volume.proofs.Rewriting.Entries.{room-place}
use Rattle.rt11_volume.proofs.Searching.File.{no-file-found}
use Rattle.rt11_volume.proofs.Rewriting.Rewrite.{areas-end-low, words-kept}
use Rattle.rt11_volume.proofs.Verifying.Sound.{IsSoundAt, IsSoundImage, accepted_from}
use Rattle.rt11_volume.proofs.Splitting.Disk.{all-kept}
use Rattle.rt11_volume.proofs.Splitting.File.{half-sum, half-kinds, halves-sum, split-file}
use Rattle.rt11_volume.proofs.Splitting.Sound.{SplitsAreas, split-sound, split-segments}
use Rattle.rt11_volume.proofs.Splitting.Write.{AreHalves, WritesHalves, halves-areas}
use Rattle.rt11_volume.proofs.Walking.Walk.{visited-first_one, visited-some}

-- segment 1 is one of those in use
first-in_use : (image : Image) (place k : ℕ) → IsSoundImage image → slice_get (visited image) place ≡ Some k
    → 1 ≤ highest_segment (segment_words image 1)
first-in_use image place k sound at =
    let inside = slice_get_within (visited image) place k at in
    (sound.each 0 1 (slice_get-get_or (visited image) 0 0 (omega (arith, inside)) ∙ ap Some (visited-first_one image sound))).low

-- the directory alone was written
pub split-data : (k number : ℕ) (old image : Image) → 0 < k → k ≤ count_of old → 0 < number → number ≤ count_of old
    → KeepsSplit k number old image → KeepsData (count_of old) old image
split-data k number old image some low more high kept =
    λ lbn place. kept lbn (apart 1 lbn (omega arith) (omega (arith, more, high)) place) (apart k lbn some low place)
    (apart number lbn more high place)
  where
    apart : (j lbn : ℕ) → 0 < j → j ≤ count_of old → (lbn < 6) ⊎ (6 + 2 * count_of old ≤ lbn) → IsApart lbn j
    apart j lbn first within place = record {
      low = λ same. ⊎_elim (λ (before : lbn < 6). omega (arith, before, same, first))
          (λ (behind : 6 + 2 * count_of old ≤ lbn). omega (arith, behind, same, within)) place;
      high = λ same. ⊎_elim (λ (before : lbn < 6). omega (arith, before, same, first))
          (λ (behind : 6 + 2 * count_of old ≤ lbn). omega (arith, behind, same, within)) place;
    }

-- a segment without room for one more entry has two at least
pub entries-some : (image : Image) (k n area blocks : ℕ) → is_extra_wrong image k ≡ false
    → not (blocks == area) && nat_le (most_entries (extra_bytes (segment_words image k))) n ≡ true → 2 ≤ n
entries-some image k n area blocks right needs =
    let extra : ℕ = extra_bytes (segment_words image k) in
    let one = or_parts (extra % 2 == 1) (nat_lt 128 extra || not (extra == extra_of image)) right in
    let two = or_parts (nat_lt 128 extra) (not (extra == extra_of image)) one.1 in
    let few = ltb-false 128 extra two.0 in
    let room : 2 < entry_room extra = (room-place extra 2).1 (omega (arith, few)) in
    let full = leb-true (most_entries extra) n (and_parts (not (blocks == area)) (nat_le (most_entries extra) n) needs).1 in
    omega (arith, room, full)

-- no segment is left
pub directory-full : (name : List ℕ) (blocks : ℕ) (old : Image) (found : Found) (first : List ℕ) (size : ℕ) → IsSoundImage old
    → IsFirstFound (is_empty_for blocks) old found → HasNone (is_file_named name) (segments_of old)
    → needs_split (extra_bytes found.segment) (found_segment found) found.i blocks ≡ true → first ≡ segment_words old 1 → size ≡ length old
    → (HasNext found first size → ⊥) → IsDirectoryFull name blocks (rt_store_of old)
unfolding area-found rt_store_of
directory-full name blocks old found first size sound is none needs first_is size_is lacks = record {
  no_file = no-file-found (is_file_named name) old none;
  area = area-found blocks old found is;
  needs = subst (λ x. needs_split x (segment_of old k) found.i blocks ≡ true) (extra-first old k at.right) here;
  full = elim (cases_lt (highest_segment (segment_words old 1)) (count_of old)) [
    | inl less ↦ absurd (lacks record {
      some = subst (λ (s : List ℕ). 2 ≤ length (segment_with k s).entries) (sym is.words_are)
          (entries-some old k (length (segment_of old k).entries) _ blocks at.right here);
      room = subst (λ (s : List ℕ). highest_segment s < segment_count s) (sym first_is) less;
      low = subst (λ (s : List ℕ). highest_segment s < 65535) (sym first_is) (omega (arith, less, sound.sized.few));
      within = subst (λ (s : List ℕ). segment_lbn (highest_segment s + 1) + 1 < size) (sym first_is)
          (omega (arith, less, size_is, sound.sized.within));
    })
    | inr more ↦ omega (arith, more, sound.highest)
  ];
}
  where
    k : ℕ
    k = found.number

    at : IsSoundAt old is.place k
    at = sound.each is.place k is.visited_at

    here : needs_split (extra_bytes (segment_words old k)) (segment_of old k) found.i blocks ≡ true
    here = subst (λ (s : List ℕ). needs_split (extra_bytes s) (segment_with k s) found.i blocks ≡ true) is.words_are needs

-- the blocks behind the directory
blocks-split : (old new : Image) (k number : ℕ) → 0 < k → k ≤ count_of old → 0 < number → number ≤ count_of old
    → KeepsSplit k number old new → data_start new ≡ data_start old → (lbn : ℕ)
    → (if nat_le (data_start new) lbn then image_block new lbn else []) ≡ (if nat_le (data_start old) lbn then image_block old lbn else [])
blocks-split old new k number some low more high kept start lbn = elim (cases_lt lbn (data_start old)) [
  | inl before ↦
      let no = lt-leb (data_start old) lbn before in
      (λ t. if nat_le (start t) lbn then image_block new lbn else []) ∙ (λ t. if no t then image_block new lbn else [])
      ∙ (λ t. if sym no t then image_block old lbn else [])
  | inr behind ↦
      let same = split-data k number old new some low more high kept lbn (inr behind) in
      λ t. if nat_le (start t) lbn then same t else []
]

-- the store then
split-store : (old new : Image) (place k number i : ℕ) (name : List ℕ) (blocks day : ℕ) → IsSoundImage old → 0 < k → k ≤ count_of old
    → 1 < number → i < length (segment_of old k).entries
    → needs_split (extra_of old) (segment_of old k) i blocks ≡ true → KeepsSplit k number old new
    → SplitsAreas old new place k number (area_start (segment_of old k) (kept_of (length (segment_of old k).entries)))
    (half_with (extra_of old) (segment_of old k).entries 0 (kept_of (length (segment_of old k).entries)) i name blocks day)
    (half_with (extra_of old) (segment_of old k).entries (kept_of (length (segment_of old k).entries)) (length (segment_of old k).entries) i
    name blocks day)
    → rt_store_of new ≡ with_new_file (rt_store_of old) place i (segment_of old k) name blocks day
unfolding rt_store_of with_new_file
split-store old new place k number i name blocks day sound some low more inside needs kept areas =
    let seg : Segment = segment_of old k in
    let es : List (List ℕ) = seg.entries in
    let keep : ℕ = kept_of (length es) in
    let segs : List Segment = map (segment_of old) (visited old) in
    let front : List (List ℕ) = half_with (extra_of old) es 0 keep i name blocks day in
    let back : List (List ℕ) = half_with (extra_of old) es keep (length es) i name blocks day in
    let high : ℕ = highest_segment (segment_words old 1) in
    let highest : highest_segment (segment_words new 1) ≡ (if needs_split (extra_of old) seg i blocks then high + 1 else high) =
    areas.highest ∙ areas.links.number_is ∙ (λ t. if sym needs t then high + 1 else high) in
    let extra = areas.links.extra 1 (λ e. omega (arith, e, more)) in
    let within = slice_get_within (visited old) place k areas.links.at in
    let long : length segs ≡ length (visited old) = length-map (visited old) (segment_of old) in
    let segments = split-segments old new place k number (area_start seg keep) front back sound areas
    ∙ ap (λ n. take place segs
    ++ (record { number = k; first = seg.first; entries = front } ∷ record { number = n; first = area_start seg keep; entries = back } ∷
    drop (place + 1) segs)) areas.links.number_is
    ∙ split-file (rt_store_of old) place i seg name blocks day (omega (arith, within, long)) inside needs in
    let behind = blocks-split old new k number some low (omega (arith, more)) areas.links.room kept (ap (λ c. 6 + 2 * c) areas.links.count)
    in
    λ t. record { count = areas.links.count t; highest = highest t; extra = extra t; segments = segments t; block = λ n. behind n t }

-- what was written is two halves
halves-written : (old now new : Disk) (found : Found) (first : List ℕ) (number : ℕ) (file : NewFile) → now.image ≡ old.image
    → IsSoundImage old.image → (is : IsFirstFound (is_empty_for file.blocks) old.image found) → first ≡ segment_words old.image 1
    → number ≡ highest_segment (segment_words old.image 1) + 1 → SplitsHere found first number file now new
    → WritesHalves old.image new.image found.number number
    (area_start (segment_of old.image found.number) (kept_of (length (segment_of old.image found.number).entries)))
    (half_with (extra_of old.image) (segment_of old.image found.number).entries 0
    (kept_of (length (segment_of old.image found.number).entries)) found.i file.name file.blocks file.date)
    (half_with (extra_of old.image) (segment_of old.image found.number).entries
    (kept_of (length (segment_of old.image found.number).entries)) (length (segment_of old.image found.number).entries) found.i
    file.name file.blocks file.date)
halves-written old now new found first number file same sound is first_is next split = record {
  size = split.wrote_front.went.size ∙ split.wrote_first.went.size ∙ split.wrote_back.went.size ∙ ap (λ (i : Image). length i) same;
  kept = subst (λ (i : Image). KeepsSplit k number i new.image) same
      (all-kept k number split.back (slice_set first 2 number) split.front split.wrote_back split.wrote_first split.wrote_front);
  front_is =
      subst (IsRewritten (front_header (segment_words old.image k) number)
      (half_with (extra_of old.image) es 0 keep found.i file.name file.blocks file.date)) (sym split.wrote_front.words_are)
      (subst (λ n. IsRewritten (front_header (segment_words old.image k) number)
      (half_with (extra_of old.image) es 0 n found.i file.name file.blocks file.date) split.front) kept
      (subst (λ x. IsRewritten (front_header (segment_words old.image k) number)
      (half_with x es 0 split.kept found.i file.name file.blocks file.date) split.front) extra
      (subst (λ (s : List ℕ). IsRewritten (front_header s number)
      (half_with (extra_bytes s) (entries (extra_bytes s) s) 0 split.kept found.i file.name file.blocks file.date) split.front)
      is.words_are split.front_is)));
  back_is =
      subst (IsRewritten (back_header (segment_words old.image k) number start)
      (half_with (extra_of old.image) es keep (length es) found.i file.name file.blocks file.date)) (sym back)
      (subst (λ n. IsRewritten (back_header (segment_words old.image k) number n)
      (half_with (extra_of old.image) es keep (length es) found.i file.name file.blocks file.date) split.back) begins
      (subst (λ n. IsRewritten (back_header (segment_words old.image k) number split.start)
      (half_with (extra_of old.image) es keep n found.i file.name file.blocks file.date) split.back) count
      (subst (λ n. IsRewritten (back_header (segment_words old.image k) number split.start)
      (half_with (extra_of old.image) es n split.count found.i file.name file.blocks file.date) split.back) kept
      (subst (λ x. IsRewritten (back_header (segment_words old.image k) number split.start)
      (half_with x es split.kept split.count found.i file.name file.blocks file.date) split.back) extra
      (subst (λ (s : List ℕ). IsRewritten (back_header s number split.start)
      (half_with (extra_bytes s) (entries (extra_bytes s) s) split.kept split.count found.i file.name file.blocks file.date) split.back)
      is.words_are split.back_is)))));
  first_is = λ apart. words-kept split.two.image new.image k 1 split.wrote_front.kept apart ∙ split.wrote_first.words_are apart
      ∙ ap (λ (s : List ℕ). slice_set s 2 number) first_is;
}
  where
    k : ℕ
    k = found.number

    es : List (List ℕ)
    es = (segment_of old.image k).entries

    keep : ℕ
    keep = kept_of (length es)

    start : ℕ
    start = area_start (segment_of old.image k) keep

    at : IsSoundAt old.image is.place k
    at = sound.each is.place k is.visited_at

    extra : extra_bytes (segment_words old.image k) ≡ extra_of old.image
    extra = extra-first old.image k at.right

    count : split.count ≡ length es
    count = split.count_is ∙ ap (λ (s : List ℕ). length (segment_with k s).entries) is.words_are

    kept : split.kept ≡ keep
    kept = split.kept_is ∙ ap (λ n. n / 2) count

    starts : area_start (found_segment found) split.kept ≡ start
    starts = ap (λ (s : List ℕ). area_start (segment_with k s) split.kept) is.words_are ∙ ap (area_start (segment_of old.image k)) kept

    begins : split.start ≡ start
    begins =
        let some : 0 < length es = omega (arith, is.first.inside) in
        split.start_is (omega (
          arith,
          starts,
          sum_by-take-le area_length es keep,
          areas-end-low old.image is.place k sound is.visited_at
              some,
        )) ∙ starts

    back : segment_words new.image number ≡ split.back
    back =
        words-kept split.two.image new.image k number split.wrote_front.kept (λ e. omega (arith, e, next, at.low))
        ∙ words-kept split.one.image split.two.image 1 number split.wrote_first.kept
        (λ e. omega (arith, e, next, first-in_use old.image is.place k sound is.visited_at)) ∙ split.wrote_back.words_are

-- and together they are what the segment was
halves-are : (old : Image) (found : Found) (file : NewFile) → IsSoundImage old → length file.name ≡ 3
    → (is : IsFirstFound (is_empty_for file.blocks) old found)
    → AreHalves (segment_of old found.number)
    (area_start (segment_of old found.number) (kept_of (length (segment_of old found.number).entries)))
    (half_with (extra_of old) (segment_of old found.number).entries 0 (kept_of (length (segment_of old found.number).entries)) found.i
    file.name file.blocks file.date)
    (half_with (extra_of old) (segment_of old found.number).entries (kept_of (length (segment_of old found.number).entries))
    (length (segment_of old found.number).entries) found.i file.name file.blocks file.date)
halves-are old found file sound three is = record {
  start_is =
      let front = half-sum (extra_of old) es 0 keep found.i file.name file.blocks file.date half three fits
      ∙ ap (sum_by area_length) (between_from_start es keep) in
      omega (arith, front);
  sum = halves-sum (extra_of old) es keep found.i file.name file.blocks file.date half three fits;
  some = omega (arith, is.first.inside);
  kinds_front = half-kinds (extra_of old) es 0 keep found.i file.name file.blocks file.date kinds;
  kinds_back = half-kinds (extra_of old) es keep (length es) found.i file.name file.blocks file.date kinds;
}
  where
    es : List (List ℕ)
    es = (segment_of old found.number).entries

    keep : ℕ
    keep = kept_of (length es)

    half : keep ≤ length es
    half = omega arith

    fits : file.blocks ≤ area_length (entry_at es found.i)
    fits = area-fits file.blocks es found.i is.first.passes

    kinds : All (λ e. is_one_kind (status e) ≡ true) es
    kinds i d within = (sound.each is.place found.number is.visited_at).one_kind i (get_or es i d) (slice_get-get_or es i d within)

-- the file was made
pub created-split : (old now new : Disk) (found : Found) (first : List ℕ) (number : ℕ) (file : NewFile) → now.image ≡ old.image
    → IsSoundImage old.image → length file.name ≡ 3 → IsFirstFound (is_empty_for file.blocks) old.image found
    → HasNone (is_file_named file.name) (segments_of old.image)
    → needs_split (extra_bytes found.segment) (found_segment found) found.i file.blocks ≡ true → first ≡ segment_words old.image 1
    → highest_segment first < segment_count first → number ≡ highest_segment first + 1 → SplitsHere found first number file now new
    → CreatesFile file.name file.blocks file.date old.image new.image
unfolding area-found rt_store_of
created-split old now new found first number file same sound three is none needs first_is room number_is split =
    let written = halves-written old now new found first number file same sound is first_is next split in
    let areas = halves-areas old.image new.image is.place k number _ _ _ sound is.visited_at next (omega (arith, next, less)) written
    (halves-are old.image found file sound three is) in record {
      no_file = no-file-found (is_file_named file.name) old.image none;
      area = area-found file.blocks old.image found is;
      fits = λ needs. less;
      store_is =
          split-store old.image new.image is.place k number found.i file.name file.blocks file.date sound (omega (arith, sound_low))
          (omega (arith, at.low, sound.highest)) (omega (arith, next, in_use)) is.first.inside
          (subst (λ x. needs_split x (segment_of old.image k) found.i file.blocks ≡ true) (extra-first old.image k at.right)
          (subst (λ (s : List ℕ). needs_split (extra_bytes s) (segment_with k s) found.i file.blocks ≡ true) is.words_are needs))
          written.kept areas;
      accepted = accepted_from new.image (split-sound old.image new.image is.place k number _ _ _ sound areas);
    }
  where
    k : ℕ
    k = found.number

    at : IsSoundAt old.image is.place k
    at = sound.each is.place k is.visited_at

    in_use : 1 ≤ highest_segment (segment_words old.image 1)
    in_use = first-in_use old.image is.place k sound is.visited_at

    sound_low : 0 < k
    sound_low = visited-some old.image is.place k sound is.visited_at

    less : highest_segment (segment_words old.image 1) < count_of old.image
    less = subst (λ (s : List ℕ). highest_segment s < segment_count s) first_is room

    next : number ≡ highest_segment (segment_words old.image 1) + 1
    next = number_is ∙ ap (λ (s : List ℕ). highest_segment s + 1) first_is
