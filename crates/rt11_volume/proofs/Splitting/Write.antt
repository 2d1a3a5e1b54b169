-- What was written of a segment that is split.
use Rattle.std.proofs.Common.{◌≡◌, ◌≢◌, inl, inr, ℕ, ◌+◌, ◌-◌, ◌*◌, ◌<◌, ◌≤◌, true, IsTrue, List, ◌++◌, length, take, slice_index, sum_by}
use Rattle.std.proofs.Common.{Some, sym, ◌∙◌, ap, subst, arith}
use Rattle.std.specs.Prelude.{slice_set, map}
use Rattle.std.specs.List.{All, before_first, range_with_len, slice_get}
use Rattle.std.proofs.lemmas.Bool.{cases_eq}
use Rattle.std.proofs.lemmas.List.{drop-set-lt, get_or-set_same, get_or-set_other, get_or-take}
use Rattle.f11_dev.specs.Image.{Image}
use Rattle.rt11_volume.specs.Directory.{count_of, next_of, visited, segment_of}
use Rattle.rt11_volume.specs.Rewriting.Draft.{IsRewritten}
use Rattle.rt11_volume.specs.Entry.{area_length, status, is_end, is_one_kind}
use Rattle.rt11_volume.specs.Segment.{Segment, segment_words, segment_with, words_in, entries, entry_place, entry_room, extra_bytes}
use Rattle.rt11_volume.specs.Segment.{highest_segment, HasEnd}
use Rattle.rt11_volume.specs.Rewriting.Split.{back_header, front_header, IsApart, KeepsSplit}
use Rattle.rt11_volume.proofs.DeleteLemmas.{extra-first}
use Rattle.rt11_volume.proofs.Verifying.Sound.{IsSoundImage}
use Rattle.rt11_volume.proofs.Splitting.Walk.{SplitsLinks}
use Rattle.rt11_volume.proofs.Splitting.Sound.{SplitsAreas}
use Rattle.rt11_volume.proofs.Rewriting.Words.{length-words_of}

-- another highest segment leaves the entries and the end of a segment as they are
entries-set : (extra : ℕ) (s : List ℕ) (n : ℕ) → entries extra (slice_set s 2 n) ≡ entries extra s
unfolding entries
entries-set extra s n =
    let same = λ (i : ℕ). ap (take (entry_place extra (i + 1) - entry_place extra i))
    (drop-set-lt (entry_place extra i) s 2 n (omega arith)) in
    λ t. before_first (λ e. is_end (status e)) (map (λ i. same i t) (range_with_len 0 (entry_room extra)))

word-set : (s : List ℕ) (n w : ℕ) → w ≢ 2 → slice_index (slice_set s 2 n) w ≡ slice_index s w
word-set s n w apart = get_or-set_other s 2 w n 0 apart

segment-set : (k : ℕ) (s : List ℕ) (n : ℕ) → segment_with k (slice_set s 2 n) ≡ segment_with k s
segment-set k s n =
    let extra = word-set s n 3 (λ e. omega (arith, e)) in
    let first = word-set s n 4 (λ e. omega (arith, e)) in
    let same = ap (λ x. entries x (slice_set s 2 n)) extra ∙ entries-set (extra_bytes s) s n in
    λ t. record { number = k; first = first t; entries = same t }

ends-set : (s : List ℕ) (n : ℕ) → HasEnd (extra_bytes s) s → HasEnd (extra_bytes (slice_set s 2 n)) (slice_set s 2 n)
ends-set s n is =
    subst (λ x. HasEnd x (slice_set s 2 n)) (sym (word-set s n 3 (λ e. omega (arith, e)))) record {
      place = is.place;
      within = is.within;
      end = subst (λ w. IsTrue (is_end w)) (sym (word-set s n (entry_place (extra_bytes s) is.place) (λ e. omega (arith, e)))) is.end;
    }

-- Segment k was written anew in two, and the highest segment in use in segment 1.
pub record WritesHalves (old new : Image) (k number start : ℕ) (front back : List (List ℕ)) : Type 0 where
  pub size : length new ≡ length old
  pub kept : KeepsSplit k number old new
  pub front_is : IsRewritten (front_header (segment_words old k) number) front (segment_words new k)
  pub back_is : IsRewritten (back_header (segment_words old k) number start) back (segment_words new number)
  pub first_is : 1 ≢ k → segment_words new 1 ≡ slice_set (segment_words old 1) 2 number

words-apart : (old new : Image) (k number j : ℕ) → KeepsSplit k number old new → j ≢ 1 → j ≢ k → j ≢ number
    → segment_words new j ≡ segment_words old j
unfolding segment_words
words-apart old new k number j kept a b c =
    let one = kept (4 + 2 * j) (low j 1 a) (low j k b) (low j number c) in
    let two = kept (4 + 2 * j + 1) (high j 1 a) (high j k b) (high j number c) in
    λ i. words_in (one i ++ two i)
  where
    low : (j n : ℕ) → j ≢ n → IsApart (4 + 2 * j) n
    low j n apart = record { low = λ e. apart (omega (arith, e)); high = λ e. omega (arith, e) }

    high : (j n : ℕ) → j ≢ n → IsApart (4 + 2 * j + 1) n
    high j n apart = record { low = λ e. omega (arith, e); high = λ e. apart (omega (arith, e)) }

-- a word of a header that was written
header-word : (header : List ℕ) (es : List (List ℕ)) (s : List ℕ) (w : ℕ) → IsRewritten header es s → w < 5
    → slice_index s w ≡ slice_index header w
header-word header es s w is few = sym (get_or-take 5 s w 0 few) ∙ ap (λ (ws : List ℕ). slice_index ws w) is.header_is

segment-word : (image : Image) (k : ℕ) → length (segment_words image k) ≡ 512
unfolding segment_words
segment-word image k = length-words_of _

-- the segments that were not split
others-kept : (old new : Image) (k number start : ℕ) (front back : List (List ℕ)) → WritesHalves old new k number start front back → (j : ℕ)
    → j ≢ k → j ≢ number
    → (next_of new j ≡ next_of old j) × (segment_of new j ≡ segment_of old j)
    × (extra_bytes (segment_words new j) ≡ extra_bytes (segment_words old j))
    × (HasEnd (extra_bytes (segment_words old j)) (segment_words old j) → HasEnd (extra_bytes (segment_words new j)) (segment_words new j))
others-kept old new k number start front back is j a b = elim (cases_eq j 1) [
  | inl same ↦
      let words : segment_words new j ≡ slice_set (segment_words old j) 2 number = ap (segment_words new) same
      ∙ is.first_is (λ e. a (same ∙ e)) ∙ ap (λ n. slice_set (segment_words old n) 2 number) (sym same) in
      let s : List ℕ = segment_words old j in (
        ap (λ (ws : List ℕ). slice_index ws 1) words ∙ word-set s number 1 (λ e. omega (arith, e)),
        ap (segment_with j) words ∙ segment-set j s number,
        ap (λ (ws : List ℕ). slice_index ws 3) words ∙ word-set s number 3 (λ e. omega (arith, e)),
        (λ ends. subst (λ (ws : List ℕ). HasEnd (extra_bytes ws) ws) (sym words) (ends-set s number ends)),
      )
  | inr apart ↦
      let words = words-apart old new k number j is.kept apart a b in (
        ap (λ (ws : List ℕ). slice_index ws 1) words,
        ap (segment_with j) words,
        ap (λ (ws : List ℕ). slice_index ws 3) words,
        (λ ends. subst (λ (ws : List ℕ). HasEnd (extra_bytes ws) ws) (sym words) ends),
      )
]

-- segment 1
first-count : (old new : Image) (k number start : ℕ) (front back : List (List ℕ)) → WritesHalves old new k number start front back
    → (count_of new ≡ count_of old) × (highest_segment (segment_words new 1) ≡ number)
first-count old new k number start front back is = elim (cases_eq 1 k) [
  | inl same ↦ (
    ap (λ n. slice_index (segment_words new n) 0) same
        ∙ header-word (front_header (segment_words old k) number) front (segment_words new k) 0 is.front_is (omega arith)
        ∙ ap (λ n. slice_index (segment_words old n) 0) (sym same),
    ap (λ n. slice_index (segment_words new n) 2) same
        ∙ header-word (front_header (segment_words old k) number) front (segment_words new k) 2 is.front_is (omega arith),
  )
  | inr apart ↦
      let words = is.first_is apart in (
        ap (λ (ws : List ℕ). slice_index ws 0) words ∙ word-set (segment_words old 1) number 0 (λ e. omega (arith, e)),
        ap (λ (ws : List ℕ). slice_index ws 2) words ∙ get_or-set_same (segment_words old 1) 2 number 0 (omega (arith, segment-word old 1)),
      )
]

-- the links then
halves-links : (old new : Image) (place k number start : ℕ) (front back : List (List ℕ)) → IsSoundImage old
    → slice_get (visited old) place ≡ Some k → number ≡ highest_segment (segment_words old 1) + 1 → number ≤ count_of old
    → WritesHalves old new k number start front back → SplitsLinks old new place k number
halves-links old new place k number start front back sound at next room is = record {
  at = at;
  number_is = next;
  room = room;
  count = (first-count old new k number start front back is).0;
  next_front = header-word (front_header s number) front (segment_words new k) 1 is.front_is (omega arith);
  next_back = header-word (back_header s number start) back (segment_words new number) 1 is.back_is (omega arith);
  next = λ j a b. (others-kept old new k number start front back is j a b).0;
  extra = λ j b. elim (cases_eq j k) [
    | inl same ↦ ap (λ n. extra_bytes (segment_words new n)) same
        ∙ header-word (front_header s number) front (segment_words new k) 3 is.front_is (omega arith)
        ∙ ap (λ n. extra_bytes (segment_words old n)) (sym same)
    | inr a ↦ (others-kept old new k number start front back is j a b).2
  ];
  extra_back = header-word (back_header s number start) back (segment_words new number) 3 is.back_is (omega arith)
      ∙ extra-first old k (sound.each place k at).right;
}
  where
    s : List ℕ
    s = segment_words old k

-- What the two halves hold is what the segment held.
pub record AreHalves (seg : Segment) (start : ℕ) (front back : List (List ℕ)) : Type 0 where
  pub start_is : start ≡ seg.first + sum_by area_length front
  pub sum : sum_by area_length front + sum_by area_length back ≡ sum_by area_length seg.entries
  pub some : 0 < length seg.entries
  pub kinds_front : All (λ e. is_one_kind (status e) ≡ true) front
  pub kinds_back : All (λ e. is_one_kind (status e) ≡ true) back

-- the areas then
pub halves-areas : (old new : Image) (place k number start : ℕ) (front back : List (List ℕ)) → IsSoundImage old
    → slice_get (visited old) place ≡ Some k → number ≡ highest_segment (segment_words old 1) + 1
    → number ≤ count_of old → WritesHalves old new k number start front back → AreHalves (segment_of old k) start front back
    → SplitsAreas old new place k number start front back
halves-areas old new place k number start front back sound at next room is are = record {
  links = halves-links old new place k number start front back sound at next room is;
  size = is.size;
  highest = (first-count old new k number start front back is).1;
  front_is =
      let first = header-word (front_header (segment_words old k) number) front (segment_words new k) 4 is.front_is (omega arith) in
      λ t. record { number = k; first = first t; entries = is.front_is.entries_are t };
  back_is =
      let first = header-word (back_header (segment_words old k) number start) back (segment_words new number) 4 is.back_is (omega arith) in
      λ t. record { number = number; first = first t; entries = is.back_is.entries_are t };
  others = λ j a b. (others-kept old new k number start front back is j a b).1;
  ends_front = is.front_is.ends;
  ends_back = is.back_is.ends;
  ends = λ j a b. (others-kept old new k number start front back is j a b).3;
  start_is = are.start_is;
  sum = are.sum;
  some = are.some;
  kinds_front = are.kinds_front;
  kinds_back = are.kinds_back;
}
