-- Words of an entry that are written where they stand.
use Rattle.std.proofs.Common.{◌≡◌, ◌≢◌, ◌⊎◌, inl, inr, ℕ, ◌+◌, false, true, [], ◌-◌, ◌*◌, ◌/◌, ◌<◌, ◌≤◌, List, ◌++◌, length, get_or, take}
use Rattle.std.proofs.Common.{drop, slice_index}
use Rattle.std.proofs.Common.{Bool, ⊎_elim, sym, ◌∙◌, ap, subst, arith}
use Rattle.std.specs.Prelude.{slice_set}
use Rattle.std.specs.List.{position_or_len}
use Rattle.std.proofs.Math.Nat.{mul-le-mul_right}
use Rattle.std.proofs.lemmas.Bool.{cases_eq, cases_lt}
use Rattle.std.proofs.lemmas.Grind.{same_number_lists}
use Rattle.std.proofs.Math.Seq.{get_or-append_right, take-set-lt}
use Rattle.std.proofs.lemmas.List.{length-append, length-set, length-take, length-take-le, length-drop, get_or_append_left, get_or-take}
use Rattle.std.proofs.lemmas.List.{get_or-drop, get_or-set_same, get_or-set_other, get_or_past, same_lists}
use Rattle.std.proofs.lemmas.List.Edits.{get_or-between, length-between}
use Rattle.std.proofs.lemmas.List.Folds.{position_or_len-set}
use Rattle.std.proofs.lemmas.List.Sums.{fails_before_first}
use Rattle.f11_dev.specs.Image.{Image, IsImage, image_block}
use Rattle.f11_dev.proofs.ImageLemmas.{image_block-written, image_block-other, slice_get-image_block}
use Rattle.rt11_volume.specs.Entry.{entry_size, is_end, status, with_words}
use Rattle.rt11_volume.specs.Rewriting.Draft.{IsRewritten}
use Rattle.rt11_volume.specs.Rewriting.Overwriting.{HasBlockOf, IsOverwriting, IsOverwritten, overwritten}
use Rattle.rt11_volume.specs.Segment.{entries, entry_place, entry_room, entry_words, extra_bytes, segment_words, words_in, HasEnd}
use Rattle.rt11_volume.specs.declared.lookup.entry.Found.{Found}
use Rattle.rt11_volume.proofs.Rewriting.Words.{length-words_of, words_of-low, words_of-high, words_of-past}
use Rattle.rt11_volume.proofs.Rewriting.Entries.{entries-at, entries-few, entries-no_end, entry_words-at, length-whole, room-place, whole}
use Rattle.rt11_volume.proofs.Rewriting.Entries.{whole-at}

-- a block that a segment may have
pub block-long : (image : Image) (lbn : ℕ) → IsImage image → lbn < length image → length (image_block image lbn) ≡ 512
block-long image lbn is within = (is.each lbn (image_block image lbn) (slice_get-image_block image lbn within)).size

-- The first block of a segment was written.
pub low-written : (i k lbn : ℕ) (image : Image) (low high ws : List ℕ) → words_in (low ++ high) ≡ ws → IsImage image → lbn ≡ 4 + 2 * k
    → 4 + 2 * k + 1 < length image
    → length low ≡ 512 → i < 256 → HasBlockOf i k ws image (slice_set image lbn low)
unfolding segment_words
low-written i k lbn image low high ws view is place within size here =
    let new : Image = slice_set image lbn low in
    let was : List ℕ = image_block image (4 + 2 * k) in
    let behind : List ℕ = image_block image (4 + 2 * k + 1) in
    let lower : image_block new (4 + 2 * k) ≡ low = ap (image_block new) (sym place)
    ∙ image_block-written image lbn low (omega (arith, place, within)) in
    let higher : image_block new (4 + 2 * k + 1) ≡ behind = image_block-other image lbn (4 + 2 * k + 1) low
    (λ same. omega (arith, same, place)) in
    let words : words_in (image_block new (4 + 2 * k) ++ image_block new (4 + 2 * k + 1)) ≡ words_in (low ++ behind) =
    λ t. words_in (lower t ++ higher t) in
    let long : length was ≡ 512 = block-long image (4 + 2 * k) is (omega (arith, within)) in
    record {
      written = λ p same.
          let first : p < 256 = omega (arith, same, here) in
          ap (λ ws. slice_index ws p) words ∙ words_of-low low behind p size first ∙ sym (words_of-low low high p size first)
          ∙ ap (λ w. slice_index w p) view;
      stays = λ p apart.
          let second : 256 ≤ p = omega (arith, apart, here) in
          ap (λ ws. slice_index ws p) words ∙ elim (cases_lt p 512) [
            | inl few ↦ words_of-high low behind p size second few ∙ sym (words_of-high was behind p long second few)
            | inr past ↦ words_of-past (low ++ behind) p past ∙ sym (words_of-past (was ++ behind) p past)
          ];
      size = length-set image lbn low;
      kept = λ other apart after. image_block-other image lbn other low (λ same. apart (same ∙ place));
    }

-- The second one was.
pub high-written : (i k lbn : ℕ) (image : Image) (low high ws : List ℕ) → words_in (low ++ high) ≡ ws → IsImage image → lbn ≡ 4 + 2 * k + 1
    → 4 + 2 * k + 1 < length image
    → length low ≡ 512 → 256 ≤ i → i < 512 → HasBlockOf i k ws image (slice_set image lbn high)
unfolding segment_words
high-written i k lbn image low high ws view is place within size here few =
    let new : Image = slice_set image lbn high in
    let was : List ℕ = image_block image (4 + 2 * k) in
    let behind : List ℕ = image_block image (4 + 2 * k + 1) in
    let lower : image_block new (4 + 2 * k) ≡ was = image_block-other image lbn (4 + 2 * k) high (λ same. omega (arith, same, place)) in
    let higher : image_block new (4 + 2 * k + 1) ≡ high = ap (image_block new) (sym place)
    ∙ image_block-written image lbn high (omega (arith, place, within)) in
    let words : words_in (image_block new (4 + 2 * k) ++ image_block new (4 + 2 * k + 1)) ≡ words_in (was ++ high) =
    λ t. words_in (lower t ++ higher t) in
    let long : length was ≡ 512 = block-long image (4 + 2 * k) is (omega (arith, within)) in
    record {
      written = λ p same.
          let second : 256 ≤ p = omega (arith, same, here) in
          let less : p < 512 = omega (arith, same, few) in
          ap (λ ws. slice_index ws p) words ∙ words_of-high was high p long second less ∙ sym (words_of-high low high p size second less)
          ∙ ap (λ w. slice_index w p) view;
      stays = λ p apart.
          ap (λ ws. slice_index ws p) words ∙ elim (cases_lt p 256) [
            | inl first ↦ words_of-low was high p long first ∙ sym (words_of-low was behind p long first)
            | inr second ↦
                let past : 512 ≤ p = omega (arith, apart, here, few, second) in
                words_of-past (was ++ high) p past ∙ sym (words_of-past (was ++ behind) p past)
          ];
      size = length-set image lbn high;
      kept = λ other apart after. image_block-other image lbn other high (λ same. after (same ∙ place));
    }

-- words with some of them replaced
pub length-with_words : (s : List ℕ) (at : ℕ) (ws : List ℕ) → at + length ws ≤ length s → length (with_words s at ws) ≡ length s
length-with_words s at ws fits =
    let a = length-append (take at s) (ws ++ drop (at + length ws) s) in
    let b = length-append ws (drop (at + length ws) s) in
    let c = length-take-le at s (omega (arith, fits)) in
    let d = length-drop (at + length ws) s in
    omega (arith, a, b, c, d, fits)

pub with_words-in : (s : List ℕ) (at : ℕ) (ws : List ℕ) (p : ℕ) → at + length ws ≤ length s → at ≤ p → p < at + length ws
    → slice_index (with_words s at ws) p ≡ slice_index ws (p - at)
with_words-in s at ws p fits low high =
    let size = length-take-le at s (omega (arith, fits)) in
    get_or-append_right (take at s) (ws ++ drop (at + length ws) s) p 0 (omega (arith, size, low))
    ∙ ap (slice_index (ws ++ drop (at + length ws) s)) (let n : p - length (take at s) ≡ p - at = omega (arith, size) in n)
    ∙ get_or_append_left ws (drop (at + length ws) s) 0 (p - at) (omega (arith, low, high))

pub with_words-out : (s : List ℕ) (at : ℕ) (ws : List ℕ) (p : ℕ) → at + length ws ≤ length s → (p < at) ⊎ (at + length ws ≤ p)
    → slice_index (with_words s at ws) p ≡ slice_index s p
with_words-out s at ws p fits apart =
    let size = length-take-le at s (omega (arith, fits)) in
    let rest : List ℕ = drop (at + length ws) s in
    elim apart [
      | inl before ↦ get_or_append_left (take at s) (ws ++ rest) 0 p (omega (arith, size, before)) ∙ get_or-take at s p 0 before
      | inr behind ↦
          get_or-append_right (take at s) (ws ++ rest) p 0 (omega (arith, size, behind))
          ∙ get_or-append_right ws rest (p - length (take at s)) 0 (omega (arith, size, behind))
          ∙ get_or-drop (at + length ws) s (p - length (take at s) - length ws) 0
          ∙ ap (slice_index s)
          (let n : at + length ws + (p - length (take at s) - length ws) ≡ p = omega (arith, size, behind) in n)
    ]

-- a segment has 512 words
pub length-segment : (image : Image) (k : ℕ) → length (segment_words image k) ≡ 512
unfolding segment_words
length-segment image k = length-words_of _

-- the first of an entry's words stand in the segment
pub entry-within : (extra : ℕ) (s : List ℕ) (i n : ℕ) → i < length (entries extra s) → n ≤ 7 → entry_place extra i + n ≤ 512
entry-within extra s i n inside few =
    let room : entry_place extra (i + 1) ≤ 512 = (room-place extra i).0 (omega (arith, inside, entries-few extra s)) in
    omega (arith, room, few)

-- one block of those words was written
pub overwriting : (found : Found) (from : ℕ) (words ws : List ℕ) → ws ≡ overwritten found from words → (i : ℕ) (old image : Image)
    → HasBlockOf i found.number ws old image → IsOverwriting found from words old image
overwriting found from words ws put i old image has = record {
  each = λ is p. elim (cases_eq (p / 256) (i / 256)) [
    | inl same ↦ inr (has.written p same ∙ ap (λ (s : List ℕ). slice_index s p) put)
    | inr apart ↦ inl (has.stays p apart ∙ ap (λ (s : List ℕ). slice_index s p) (sym is))
  ];
  size = has.size;
  kept = has.kept;
}

-- and another one
pub overwriting-more : (found : Found) (from : ℕ) (words ws : List ℕ) → ws ≡ overwritten found from words → (i : ℕ) (old now image : Image)
    → IsOverwriting found from words old now → HasBlockOf i found.number ws now image
    → IsOverwriting found from words old image
overwriting-more found from words ws put i old now image first has = record {
  each = λ is p. elim (cases_eq (p / 256) (i / 256)) [
    | inl same ↦ inr (has.written p same ∙ ap (λ (s : List ℕ). slice_index s p) put)
    | inr apart ↦ elim (first.each is p) [ inl was ↦ inl (has.stays p apart ∙ was) | inr put ↦ inr (has.stays p apart ∙ put) ]
  ];
  size = has.size ∙ first.size;
  kept = λ lbn low high. has.kept lbn low high ∙ first.kept lbn low high;
}

-- All of them stand in one block, which was written.
pub overwritten-one : (found : Found) (from : ℕ) (words ws : List ℕ) → ws ≡ overwritten found from words → (at last : ℕ) (old image : Image)
    → at ≡ entry_place (extra_bytes found.segment) found.i + from → length found.segment ≡ 512 → at + length words ≤ 512
    → last + 1 ≡ at + length words → at / 256 ≡ last / 256
    → HasBlockOf at found.number ws old image → IsOverwritten found from words old image
overwritten-one found from words ws put at last old image place long fits end one has = record {
  words_are = λ is.
      same_number_lists (segment_words image found.number) (overwritten found from words)
      (length-segment image found.number ∙ sym (length-with_words found.segment _ words (omega (arith, place, fits, long)) ∙ long))
      (λ p within. elim (cases_eq (p / 256) (at / 256)) [
        | inl same ↦ has.written p same ∙ ap (λ (s : List ℕ). slice_index s p) put
        | inr apart ↦
            has.stays p apart ∙ ap (λ (s : List ℕ). slice_index s p) (sym is)
            ∙ sym (with_words-out found.segment _ words p (omega (arith, place, fits, long)) (outside p apart))
      ]);
  size = has.size;
  kept = has.kept;
}
  where
    outside : (p : ℕ) → p / 256 ≢ at / 256
        → (p < entry_place (extra_bytes found.segment) found.i + from)
        ⊎ (entry_place (extra_bytes found.segment) found.i + from + length words
        ≤ p)
    outside p apart = elim (cases_lt p at) [
      | inl before ↦ inl (omega (arith, before, place))
      | inr behind ↦ inr (omega (arith, behind, place, end, one, apart))
    ]

-- They stand in two blocks, both of which were.
pub overwritten-both : (found : Found) (from : ℕ) (words ws : List ℕ) → ws ≡ overwritten found from words
    → (at last : ℕ) (old now image : Image)
    → at ≡ entry_place (extra_bytes found.segment) found.i + from → length found.segment ≡ 512 → at + length words ≤ 512
    → last + 1 ≡ at + length words → length words ≤ 4
    → HasBlockOf at found.number ws old now
    → HasBlockOf last found.number ws now image → IsOverwritten found from words old image
overwritten-both found from words ws put at last old now image place long fits end few first has = record {
  words_are = λ is.
      same_number_lists (segment_words image found.number) (overwritten found from words)
      (length-segment image found.number ∙ sym (length-with_words found.segment _ words (omega (arith, place, fits, long)) ∙ long))
      (λ p within. elim (cases_eq (p / 256) (last / 256)) [
        | inl same ↦ has.written p same ∙ ap (λ (s : List ℕ). slice_index s p) put
        | inr apart ↦
            has.stays p apart ∙ elim (cases_eq (p / 256) (at / 256)) [
              | inl same ↦ first.written p same ∙ ap (λ (s : List ℕ). slice_index s p) put
              | inr other ↦
                  first.stays p other ∙ ap (λ (s : List ℕ). slice_index s p) (sym is)
                  ∙ sym (with_words-out found.segment _ words p (omega (arith, place, fits, long)) (outside p apart other))
            ]
      ]);
  size = has.size ∙ first.size;
  kept = λ lbn low high. has.kept lbn low high ∙ first.kept lbn low high;
}
  where
    outside : (p : ℕ) → p / 256 ≢ last / 256 → p / 256 ≢ at / 256
        → (p < entry_place (extra_bytes found.segment) found.i + from)
        ⊎ (entry_place (extra_bytes found.segment) found.i + from + length words
        ≤ p)
    outside p apart other = elim (cases_lt p at) [
      | inl before ↦ inl (omega (arith, before, place))
      | inr behind ↦ inr (omega (arith, behind, place, end, few, apart, other))
    ]

-- The words of a segment are others in one entry alone, which is still no end mark.
pub record DiffersInEntry (extra : ℕ) (s t : List ℕ) (i : ℕ) : Type 0 where
  pub size : length t ≡ length s
  pub apart : (p : ℕ) → (p < entry_place extra i) ⊎ (entry_place extra (i + 1) ≤ p) → slice_index t p ≡ slice_index s p
  pub no_end : is_end (slice_index t (entry_place extra i)) ≡ false

-- one entry stands before another
places-apart : (extra k i : ℕ) → k < i → entry_place extra (k + 1) ≤ entry_place extra i
places-apart extra k i before =
    let h : (k + 1) * entry_size extra ≤ i * entry_size extra = mul-le-mul_right (entry_size extra) (omega (arith, before)) in
    omega (arith, h)

-- the words of another entry are as they were
entry-same : (extra : ℕ) (s t : List ℕ) (i k : ℕ) → length s ≡ 512 → DiffersInEntry extra s t i → k < entry_room extra → k ≢ i
    → entry_words extra t k ≡ entry_words extra s k
entry-same extra s t i k long differs inside apart =
    let a : ℕ = entry_place extra k in
    let b : ℕ = entry_place extra (k + 1) in
    let room : b ≤ 512 = (room-place extra k).0 inside in
    let one = length-between t a b (omega (arith, room, long, differs.size)) in
    let two = length-between s a b (omega (arith, room, long)) in
    same_number_lists (entry_words extra t k) (entry_words extra s k) (one ∙ sym two) (λ j within.
    let less : a + j < b = omega (arith, within, one) in
    get_or-between t a b j 0 less ∙ differs.apart (a + j) (elim (cases_lt k i) [
      | inl before ↦ inl (omega (arith, less, places-apart extra k i before))
      | inr behind ↦ inr (omega (arith, places-apart extra i k (omega (arith, behind, apart))))
    ]) ∙ sym (get_or-between s a b j 0 less))

whole-changed : (extra : ℕ) (s t : List ℕ) (i : ℕ) → length s ≡ 512 → DiffersInEntry extra s t i → i < entry_room extra
    → whole extra t ≡ slice_set (whole extra s) i (entry_words extra t i)
whole-changed extra s t i long differs inside =
    let e : List ℕ = entry_words extra t i in
    same_lists (whole extra t) (slice_set (whole extra s) i e)
    (length-whole extra t ∙ sym (length-set (whole extra s) i e ∙ length-whole extra s)) (λ k d within.
    let room : k < entry_room extra = omega (arith, within, length-whole extra t) in
    whole-at extra t k d room ∙ elim (cases_eq k i) [
      | inl same ↦
          ap (entry_words extra t) same ∙ sym (get_or-set_same (whole extra s) i e d (omega (arith, inside, length-whole extra s)))
          ∙ ap (λ j. get_or (slice_set (whole extra s) i e) j d) (sym same)
      | inr apart ↦ entry-same extra s t i k long differs room apart ∙ sym (whole-at extra s k d room)
          ∙ sym (get_or-set_other (whole extra s) i k e d apart)
    ])

-- the status of an entry, where it stands
status-there : (extra : ℕ) (s : List ℕ) (i : ℕ) → status (entry_words extra s i) ≡ slice_index s (entry_place extra i)
status-there extra s i = entry_words-at extra s i 0 (omega arith) ∙ ap (slice_index s) (omega arith)

no-end-there : (extra : ℕ) (s : List ℕ) (i : ℕ) → i < length (entries extra s) → is_end (slice_index s (entry_place extra i)) ≡ false
no-end-there extra s i inside =
    ap is_end (sym (ap status (entries-at extra s i [] inside) ∙ status-there extra s i)) ∙ entries-no_end extra s i [] inside

-- so the entries are those that were there but for that one
pub entries-changed : (extra : ℕ) (s t : List ℕ) (i : ℕ) → length s ≡ 512 → DiffersInEntry extra s t i → i < length (entries extra s)
    → entries extra t ≡ slice_set (entries extra s) i (entry_words extra t i)
unfolding entries
entries-changed extra s t i long differs inside =
    let test : List ℕ → Bool = λ e. is_end (status e) in
    let e : List ℕ = entry_words extra t i in
    let n : ℕ = position_or_len test (whole extra s) in
    let before : i < n = omega (arith, inside, length-take n (whole extra s)) in
    let room : i < entry_room extra = omega (arith, inside, length-take n (whole extra s), length-whole extra s) in
    let all = whole-changed extra s t i long differs room in
    let now : test e ≡ false = ap is_end (status-there extra t i) ∙ differs.no_end in
    let was : test (get_or (whole extra s) i []) ≡ false = fails_before_first test (whole extra s) i [] before in
    let place : position_or_len test (slice_set (whole extra s) i e) ≡ n = position_or_len-set test (whole extra s) i e [] (now ∙ sym was)
    in
    ap (λ es. take (position_or_len test es) es) all ∙ ap (λ m. take m (slice_set (whole extra s) i e)) place
    ∙ take-set-lt n (whole extra s) i e before

-- and the segment has an end as before
pub ends-changed : (extra : ℕ) (s t : List ℕ) (i : ℕ) → DiffersInEntry extra s t i → i < length (entries extra s) → HasEnd extra s
    → HasEnd extra t
ends-changed extra s t i differs inside ends = record {
  place = ends.place;
  within = ends.within;
  end = elim (cases_eq ends.place i) [
    | inl same ↦
        let clash : true ≡ false = sym ends.end ∙ ap (λ n. is_end (slice_index s (entry_place extra n))) same
        ∙ no-end-there extra s i inside
        in
        absurd (cc)
    | inr apart ↦ ap is_end (differs.apart (entry_place extra ends.place) (elim (cases_lt ends.place i) [
      | inl before ↦ inl (let h = places-apart extra ends.place i before in omega (arith, h))
      | inr behind ↦ inr (places-apart extra i ends.place (omega (arith, behind, apart)))
    ])) ∙ ends.end
  ];
}

-- so it is written with these entries
pub differs-rewritten : (s t : List ℕ) (i : ℕ) → length s ≡ 512 → DiffersInEntry (extra_bytes s) s t i
    → i < length (entries (extra_bytes s) s) → HasEnd (extra_bytes s) s
    → IsRewritten (take 5 s) (slice_set (entries (extra_bytes s) s) i (entry_words (extra_bytes s) t i)) t
differs-rewritten s t i long differs inside ends =
    let x : ℕ = extra_bytes s in
    let front = λ (p : ℕ) (low : p < 5). differs.apart p (inl (omega (arith, low))) in
    let extra : extra_bytes t ≡ x = front 3 (omega arith) in
    let one = length-take-le 5 t (omega (arith, differs.size, long)) in
    let two = length-take-le 5 s (omega (arith, long)) in
    record {
      header_is = same_number_lists (take 5 t) (take 5 s) (one ∙ sym two) (λ p within.
          let low : p < 5 = omega (arith, within, one) in
          get_or-take 5 t p 0 low ∙ front p low ∙ sym (get_or-take 5 s p 0 low));
      entries_are = ap (λ n. entries n t) extra ∙ entries-changed x s t i long differs inside;
      ends = subst (λ n. HasEnd n t) (sym extra) (ends-changed x s t i differs inside ends);
    }

-- Each word of a segment is as it was or one of these.
abbrev pub IsBetween : List ℕ → ℕ → List ℕ → List ℕ → Type 0
IsBetween s at ws t = (p : ℕ) → (slice_index t p ≡ slice_index s p) ⊎ (slice_index t p ≡ slice_index (with_words s at ws) p)

-- a word of an entry, some of whose words are replaced in the segment
changed-word : (extra : ℕ) (s : List ℕ) (i from : ℕ) (ws : List ℕ) (k : ℕ) → length s ≡ 512 → i < length (entries extra s)
    → from + length ws ≤ 4 → k < entry_size extra
    → slice_index (with_words s (entry_place extra i + from) ws) (entry_place extra i + k)
    ≡ slice_index (with_words (entry_words extra s i) from ws) k
changed-word extra s i from ws k long inside few within =
    let a : ℕ = entry_place extra i in
    let b : ℕ = entry_place extra (i + 1) in
    let room : b ≤ 512 = (room-place extra i).0 (omega (arith, inside, entries-few extra s)) in
    let size = length-between s a b (omega (arith, room, long)) in
    let fits : a + from + length ws ≤ length s = omega (arith, few, room, long) in
    let fits_in : from + length ws ≤ length (entry_words extra s i) = omega (arith, few, size) in
    let out = λ (apart : (k < from) ⊎ (from + length ws ≤ k)).
    with_words-out s (a + from) ws (a + k) fits
    (⊎_elim (λ (h : k < from). inl (omega (arith, h))) (λ (h : from + length ws ≤ k). inr (omega (arith, h))) apart)
    ∙ sym (get_or-between s a b k 0 (omega (arith, within)))
    ∙ sym (with_words-out (entry_words extra s i) from ws k fits_in apart) in
    elim (cases_lt k from) [
      | inl before ↦ out (inl before)
      | inr at ↦ elim (cases_lt k (from + length ws)) [
        | inl in_it ↦
            with_words-in s (a + from) ws (a + k) fits (omega (arith, at)) (omega (arith, in_it))
            ∙ ap (slice_index ws) (let n : a + k - (a + from) ≡ k - from = omega (arith, at) in n)
            ∙ sym (with_words-in (entry_words extra s i) from ws k fits_in at in_it)
        | inr behind ↦ out (inr behind)
      ]
    ]

-- each word of the entry is as it was or one of these
pub entry-between : (extra : ℕ) (s t : List ℕ) (i from : ℕ) (ws : List ℕ) (k : ℕ) → length s ≡ 512 → length t ≡ 512
    → i < length (entries extra s) → from + length ws ≤ 4 → IsBetween s (entry_place extra i + from) ws t
    → (slice_index (entry_words extra t i) k ≡ slice_index (entry_words extra s i) k)
    ⊎ (slice_index (entry_words extra t i) k ≡ slice_index (with_words (entry_words extra s i) from ws) k)
entry-between extra s t i from ws k long size inside few between =
    let a : ℕ = entry_place extra i in
    let b : ℕ = entry_place extra (i + 1) in
    let room : b ≤ 512 = (room-place extra i).0 (omega (arith, inside, entries-few extra s)) in
    let one = length-between t a b (omega (arith, room, size)) in
    let two = length-between s a b (omega (arith, room, long)) in
    elim (cases_lt k (entry_size extra)) [
      | inl within ↦
          let now = get_or-between t a b k 0 (omega (arith, within)) in
          elim (between (a + k)) [
            | inl same ↦ inl (now ∙ same ∙ sym (get_or-between s a b k 0 (omega (arith, within))))
            | inr put ↦ inr (now ∙ put ∙ changed-word extra s i from ws k long inside few within)
          ]
      | inr past ↦ inl (get_or_past (entry_words extra t i) k 0 (omega (arith, past, one))
          ∙ sym (get_or_past (entry_words extra s i) k 0 (omega (arith, past, two))))
    ]

-- all of its words are these
pub entry-changed : (extra : ℕ) (s t : List ℕ) (i from : ℕ) (ws : List ℕ) → length s ≡ 512 → i < length (entries extra s)
    → from + length ws ≤ 4 → t ≡ with_words s (entry_place extra i + from) ws
    → entry_words extra t i ≡ with_words (entry_words extra s i) from ws
entry-changed extra s t i from ws long inside few is =
    let a : ℕ = entry_place extra i in
    let b : ℕ = entry_place extra (i + 1) in
    let room : b ≤ 512 = (room-place extra i).0 (omega (arith, inside, entries-few extra s)) in
    let fits : a + from + length ws ≤ length s = omega (arith, few, room, long) in
    let size : length t ≡ length s = ap (λ (w : List ℕ). length w) is ∙ length-with_words s (a + from) ws fits in
    let one = length-between t a b (omega (arith, room, size, long)) in
    let two = length-between s a b (omega (arith, room, long)) in
    let three = length-with_words (entry_words extra s i) from ws (omega (arith, few, two)) in
    same_number_lists (entry_words extra t i) (with_words (entry_words extra s i) from ws) (one ∙ sym (three ∙ two)) (λ k within.
    get_or-between t a b k 0 (omega (arith, within, one)) ∙ ap (λ w. slice_index w (a + k)) is
    ∙ changed-word extra s i from ws k long inside few (omega (arith, within, one)))

-- the segment is another in this entry alone
pub differs-between : (extra : ℕ) (s t : List ℕ) (i from : ℕ) (ws : List ℕ) → length s ≡ 512 → length t ≡ 512
    → i < length (entries extra s) → from + length ws ≤ 4
    → is_end (status (with_words (entry_words extra s i) from ws)) ≡ is_end (status (entry_words extra s i))
    → IsBetween s (entry_place extra i + from) ws t → DiffersInEntry extra s t i
differs-between extra s t i from ws long size inside few mark between =
    let a : ℕ = entry_place extra i in
    let b : ℕ = entry_place extra (i + 1) in
    let room : b ≤ 512 = (room-place extra i).0 (omega (arith, inside, entries-few extra s)) in
    let none : is_end (status (entry_words extra s i)) ≡ false = ap is_end (status-there extra s i) ∙ no-end-there extra s i inside in
    record {
      size = size ∙ sym long;
      apart = λ p outside. elim (between p) [
        | inl same ↦ same
        | inr put ↦ put ∙ with_words-out s (a + from) ws p (omega (arith, few, room, long))
            (⊎_elim (λ (h : p < a). inl (omega (arith, h))) (λ (h : b ≤ p). inr (omega (arith, h, few))) outside)
      ];
      no_end = ap is_end (sym (status-there extra t i)) ∙ elim (entry-between extra s t i from ws 0 long size inside few between) [
        | inl same ↦ ap is_end same ∙ none
        | inr put ↦ ap is_end put ∙ mark ∙ none
      ];
    }
