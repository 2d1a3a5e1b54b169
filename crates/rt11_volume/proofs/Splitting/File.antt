-- A file made in a segment that is split.
use Rattle.std.proofs.Common.{◌≡◌, inl, inr, ℕ, ◌+◌, ◌-◌, ◌<◌, ◌≤◌, Bool, true, if◌then◌else◌, List, ◌∷◌, ◌++◌, length, take, drop}
use Rattle.std.proofs.Common.{slice_range, sum_by, refl, sym, ◌∙◌, ap, subst, arith}
use Rattle.std.specs.List.{All}
use Rattle.std.proofs.lemmas.Bool.{cases_lt, le-leb, lt-leb, lt-ltb, le-ltb}
use Rattle.std.proofs.lemmas.List.Edits.{length-between}
use Rattle.std.proofs.lemmas.List.Elements.{All-take, All-drop}
use Rattle.std.proofs.lemmas.List.Sums.{sum_by-take-drop}
use Rattle.std.proofs.lemmas.Slice.{between_from_start}
use Rattle.rt11_volume.specs.Entry.{area_length, status, is_one_kind}
use Rattle.rt11_volume.specs.Operations.{entry_at, kept_of, needs_split, back_half, front_half, split_at, with_entries, with_file}
use Rattle.rt11_volume.specs.Operations.{segments_with_file}
use Rattle.rt11_volume.specs.Segment.{Segment, area_start}
use Rattle.rt11_volume.specs.Rewriting.Split.{half_with}
use Rattle.rt11_volume.specs.Store.{RtStore}
use Rattle.rt11_volume.proofs.Rewriting.Edit.{slice_to_end, at-part, with-sum, with-kinds}
use Rattle.rt11_volume.proofs.Splitting.Store.{file-in_front, file-in_back}

-- the half that has the area, and one that doesn't
half-inside : (extra : ℕ) (es : List (List ℕ)) (a b i : ℕ) (name : List ℕ) (blocks day : ℕ) → a ≤ i → i < b
    → half_with extra es a b i name blocks day ≡ with_file extra (slice_range es a b) (i - a) name blocks day
half-inside extra es a b i name blocks day low high = rw (le-leb a i low) (rw (lt-ltb i b high) refl)

half-before : (extra : ℕ) (es : List (List ℕ)) (a b i : ℕ) (name : List ℕ) (blocks day : ℕ) → i < a
    → half_with extra es a b i name blocks day ≡ slice_range es a b
half-before extra es a b i name blocks day low = rw (lt-leb a i low) refl

half-behind : (extra : ℕ) (es : List (List ℕ)) (a b i : ℕ) (name : List ℕ) (blocks day : ℕ) → a ≤ i → b ≤ i
    → half_with extra es a b i name blocks day ≡ slice_range es a b
half-behind extra es a b i name blocks day low high = rw (le-leb a i low) (rw (le-ltb i b high) refl)

-- a half is as long as the areas that it has
pub half-sum : (extra : ℕ) (es : List (List ℕ)) (a b i : ℕ) (name : List ℕ) (blocks day : ℕ) → b ≤ length es → length name ≡ 3
    → blocks ≤ area_length (entry_at es i)
    → sum_by area_length (half_with extra es a b i name blocks day) ≡ sum_by area_length (slice_range es a b)
half-sum extra es a b i name blocks day within three fits = elim (cases_lt i a) [
  | inl before ↦ ap (sum_by area_length) (half-before extra es a b i name blocks day before)
  | inr low ↦ elim (cases_lt i b) [
    | inl high ↦
        let at = at-part es a i b low high in
        let size = length-between es a b within in
        ap (sum_by area_length) (half-inside extra es a b i name blocks day low high)
        ∙ with-sum extra (slice_range es a b) (i - a) name blocks day (omega (arith, size, low, high)) three
        (subst (λ (e : List ℕ). blocks ≤ area_length e) (sym at) fits)
    | inr behind ↦ ap (sum_by area_length) (half-behind extra es a b i name blocks day low behind)
  ]
]

-- and each of its entries is of one kind
pub half-kinds : (extra : ℕ) (es : List (List ℕ)) (a b i : ℕ) (name : List ℕ) (blocks day : ℕ) → All (λ e. is_one_kind (status e) ≡ true) es
    → All (λ e. is_one_kind (status e) ≡ true) (half_with extra es a b i name blocks day)
half-kinds extra es a b i name blocks day are = elim (cases_lt i a) [
  | inl before ↦ subst (All (λ e. is_one_kind (status e) ≡ true)) (sym (half-before extra es a b i name blocks day before)) part
  | inr low ↦ elim (cases_lt i b) [
    | inl high ↦ subst (All (λ e. is_one_kind (status e) ≡ true)) (sym (half-inside extra es a b i name blocks day low high))
        (with-kinds extra (slice_range es a b) (i - a) name blocks day part)
    | inr behind ↦ subst (All (λ e. is_one_kind (status e) ≡ true)) (sym (half-behind extra es a b i name blocks day low behind)) part
  ]
]
  where
    part : All (λ e. is_one_kind (status e) ≡ true) (slice_range es a b)
    part = All-take (λ e. is_one_kind (status e) ≡ true) (b - a) (drop a es) (All-drop (λ e. is_one_kind (status e) ≡ true) a es are)

-- both together are as long as the segment was
pub halves-sum : (extra : ℕ) (es : List (List ℕ)) (kept i : ℕ) (name : List ℕ) (blocks day : ℕ) → kept ≤ length es → length name ≡ 3
    → blocks ≤ area_length (entry_at es i)
    → sum_by area_length (half_with extra es 0 kept i name blocks day) + sum_by area_length
    (half_with extra es kept (length es) i name blocks day) ≡ sum_by area_length es
halves-sum extra es kept i name blocks day within three fits =
    let one = half-sum extra es 0 kept i name blocks day within three fits ∙ ap (sum_by area_length) (between_from_start es kept) in
    let two = half-sum extra es kept (length es) i name blocks day (omega arith) three fits
    ∙ ap (sum_by area_length) (slice_to_end es kept (length es) refl) in
    omega (arith, one, two, sum_by-take-drop area_length es kept)

-- the two segments with the file are those that are meant
pub split-file : (store : RtStore) (place i : ℕ) (seg : Segment) (name : List ℕ) (blocks day : ℕ) → place < length store.segments
    → i < length seg.entries → needs_split store.extra seg i blocks ≡ true
    → take place store.segments
    ++ (record {
      number = seg.number;
      first = seg.first;
      entries = half_with store.extra seg.entries 0 (kept_of (length seg.entries)) i name
          blocks day;
    }
    ∷ record {
      number = store.highest + 1;
      first = area_start seg (kept_of (length seg.entries));
      entries = half_with store.extra seg.entries (kept_of (length seg.entries)) (length seg.entries) i name blocks day;
    } ∷ drop (place + 1) store.segments) ≡ segments_with_file store place i seg name blocks day
unfolding segments_with_file
split-file store place i seg name blocks day inside within needs = elim (cases_lt i kept) [
  | inl early ↦ let is = lt-ltb i kept early in in_front early ∙ (λ t. meant (sym needs t) (sym is t))
  | inr late ↦ let is = le-ltb i kept late in in_back late ∙ (λ t. meant (sym needs t) (sym is t))
]
  where
    es : List (List ℕ)
    es = seg.entries

    kept : ℕ
    kept = kept_of (length es)

    number : ℕ
    number = store.highest + 1

    segs : List Segment
    segs = store.segments

    meant : Bool → Bool → List Segment
    meant needs early =
        if needs then
        (if early
        then with_entries (split_at segs place number seg) place (with_file store.extra (front_half seg).entries i name blocks day)
        else with_entries (split_at segs place number seg) (place + 1)
        (with_file store.extra (back_half number seg).entries (i - kept) name blocks day))
        else with_entries segs place (with_file store.extra es i name blocks day)

    both : List (List ℕ) → List (List ℕ) → List Segment
    both front back =
        take place segs ++ (record { number = seg.number; first = seg.first; entries = front } ∷
        record { number = number; first = area_start seg kept; entries = back } ∷ drop (place + 1) segs)

    in_front : i < kept
        → both (half_with store.extra es 0 kept i name blocks day) (half_with store.extra es kept (length es) i name blocks day)
        ≡ with_entries (split_at segs place number seg) place (with_file store.extra (front_half seg).entries i name blocks day)
    in_front early =
        let one : half_with store.extra es 0 kept i name blocks day ≡ with_file store.extra (take kept es) i name blocks day =
        half-inside store.extra es 0 kept i name blocks day (omega arith) early
        ∙ ap (λ xs. with_file store.extra xs (i - 0) name blocks day) (between_from_start es kept)
        ∙ ap (λ n. with_file store.extra (take kept es) n name blocks day) (let p : i - 0 ≡ i = omega arith in p) in
        let two : half_with store.extra es kept (length es) i name blocks day ≡ drop kept es = half-before store.extra es kept (length es) i
        name blocks day early ∙ slice_to_end es kept (length es) refl in
        (λ t. both (one t) (two t))
        ∙ sym (file-in_front segs place number seg (with_file store.extra (take kept es) i name blocks day) inside)

    in_back : kept ≤ i
        → both (half_with store.extra es 0 kept i name blocks day) (half_with store.extra es kept (length es) i name blocks day)
        ≡ with_entries (split_at segs place number seg) (place + 1)
        (with_file store.extra (back_half number seg).entries (i - kept) name blocks day)
    in_back late =
        let one : half_with store.extra es 0 kept i name blocks day ≡ take kept es = half-behind store.extra es 0 kept i name blocks day
        (omega arith) late ∙ between_from_start es kept in
        let two : half_with store.extra es kept (length es) i name blocks day ≡ with_file store.extra (drop kept es) (i - kept) name blocks
        day =
        half-inside store.extra es kept (length es) i name blocks day late within
        ∙ ap (λ xs. with_file store.extra xs (i - kept) name blocks day) (slice_to_end es kept (length es) refl) in
        (λ t. both (one t) (two t))
        ∙ sym (file-in_back segs place number seg (with_file store.extra (drop kept es) (i - kept) name blocks day) inside)
