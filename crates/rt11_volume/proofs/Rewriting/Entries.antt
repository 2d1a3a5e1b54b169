-- The entries of a segment.
use Rattle.std.proofs.Common.{◌≡◌, ◌↔◌, ℕ, ◌+◌, ◌*◌, ◌<◌, ◌≤◌, true, false, Bool, IsTrue, nat_lt, ◌&&◌, List, [], length, get_or, map}
use Rattle.std.proofs.Common.{slice_index, sym, ◌∙◌, ap, arith}
use Rattle.std.specs.List.{range_with_len, position_or_len, Any, list_any}
use Rattle.std.proofs.Math.Nat.{le-div_iff_mul-le, mul-le-mul_right, mul-le-mul_left, div-mul-le_self}
use Rattle.std.proofs.lemmas.List.{length-map, length-take, length-take-le, get_or-take}
use Rattle.std.proofs.lemmas.List.Edits.{get_or-between}
use Rattle.std.proofs.lemmas.List.FromFn.{length-range_with_len, get_or-range_with_len, get_or-map-range_with_len}
use Rattle.std.proofs.lemmas.List.Sums.{position_or_len_is, sum_by_more, fails_before_first}
use Rattle.rt11_volume.specs.Entry.{entry_size, status, is_end, area_length}
use Rattle.rt11_volume.specs.Segment.{Segment, entry_place, entry_words, entry_room, entries, area_start, HasEnd}
use Rattle.std.proofs.lemmas.Bool.{and_parts, and_from, ltb-true, lt-ltb, both_ways, true_from_ne_false}
use Rattle.std.proofs.lemmas.List.Folds.{Any-from_list_any, list_any-from_Any}

-- entry i is whole where it has room
pub room-place : (extra i : ℕ) → (i < entry_room extra) ↔ (entry_place extra (i + 1) ≤ 512)
room-place extra i = (λ inside. to inside, λ fits. from fits)
  where
    some : 0 < entry_size extra
    some = omega arith

    to : i < entry_room extra → entry_place extra (i + 1) ≤ 512
    to inside = let h : (i + 1) * entry_size extra ≤ 507 = (le-div_iff_mul-le {k = entry_size extra} {x = i + 1} {y = 507} some).0
        (omega arith) in omega arith

    from : entry_place extra (i + 1) ≤ 512 → i < entry_room extra
    from fits = let h : i + 1 ≤ entry_room extra = (le-div_iff_mul-le {k = entry_size extra} {x = i + 1} {y = 507} some).1 (omega arith) in
        omega arith

-- small products
pub product_small : (i s : ℕ) → i ≤ 73 → s ≤ 32774 → i * s ≤ 2392502
product_small i s few small = let h : i * s ≤ 73 * s = mul-le-mul_right s few in omega arith

-- a word of an entry
pub entry_words-at : (extra : ℕ) (s : List ℕ) (i k : ℕ) → k < 7
    → slice_index (entry_words extra s i) k ≡ slice_index s (entry_place extra i + k)
entry_words-at extra s i k within = get_or-between s (entry_place extra i) (entry_place extra (i + 1)) k 0 (omega arith)

-- the whole entries of a segment, before it is told which are its own
abbrev pub whole : ℕ → List ℕ → List (List ℕ)
whole extra s = map (entry_words extra s) (range_with_len 0 (entry_room extra))

pub length-whole : (extra : ℕ) (s : List ℕ) → length (whole extra s) ≡ entry_room extra
length-whole extra s = simp (length-map, length-range_with_len)

pub whole-at : (extra : ℕ) (s : List ℕ) (i : ℕ) (d : List ℕ) → i < entry_room extra → get_or (whole extra s) i d ≡ entry_words extra s i
whole-at extra s i d inside = get_or-map-range_with_len (entry_words extra s) 0 (entry_room extra) i i d inside (omega arith)

-- the status of entry i, where it stands
status-at : (extra : ℕ) (s : List ℕ) (i : ℕ) → status (entry_words extra s i) ≡ slice_index s (entry_place extra i)
status-at extra s i = entry_words-at extra s i 0 (omega arith) ∙ ap (slice_index s) (omega arith)

-- as many entries as stand before the first end mark
pub entries-count : (extra : ℕ) (s : List ℕ) (n : ℕ) → n ≤ entry_room extra
    → ((k : ℕ) → k < n → is_end (slice_index s (entry_place extra k)) ≡ false)
    → (n < entry_room extra → is_end (slice_index s (entry_place extra n)) ≡ true) → length (entries extra s) ≡ n
unfolding entries
entries-count extra s n few none here =
    let place : position_or_len (λ e. is_end (status e)) (whole extra s) ≡ n =
    position_or_len_is (λ e. is_end (status e)) (whole extra s) n [] (omega (arith, length-whole extra s))
    (λ k before. ap (λ e. is_end (status e)) (whole-at extra s k [] (omega arith)) ∙ ap is_end (status-at extra s k) ∙ none k before)
    (λ less. ap (λ e. is_end (status e)) (whole-at extra s n [] (omega (arith, less, length-whole extra s))) ∙ ap is_end
    (status-at extra s n) ∙ here (omega (arith, less, length-whole extra s)))
    in
    length-take-le (position_or_len (λ e. is_end (status e)) (whole extra s)) (whole extra s) (omega (arith, length-whole extra s)) ∙ place

-- there are no more entries than have room
pub entries-few : (extra : ℕ) (s : List ℕ) → length (entries extra s) ≤ entry_room extra
unfolding entries
entries-few extra s = omega (
  arith,
  length-take (position_or_len (λ e. is_end (status e)) (whole extra s)) (whole extra s),
  length-whole extra s,
)

-- entry i of a segment is the one that stands there
pub entries-at : (extra : ℕ) (s : List ℕ) (i : ℕ) (d : List ℕ) → i < length (entries extra s)
    → get_or (entries extra s) i d ≡ entry_words extra s i
unfolding entries
entries-at extra s i d inside =
    let n : ℕ = position_or_len (λ e. is_end (status e)) (whole extra s) in
    let size = length-take n (whole extra s) in
    get_or-take n (whole extra s) i d (omega (arith, size)) ∙ whole-at extra s i d (omega (arith, size, length-whole extra s))

-- an end mark stands at a place for a whole entry, or behind the last
pub place-room : (extra i : ℕ) → entry_place extra i < 512 → i ≤ entry_room extra
place-room extra i within = (le-div_iff_mul-le {k = entry_size extra} {x = i} {y = 507} (omega arith)).1 (omega arith)

-- a word that was read at an entry's place is that word of the entry
pub entry-read : (extra : ℕ) (s : List ℕ) (i k at w : ℕ) → k < 7 → i < length (entries extra s) → at ≡ entry_place extra i
    → w ≡ slice_index s (at + k)
    → w ≡ slice_index (get_or (entries extra s) i []) k
entry-read extra s i k at w within inside place read =
    read ∙ ap (λ p. slice_index s (p + k)) place ∙ sym (entry_words-at extra s i k within) ∙ ap (λ (e : List ℕ). slice_index e k)
    (sym (entries-at extra s i [] inside))

-- a segment has room for 72 entries at most
pub entry_room-few : (extra : ℕ) → entry_room extra ≤ 72
entry_room-few extra =
    let h : entry_room extra * entry_size extra ≤ 507 = div-mul-le_self 507 (entry_size extra) in
    let k : entry_room extra * 7 ≤ entry_room extra * entry_size extra = mul-le-mul_left (entry_room extra) (omega arith) in
    omega arith

-- where the next area begins
pub area_start-more : (seg : Segment) (i : ℕ) → i < length seg.entries
    → area_start seg (i + 1) ≡ area_start seg i + area_length (get_or seg.entries i [])
area_start-more seg i inside =
    let sum = sum_by_more area_length seg.entries i [] inside in
    omega (arith, sum)

-- a test whether an end mark stands in a segment
unfoldable has_end : ℕ → List ℕ → Bool
has_end extra s = list_any (λ i. nat_lt (entry_place extra i) 512 && is_end (slice_index s (entry_place extra i)))
    (range_with_len 0 (entry_room extra + 1))

has_end-HasEnd : (extra : ℕ) (s : List ℕ) → IsTrue (has_end extra s) ↔ HasEnd extra s
unfolding has_end
has_end-HasEnd extra s = (λ yes. found (Any-from_list_any test places yes), λ ends. list_any-from_Any test places (any ends))
  where
    test : ℕ → Bool
    test i = nat_lt (entry_place extra i) 512 && is_end (slice_index s (entry_place extra i))

    places : List ℕ
    places = range_with_len 0 (entry_room extra + 1)

    found : Any (λ i. test i ≡ true) places → HasEnd extra s
    found a =
        let parts : (nat_lt (entry_place extra a.1) 512 ≡ true) × (is_end (slice_index s (entry_place extra a.1)) ≡ true) = and_parts
        (nat_lt (entry_place extra a.1) 512) (is_end (slice_index s (entry_place extra a.1))) a.4 in
        record { place = a.1; within = ltb-true (entry_place extra a.1) 512 parts.0; end = parts.1 }

    any : HasEnd extra s → Any (λ i. test i ≡ true) places
    any ends =
        let room : ends.place ≤ entry_room extra = place-room extra ends.place ends.within in (
          ends.place,
          ends.place,
          omega (arith, length-range_with_len 0 (entry_room extra + 1)),
          get_or-range_with_len 0 (entry_room extra + 1) ends.place ends.place (omega arith) ∙ omega arith,
          and_from (nat_lt (entry_place extra ends.place) 512) (is_end (slice_index s (entry_place extra ends.place)))
              (lt-ltb (entry_place extra ends.place) 512 ends.within) ends.end,
        )

-- so one stands there where it can't be that none does
pub HasEnd-stable : (extra : ℕ) (s : List ℕ) → ¬ ¬ HasEnd extra s → HasEnd extra s
HasEnd-stable extra s some = (has_end-HasEnd extra s).0
    (true_from_ne_false (has_end extra s) (λ no_mark. some (λ ends. both_ways (has_end extra s) no_mark ((has_end-HasEnd extra s).1 ends))))

-- no entry of a segment is an end mark
pub entries-no_end : (extra : ℕ) (s : List ℕ) (i : ℕ) (d : List ℕ) → i < length (entries extra s)
    → is_end (status (get_or (entries extra s) i d)) ≡ false
unfolding entries
entries-no_end extra s i d inside =
    let n : ℕ = position_or_len (λ e. is_end (status e)) (whole extra s) in
    let before : i < n = omega (arith, inside, length-take n (whole extra s)) in
    ap (λ (e : List ℕ). is_end (status e)) (get_or-take n (whole extra s) i d before) ∙ fails_before_first (λ e. is_end (status e))
    (whole extra s) i d before
