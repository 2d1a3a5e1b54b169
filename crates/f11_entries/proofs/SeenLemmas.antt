-- A directory's records, seen block by block.
use Rattle.std.proofs.Common.{◌≡◌, ℕ, zero, suc, ◌+◌, ◌-◌, ◌*◌, ◌/◌, ◌%◌, ◌<◌, ◌≤◌, ◌==◌, ◌&&◌, Bool, true, false, List, [], ◌∷◌, ◌++◌}
use Rattle.std.proofs.Common.{Option, Some, None, length, get_or, map, min, nat_lt, nat_le, is_none, unwrap_or, if◌then◌else◌, refl, sym}
use Rattle.std.proofs.Common.{◌∙◌, ap, subst, arith, length-append}
use Rattle.std.specs.Prelude.{position, find}
use Rattle.std.specs.List.{range_with_len, position_or_len, list_any, slice_get}
use Rattle.std.proofs.lemmas.Bool.{lt-ltb, ltb-true}
use Rattle.std.proofs.lemmas.Bool.Decides.{nat_tests}
use Rattle.std.proofs.lemmas.List.{get_or-append-add}
use Rattle.std.proofs.lemmas.List.Sums.{position_or_len_is, fails_before_first}
use Rattle.std.proofs.lemmas.List.Quantifiers.{position-Some}
use Rattle.std.proofs.lemmas.List.FromFn.{length-map-range_with_len, get_or-map-range_with_len}
use Rattle.std.proofs.lemmas.Option.{get_or_from_slice_get, slice_get-get_or}
use Rattle.f11_store.specs.File.{File, no_file, length_of, zero_block, zero_blocks}
use Rattle.f11_store.proofs.SlotsFirst.{gained-is-ready, of-stays}
use Rattle.f11_store.specs.declared.files.FileId.{FileId}
use Rattle.f11_store.specs.Causes.{is_missing}
use Rattle.f11_store.specs.Store.{Store, of_sequence, file_named, file_of}
use Rattle.f11_store.specs.Directory.{record_at, record_in, entry_count, entries_of, index_of_name, is_entered, has_name, is_empty}
use Rattle.f11_store.specs.Directory.{index_of_empty, needs_block, with_record}
use Rattle.f11_store.specs.Changes.{grown_file, Extends}
use Rattle.f11_store.proofs.RecordLemmas.{first_found, some_passes}
use Rattle.f11_dir.specs.Records.{records_in}
use Rattle.std.specs.Option.{option_and_then}
use Rattle.f11_entries.proofs.GrownLemmas.{grown_there, named_grown}
use Rattle.f11_entries.specs.Seen.{NamedIsThere, first_records, seen, here, first_place, LookingBegins, LookingGoesOn, IsFirstOf}
use Rattle.f11_entries.specs.Seen.{NameIsFound, LookingEnds, EntryIsPut, BlockIsThere, IsNewBlock, NewBlockIsZeros}

-- the first of n things that passes a test, if there is one
abbrev IsPlace : (ℕ → Bool) → ℕ → Option ℕ → Type 0
IsPlace q n None = (j : ℕ) → j < n → q j ≡ false
IsPlace q n (Some i) = (i < n) × (q i ≡ true) × ((j : ℕ) → j < i → q j ≡ false)

-- the place found in a list made from a function
found_place : (p : List ℕ → Bool) (g : ℕ → List ℕ) (n : ℕ) (o : Option ℕ) → position p (map g (range_with_len 0 n)) ≡ o
    → IsPlace (λ j. p (g j)) n o
found_place p g n (Some i) h =
    (within, ap p (sym (at i within)) ∙ some.1, λ j below. ap p (sym (at j (omega (arith, below, within)))) ∙ some.2 j below)
  where
    some : (i < length (map g (range_with_len 0 n))) × (p (get_or (map g (range_with_len 0 n)) i []) ≡ true)
        × ((k : ℕ) → k < i → p (get_or (map g (range_with_len 0 n)) k []) ≡ false)
    some = position-Some p (map g (range_with_len 0 n)) i [] h

    within : i < n
    within = subst (λ (m : ℕ). i < m) (length-map-range_with_len g 0 n) some.0

    at : (j : ℕ) → j < n → get_or (map g (range_with_len 0 n)) j [] ≡ g j
    at j below = get_or-map-range_with_len g 0 n j j [] below (omega arith)
found_place p g n None h = by_test (nat_lt (position_or_len p xs) (length xs)) refl h
  where
    xs : List (List ℕ)
    xs = map g (range_with_len 0 n)

    by_test : (b : Bool) → nat_lt (position_or_len p xs) (length xs) ≡ b → (if b then Some (position_or_len p xs) else None) ≡ None
        → (j : ℕ) → j < n → p (g j) ≡ false
    by_test true t e = absurd (cc)
    by_test false t e = λ j below.
        let long : length xs ≡ n = length-map-range_with_len g 0 n in
        let past : length xs ≤ position_or_len p xs = grind (arith, nat_tests) in
        ap p (sym (get_or-map-range_with_len g 0 n j j [] below (omega arith)))
        ∙ fails_before_first p xs j [] (omega (arith, below, long, past))

-- and what is so is found
place_found : (p : List ℕ → Bool) (g : ℕ → List ℕ) (n : ℕ) (o : Option ℕ) → IsPlace (λ j. p (g j)) n o
    → position p (map g (range_with_len 0 n)) ≡ o
place_found p g n (Some i) h = let inside = lt-ltb i (length xs) (omega (arith, long, h.0)) in rw (is, inside) refl
  where
    xs : List (List ℕ)
    xs = map g (range_with_len 0 n)

    long : length xs ≡ n
    long = length-map-range_with_len g 0 n

    at : (j : ℕ) → j < n → get_or xs j [] ≡ g j
    at j below = get_or-map-range_with_len g 0 n j j [] below (omega arith)

    is : position_or_len p xs ≡ i
    is =
        position_or_len_is p xs i [] (omega (arith, long, h.0)) (λ k below. ap p (at k (omega (arith, below, h.0))) ∙ h.2 k below)
        (λ below. ap p (at i h.0) ∙ h.1)
place_found p g n None h = rw is (by_test (nat_lt (length xs) (length xs)) refl)
  where
    xs : List (List ℕ)
    xs = map g (range_with_len 0 n)

    long : length xs ≡ n
    long = length-map-range_with_len g 0 n

    is : position_or_len p xs ≡ length xs
    is = position_or_len_is p xs (length xs) [] (omega arith)
        (λ k below. ap p (get_or-map-range_with_len g 0 n k k [] (omega (arith, below, long)) (omega arith))
        ∙ h k (omega (arith, below, long)))
        (λ below. absurd (omega (arith, below)))

    by_test : (b : Bool) → nat_lt (length xs) (length xs) ≡ b → (if b then Some (length xs) else None) ≡ None
    by_test false e = refl
    by_test true e = absurd (grind (arith, nat_tests))

-- what is true of numbers below m, and of m and up, is true of those below both
below_both : (q w : ℕ → Bool) (m u : ℕ) → ((j : ℕ) → j < u → q (m + j) ≡ w j) → ((j : ℕ) → j < m → q j ≡ false) →
    (k : ℕ) → k ≤ u → ((j : ℕ) → j < k → w j ≡ false) → (j : ℕ) → j < m + k → q j ≡ false
below_both q w m u same low k few high j below = by_test (nat_lt j m) refl
  where
    by_test : (b : Bool) → nat_lt j m ≡ b → q j ≡ false
    by_test true e = low j (ltb-true j m e)
    by_test false e =
        let above : m ≤ j = grind (arith, nat_tests) in
        let at : m + (j - m) ≡ j = omega (arith, above) in
        subst (λ (i : ℕ). q i ≡ false) at (same (j - m) (omega (arith, above, below, few)) ∙ high (j - m) (omega (arith, above, below)))

-- the first of so many, and then of so many more
place_then : (q w : ℕ → Bool) (m u : ℕ) (o next : Option ℕ) → ((j : ℕ) → j < u → q (m + j) ≡ w j) → IsPlace q m o → IsPlace w u next
    → IsPlace q (m + u) (first_place m o next)
place_then q w m u (Some i) next same h k = (omega (arith, h.0), h.1, h.2)
place_then q w m u None None same h k = below_both q w m u same h u (omega arith) k
place_then q w m u None (Some p) same h k = (omega (arith, k.0), same p k.0 ∙ k.1, below_both q w m u same h p (omega (arith, k.0)) k.2)

-- a record of block k
record_here : (blocks : List (List ℕ)) (k j : ℕ) (block : List ℕ) → slice_get blocks k ≡ Some block → j < 32
    → record_at blocks (32 * k + j) ≡ record_in block j
unfolding record_at
record_here blocks k j block is below =
    let over : (32 * k + j) / 32 ≡ k = omega (arith, below) in
    let left : (32 * k + j) % 32 ≡ j = omega (arith, below) in
    rw (over, left, get_or_from_slice_get blocks k block [] is) refl

-- how many were seen before the end
seen_whole : (f : File) (k : ℕ) → 32 * k ≤ entry_count f → seen f k ≡ 32 * k
seen_whole f k h = omega (arith, h)

seen_more : (f : File) (k : ℕ) → 32 * k ≤ entry_count f → seen f (k + 1) ≡ 32 * k + here f k
seen_more f k h = omega (arith, h)

-- the first that passes in one block more
place_goes_on :
    (p : List ℕ → Bool) (f : File) (k : ℕ) (o next : Option ℕ) (block : List ℕ) → 32 * k ≤ entry_count f → slice_get f.blocks k ≡ Some block
    →
    position p (first_records f.blocks (seen f k)) ≡ o → position p (records_in block (here f k)) ≡ next →
    position p (first_records f.blocks (seen f (k + 1))) ≡ first_place (32 * k) o next
unfolding first_records records_in
place_goes_on p f k o next block low is was now =
    rw (seen_more f k low) (place_found p (record_at f.blocks) (32 * k + here f k) (first_place (32 * k) o next)
    (place_then (λ j. p (record_at f.blocks j)) (λ j. p (record_in block j)) (32 * k) (here f k) o next
    (λ j below. ap p (record_here f.blocks k j block is (omega (arith, below))))
    (found_place p (record_at f.blocks) (32 * k) o
    (subst (λ (n : ℕ). position p (map (record_at f.blocks) (range_with_len 0 n)) ≡ o) (seen_whole f k low) was))
    (found_place p (record_in block) (here f k) next now)))

pub looking_begins : LookingBegins
unfolding first_records
looking_begins name f =
    let none : min (entry_count f) (32 * 0) ≡ 0 = omega arith in
    record { none = rw none refl; empty_is = rw none refl }

pub looking_goes_on : LookingGoesOn
looking_goes_on name f k empty block looked more is none = record {
  none = place_goes_on (has_name name) f k None None block (omega (arith, more)) is looked.none none;
  empty_is = sym (place_goes_on is_empty f k empty (position is_empty (records_in block (here f k))) block (omega (arith, more)) is
      (sym looked.empty_is) refl);
}

-- all records, as those seen
all_seen : (f : File) (k : ℕ) → entry_count f ≤ 32 * k → first_records f.blocks (seen f k) ≡ entries_of f
unfolding first_records entries_of
all_seen f k h = let all : min (entry_count f) (32 * k) ≡ entry_count f = omega (arith, h) in rw all refl

-- no number passes, so none of the list does
none_any : (p : List ℕ → Bool) (g : ℕ → List ℕ) (a m : ℕ) → ((j : ℕ) → a ≤ j → j < a + m → p (g j) ≡ false)
    → list_any p (map g (range_with_len a m)) ≡ false
none_any p g a zero h = refl
none_any p g a (suc m) h =
    rw (h a (omega arith) (omega arith)) (none_any p g (a + 1) m (λ j low high. h j (omega (arith, low)) (omega (arith, high))))

none_entered : (name : List ℕ) (f : File) → index_of_name name f ≡ None → is_entered name f ≡ false
unfolding entries_of
none_entered name f h =
    none_any (has_name name) (record_at f.blocks) 0 (entry_count f)
    (λ j low high. found_place (has_name name) (record_at f.blocks) (entry_count f) None h j (omega (arith, high)))

pub looking_ends : LookingEnds
looking_ends name f k empty looked done = record {
  index = index;
  entered = none_entered name f index;
  empty_is = first;
  needs = rw first refl;
}
  where
    index : index_of_name name f ≡ None
    index = ap (position (has_name name)) (sym (all_seen f k done)) ∙ looked.none

    first : index_of_empty f ≡ empty
    first = ap (position is_empty) (sym (all_seen f k done)) ∙ sym looked.empty_is

-- the first place with the name
first_of_name :
    (name : List ℕ) (f : File) (i : ℕ) (r : List ℕ) → i < entry_count f
    → IsPlace (λ j. has_name name (record_at f.blocks j)) (entry_count f) (Some i) →
    record_at f.blocks i ≡ r → IsFirstOf name f i r
unfolding entries_of
first_of_name name f i r within place is = record {
  index = place_found (has_name name) (record_at f.blocks) (entry_count f) (Some i) place;
  entered = some_passes (has_name name) (map (record_at f.blocks) (range_with_len 0 (entry_count f))) (record_at f.blocks i) found;
  is = ap (λ o. unwrap_or o []) found ∙ is;
  within = within;
}
  where
    found : find (has_name name) (map (record_at f.blocks) (range_with_len 0 (entry_count f))) ≡ Some (record_at f.blocks i)
    found =
        first_found (has_name name) (record_at f.blocks) 0 (entry_count f) i (omega arith) (omega (arith, within)) place.1
        (λ j low below. place.2 j below)

pub name_is_found : NameIsFound
unfolding first_records records_in
name_is_found name f k p empty block looked more is now =
    first_of_name name f (32 * k + p) (record_in block p) (omega (arith, place.0)) (omega (arith, place.0), place.1, place.2)
    (record_here f.blocks k p block is (omega (arith, there.0)))
  where
    place : IsPlace (λ j. has_name name (record_at f.blocks j)) (seen f (k + 1)) (Some (32 * k + p))
    place = found_place (has_name name) (record_at f.blocks) (seen f (k + 1)) (Some (32 * k + p))
        (place_goes_on (has_name name) f k None (Some p) block (omega (arith, more)) is looked.none now)

    there : IsPlace (λ j. has_name name (record_in block j)) (here f k) (Some p)
    there = found_place (has_name name) (record_in block) (here f k) (Some p) now

pub entry_is_put : EntryIsPut
unfolding with_record
entry_is_put f k p block r below is =
    let over : (32 * k + p) / 32 ≡ k = omega (arith, below) in
    let left : (32 * k + p) % 32 ≡ p = omega (arith, below) in
    let place : k + 1 - 1 ≡ k = omega arith in
    rw (over, left, get_or_from_slice_get f.blocks k block [] is, place) refl

pub block_is_there : BlockIsThere
block_is_there f k h = omega (arith, h)

-- both hold where the two tests do
both : (b c : Bool) → (b && c) ≡ true → c ≡ true
both true c h = h
both false c h = absurd (cc)

-- the file with one more block
is_new_block : (s : Store) (f : File) (added pointers room : ℕ) → needs_block f ≡ true
    → IsNewBlock f (grown_file s f (zero_blocks 1) added pointers room)
unfolding zero_blocks
is_new_block s f added pointers room needs = record {
  count = count;
  block = slice_get-get_or (f.blocks ++ zero_block ∷ []) (length f.blocks) [] (rw long (omega arith)) ∙ ap Some last;
  attr = refl;
  length_is = long;
}
  where
    long : length (f.blocks ++ zero_block ∷ []) ≡ length f.blocks + 1
    long = length-append f.blocks (zero_block ∷ [])

    last : get_or (f.blocks ++ zero_block ∷ []) (length f.blocks) [] ≡ zero_block
    last = let e : length f.blocks ≡ length f.blocks + 0 = omega arith in
        ap (λ (n : ℕ). get_or (f.blocks ++ zero_block ∷ []) n []) e ∙ get_or-append-add f.blocks (zero_block ∷ []) 0 []

    count : entry_count f ≡ 32 * length_of f
    count =
        let full : nat_le (512 * length f.blocks) (16 * entry_count f) ≡ true = both (is_none (index_of_empty f)) _ needs in
        let past : 512 * length f.blocks ≤ 16 * entry_count f = grind (arith, nat_tests) in
        omega (arith, past)

-- after a block more, whose headers were free
zeros_in_block :
    (grown s : Store) (d : FileId) → is_missing s d ≡ false → needs_block (file_named s d) ≡ true → Extends s d.number 1 grown →
    (is_missing grown d ≡ false) × IsNewBlock (file_named s d) (file_named grown d)
zeros_in_block grown s d there needs grows = (
  ap is_none (grown_there s grown d there grows),
  subst (λ (g : File). IsNewBlock (file_named s d) g) (sym (named_grown s grown d there grows))
      (is_new_block s (file_named s d) grows.added grows.pointers grows.room needs),
)

pub new_block_is_zeros : NewBlockIsZeros
new_block_is_zeros grown s d other there needs h =
    let same : file_of h.ready d ≡ file_of s d = of-stays s h.ready _ d (gained-is-ready s h.ready _ h.gains) other in
    let named : file_named h.ready d ≡ file_named s d = ap (λ (o : Option File). unwrap_or o no_file) same in
    let zeros = zeros_in_block grown h.ready d (ap is_none same ∙ there) (ap needs_block named ∙ needs) h.makes in
    (zeros.0, subst (λ (f : File). IsNewBlock f (file_named grown d)) named zeros.1)

pub named_is_there : NamedIsThere
named_is_there s d there = at (s.file d.number) there
  where
    at : (o : Option File) → is_none (option_and_then (of_sequence d.sequence) o) ≡ false
        → o ≡ Some (unwrap_or (option_and_then (of_sequence d.sequence) o) no_file)
    at None h = absurd (cc)
    at (Some f) h = by_test (f.sequence == d.sequence) h
      where
        by_test : (b : Bool) → is_none (if b then Some f else None) ≡ false → Some f ≡ Some (unwrap_or (if b then Some f else None) no_file)
        by_test true e = refl
        by_test false e = absurd (cc)
