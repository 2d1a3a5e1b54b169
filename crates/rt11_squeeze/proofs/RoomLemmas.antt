-- Where a file that is made lies: in the front of the first empty area that is as long.
use Rattle.std.proofs.Common.{◌≡◌, ℕ, zero, suc, ◌+◌, ◌-◌, ◌<◌, ◌≤◌, ◌&&◌, Bool, true, false, nat_le, nat_lt, if◌then◌else◌, List, []}
use Rattle.std.proofs.Common.{◌∷◌, ◌++◌, length, get_or, take, drop, map, filter, sum_by, refl, sym, ◌∙◌, ap, subst, arith, Option, Some}
use Rattle.std.proofs.Common.{None}
use Rattle.std.specs.Prelude.{find, option_map, unwrap_or}
use Rattle.std.specs.Option.{option_or}
use Rattle.std.specs.Int.{bit_at}
use Rattle.std.specs.List.{flat_map, slice_get, range_with_len}
use Rattle.std.proofs.lemmas.Bool.{eqb-true, ltb-true, ltb-false}
use Rattle.std.proofs.lemmas.List.{drop-take, length-map, take-take}
use Rattle.std.proofs.lemmas.List.Elements.{filter-append}
use Rattle.std.proofs.lemmas.List.Folds.{find-append}
use Rattle.std.proofs.lemmas.List.FromFn.{get_or-range_with_len, length-range_with_len}
use Rattle.std.proofs.lemmas.List.Sums.{sum_by-take-drop}
use Rattle.std.proofs.lemmas.Option.{get_or_from_slice_get, slice_get-get_or, slice_get-map, slice_get_within}
use Rattle.f11_dev.specs.Image.{Image}
use Rattle.rt11_volume.specs.Directory.{segment_of, visited}
use Rattle.rt11_volume.specs.Entry.{area_length, file_entry, has_bit, is_empty, is_file_named, is_one_kind, is_same_name, kind, status}
use Rattle.rt11_volume.specs.Files.{CreatesFile, HasArea}
use Rattle.rt11_volume.specs.Listing.{shown_area}
use Rattle.rt11_volume.specs.Named.{Placed, area_of, files_named, placed, placed_in}
use Rattle.rt11_volume.specs.Operations.{back_half, entry_at, front_half, kept_of, needs_split, rest_of, segments_with_file, split_at}
use Rattle.rt11_volume.specs.Operations.{with_entries}
use Rattle.rt11_volume.specs.Operations.{with_file, with_new_file}
use Rattle.rt11_volume.specs.RtName.{IsRtName}
use Rattle.rt11_volume.specs.Searching.Search.{is_empty_for}
use Rattle.rt11_volume.specs.Segment.{Segment, area_start}
use Rattle.rt11_volume.specs.Store.{Area, RtStore, area_at, areas_of, rt_store_of}
use Rattle.rt11_volume.specs.Verifying.Verdict.{IsRtAccepted}
use Rattle.rt11_volume.specs.declared.area.RtArea.{RtArea}
use Rattle.rt11_volume.specs.declared.area.RtKind.TheVariants.{Tentative, Empty, Permanent}
use Rattle.rt11_volume.proofs.Named.Laws.{files-are, named, passes, rt-name-three, same-itself}
use Rattle.rt11_volume.proofs.Named.Placing.{all-entries, at_start, back-at, front-at, placed-append, placed-more, regroup}
use Rattle.rt11_volume.proofs.Rewriting.Edit.{three_words}
use Rattle.rt11_volume.proofs.Verifying.Sound.{sound_from}
use Rattle.rt11_squeeze.specs.Rooms.{areas_listed, is_gap, is_room_for, room_in}

-- the first element that passes
find-first : {X : Type 0} (p : X → Bool) (xs : List X) (k : ℕ) (x : X) → slice_get xs k ≡ Some x → p x ≡ true
    → ((j : ℕ) (y : X) → j < k → slice_get xs j ≡ Some y → p y ≡ false) → find p xs ≡ Some x
find-first p [] k x at is none = absurd (cc)
find-first p (y ∷ xs) zero x at is none =
    let same : y ≡ x = ap (λ (o : Option _). unwrap_or o x) at in
    ap (λ (b : Bool). if b then Some y else find p xs) (ap p same ∙ is) ∙ ap (λ z. Some z) same
find-first p (y ∷ xs) (suc k) x at is none =
    ap (λ (b : Bool). if b then Some y else find p xs) (none 0 y (omega arith) refl)
    ∙ find-first p xs k x at is (λ j z less there. none (suc j) z (omega (arith, less)) there)

find-none : {X : Type 0} (p : X → Bool) (xs : List X) → ((j : ℕ) (y : X) → slice_get xs j ≡ Some y → p y ≡ false) → find p xs ≡ None
find-none p [] none = refl
find-none p (y ∷ xs) none =
    ap (λ (b : Bool). if b then Some y else find p xs) (none 0 y refl) ∙ find-none p xs (λ j z there. none (suc j) z there)

-- the first of pieces that has one
find-piece : {S X : Type 0} (p : X → Bool) (g : S → List X) (segs : List S) (place : ℕ) (seg : S) (x : X) → slice_get segs place ≡ Some seg
    → find p (g seg) ≡ Some x → ((l : ℕ) (s : S) → l < place → slice_get segs l ≡ Some s → find p (g s) ≡ None)
    → find p (flat_map g segs) ≡ Some x
find-piece p g [] place seg x at is none = absurd (cc)
find-piece p g (s ∷ segs) zero seg x at is none =
    let same : s ≡ seg = ap (λ (o : Option _). unwrap_or o seg) at in
    find-append p (g s) (flat_map g segs)
    ∙ ap (λ (o : Option _). option_or o (find p (flat_map g segs))) (ap (λ z. find p (g z)) same ∙ is)
find-piece p g (s ∷ segs) (suc place) seg x at is none =
    find-append p (g s) (flat_map g segs)
    ∙ ap (λ (o : Option _). option_or o (find p (flat_map g segs))) (none 0 s (omega arith) refl)
    ∙ find-piece p g segs place seg x at is (λ l z less there. none (suc l) z (omega (arith, less)) there)

-- what is found of elements that are shown
find-shown : {X Y : Type 0} (p : Y → Bool) (h : X → Y) (xs : List X) → find p (map h xs) ≡ option_map h (find (λ x. p (h x)) xs)
find-shown p h [] = refl
find-shown p h (x ∷ xs) = by (p (h x)) (find-shown p h xs)
  where
    by : (b : Bool) → find p (map h xs) ≡ option_map h (find (λ z. p (h z)) xs)
        → (if b then Some (h x) else find p (map h xs)) ≡ option_map h (if b then Some x else find (λ z. p (h z)) xs)
    by true rest = refl
    by false rest = rest

-- an entry of one kind is an empty area where its kind is
entry-gap : (e : List ℕ) → is_one_kind (status e) ≡ true → is_gap (kind e) ≡ is_empty e
entry-gap e one = by (has_bit (status e) 8) (has_bit (status e) 9) refl refl ∙ sym (ap (λ (b : Bool). b && has_bit (status e) 9) one)
  where
    sum : bit_at (status e) 8 + bit_at (status e) 9 + bit_at (status e) 10 ≡ 1
    sum = eqb-true (bit_at (status e) 8 + bit_at (status e) 9 + bit_at (status e) 10) 1 one

    by : (b c : Bool) → has_bit (status e) 8 ≡ b → has_bit (status e) 9 ≡ c
        → is_gap (if b then Tentative else (if c then Empty else Permanent)) ≡ c
    by true false is also = refl
    by true true is also =
        let eight : bit_at (status e) 8 ≡ 1 = eqb-true (bit_at (status e) 8) 1 is in
        let nine : bit_at (status e) 9 ≡ 1 = eqb-true (bit_at (status e) 9) 1 also in
        absurd (omega (arith, sum, eight, nine))
    by false true is also = refl
    by false false is also = refl

module _ (store : RtStore) where
  -- the areas of a segment
  abbrev areas_in : Segment → List Area
  areas_in seg = map (area_at store seg) (range_with_len 0 (length seg.entries))

  areas-are : areas_of store ≡ flat_map areas_in store.segments
  unfolding areas_of
  areas-are = refl

  area-there : (seg : Segment) (i : ℕ) → i < length seg.entries → slice_get (areas_in seg) i ≡ Some (area_at store seg i)
  area-there seg i inside =
      let n : ℕ = length seg.entries in
      let low : 0 + i ≡ i = omega arith in
      slice_get-map (area_at store seg) (range_with_len 0 n) i
      ∙ ap (option_map (area_at store seg))
      (slice_get-get_or (range_with_len 0 n) i 0 (omega (arith, inside, length-range_with_len 0 n))
      ∙ ap (λ (k : ℕ). Some k) (get_or-range_with_len 0 n i 0 inside ∙ low))

  area-is : (seg : Segment) (j : ℕ) (a : Area) → slice_get (areas_in seg) j ≡ Some a
      → (j < length seg.entries) × (a ≡ area_at store seg j)
  area-is seg j a at =
      let n : ℕ = length seg.entries in
      let inside : j < n = omega (
        arith,
        slice_get_within (areas_in seg) j a at,
        length-map (range_with_len 0 n) (area_at store seg),
        length-range_with_len 0 n,
      ) in
      (inside, ap (λ (o : Option Area). unwrap_or o a) (sym at ∙ area-there seg j inside))

  module _ (blocks : ℕ) where
    abbrev is_room : Area → Bool
    is_room a = is_room_for blocks (shown_area a)

    room-is : (seg : Segment) (j : ℕ) → is_one_kind (status (entry_at seg.entries j)) ≡ true
        → is_room (area_at store seg j) ≡ is_empty_for blocks (entry_at seg.entries j)
    unfolding area_at
    room-is seg j one =
        ap (λ (b : Bool). b && nat_le blocks (area_length (entry_at seg.entries j))) (entry-gap (entry_at seg.entries j) one)

    start-is : (seg : Segment) (i : ℕ) → (area_at store seg i).start ≡ area_start seg i
    unfolding area_at
    start-is seg i = refl

    -- the first empty area that is as long, where each entry is of one kind
    pub room-of : (area : HasArea blocks store)
        → ((l j : ℕ) (s : Segment) → slice_get store.segments l ≡ Some s → j < length s.entries
        → is_one_kind (status (entry_at s.entries j)) ≡ true)
        → room_in (areas_listed store) blocks ≡ Some (area_start area.segment area.i)
    room-of area one =
        let seg : Segment = area.segment in
        let inside : area.i < length seg.entries = slice_get_within seg.entries area.i area.entry area.first.entry_is in
        let entry : entry_at seg.entries area.i ≡ area.entry =
        get_or_from_slice_get seg.entries area.i area.entry [] area.first.entry_is in
        let here : find is_room (areas_in seg) ≡ Some (area_at store seg area.i) =
        find-first is_room (areas_in seg) area.i (area_at store seg area.i) (area-there seg area.i inside)
        (room-is seg area.i (one area.place area.i seg area.first.segment_is inside) ∙ ap (is_empty_for blocks) entry ∙ area.first.passes)
        (λ j a less at.
        let is = area-is seg j a at in
        ap is_room is.1 ∙ room-is seg j (one area.place j seg area.first.segment_is is.0)
        ∙ area.first.none_before j (entry_at seg.entries j) less (slice_get-get_or seg.entries j [] is.0)) in
        let all : find is_room (areas_of store) ≡ Some (area_at store seg area.i) =
        ap (find is_room) areas-are
        ∙ find-piece is_room areas_in store.segments area.place seg (area_at store seg area.i) area.first.segment_is here (λ l s less there.
        find-none is_room (areas_in s) (λ j a at.
        let is = area-is s j a at in
        ap is_room is.1 ∙ room-is s j (one l j s there is.0) ∙ area.first.none_earlier l s less there j [] is.0)) in
        ap (option_map (λ (a : RtArea). a.start))
        (find-shown (is_room_for blocks) shown_area (areas_of store) ∙ ap (option_map shown_area) all)
        ∙ ap (λ (n : ℕ). Some n) (start-is seg area.i)

-- a segment of an image is one that is visited
visited-at : (image : Image) (l : ℕ) (s : Segment) → slice_get (rt_store_of image).segments l ≡ Some s
    → (k : ℕ) × ((slice_get (visited image) l ≡ Some k) × (s ≡ segment_of image k))
unfolding rt_store_of
visited-at image l s at = by (slice_get (visited image) l) refl (sym (slice_get-map (segment_of image) (visited image) l) ∙ at)
  where
    by : (o : Option ℕ) → slice_get (visited image) l ≡ o → option_map (segment_of image) o ≡ Some s
        → (k : ℕ) × ((slice_get (visited image) l ≡ Some k) × (s ≡ segment_of image k))
    by None there is = absurd (cc)
    by (Some k) there is = (k, (there, ap (λ (o : Option Segment). unwrap_or o s) (sym is)))

-- of an accepted image
pub image-room : (image : Image) (blocks : ℕ) → IsRtAccepted image → (area : HasArea blocks (rt_store_of image))
    → room_in (areas_listed (rt_store_of image)) blocks ≡ Some (area_start area.segment area.i)
image-room image blocks accepted area = room-of (rt_store_of image) blocks area one
  where
    one : (l j : ℕ) (s : Segment) → slice_get (rt_store_of image).segments l ≡ Some s → j < length s.entries
        → is_one_kind (status (entry_at s.entries j)) ≡ true
    one l j s at inside =
        let k : (k : ℕ) × ((slice_get (visited image) l ≡ Some k) × (s ≡ segment_of image k)) = visited-at image l s at in
        ((sound_from image accepted).each l k.0 k.1.0).one_kind j (entry_at s.entries j)
        (subst (λ (z : Segment). slice_get z.entries j ≡ Some (entry_at s.entries j)) k.1.1 (slice_get-get_or s.entries j [] inside))

-- An area that is placed among others.
record IsAmong (p : Placed) (ps : List Placed) : Type 0 where
  before : List Placed
  behind : List Placed
  is : ps ≡ before ++ (p ∷ behind)

-- where a new file is placed: in the front of its area
create-among : (store : RtStore) (place i : ℕ) (seg : Segment) (name : List ℕ) (blocks day : ℕ)
    → slice_get store.segments place ≡ Some seg
    → IsAmong (at_start (file_entry store.extra name blocks day) (area_start seg i))
    (placed_in (segments_with_file store place i seg name blocks day))
unfolding segments_with_file
create-among store place i seg name blocks day at = by_split (needs_split store.extra seg i blocks)
  where
    kept : ℕ
    kept = kept_of (length seg.entries)

    number : ℕ
    number = store.highest + 1

    segs : List Segment
    segs = split_at store.segments place number seg

    file : List ℕ
    file = file_entry store.extra name blocks day

    Puts : List Segment → Type 0
    Puts new = IsAmong (at_start file (area_start seg i)) (placed_in new)

    in_half : (all : List Segment) (at_place : ℕ) (half : Segment) (j : ℕ) → slice_get all at_place ≡ Some half
        → area_start half j ≡ area_start seg i
        → Puts (with_entries all at_place (with_file store.extra half.entries j name blocks day))
    in_half all at_place half j there start =
        let es : List (List ℕ) = half.entries in
        let p : List Placed = placed_in (take at_place all) in
        let q : List Placed = placed_in (drop (at_place + 1) all) in
        let a : List Placed = placed half.first (take j es) in
        let rest : List (List ℕ) = rest_of store.extra (area_length (entry_at es j)) blocks ++ drop (j + 1) es in
        let b : List Placed = placed (area_start half j + area_length file) rest in
        record {
          before = p ++ a;
          behind = b ++ q;
          is = all-entries all at_place half (with_file store.extra es j name blocks day) there
              ∙ ap (λ ps. p ++ (ps ++ q))
              (placed-append half.first (take j es) (file ∷ rest) ∙ ap (λ ps. a ++ ps) (placed-more (area_start half j) file rest))
              ∙ regroup p a (at_start file (area_start half j) ∷ b) q
              ∙ ap (λ (n : ℕ). (p ++ a) ++ (at_start file n ∷ (b ++ q))) start;
        }

    by_half : (c : Bool) → c ≡ nat_lt i kept
        → Puts (if c then with_entries segs place (with_file store.extra (front_half seg).entries i name blocks day)
        else with_entries segs (place + 1) (with_file store.extra (back_half number seg).entries (i - kept) name blocks day))
    by_half true early =
        let less : i < kept = ltb-true i kept (sym early) in
        in_half segs place (front_half seg) i (front-at store.segments place number seg at)
        (ap (λ (es : List (List ℕ)). seg.first + sum_by area_length es) (take-take i kept seg.entries (omega (arith, less))))
    by_half false late =
        let more : kept ≤ i = ltb-false i kept (sym late) in
        let sum : kept + (i - kept) ≡ i = omega (arith, more) in
        let front : take kept (take i seg.entries) ≡ take kept seg.entries = take-take kept i seg.entries more in
        let back : drop kept (take i seg.entries) ≡ take (i - kept) (drop kept seg.entries) =
        ap (λ n. drop kept (take n seg.entries)) (sym sum) ∙ drop-take kept (i - kept) seg.entries in
        let parts = sum_by-take-drop area_length (take i seg.entries) kept in
        let one : sum_by area_length (take kept (take i seg.entries)) ≡ sum_by area_length (take kept seg.entries) =
        ap (sum_by area_length) front in
        let two : sum_by area_length (drop kept (take i seg.entries)) ≡ sum_by area_length (take (i - kept) (drop kept seg.entries)) =
        ap (sum_by area_length) back in
        in_half segs (place + 1) (back_half number seg) (i - kept) (back-at store.segments place number seg at)
        (omega (arith, parts, one, two))

    by_split : (b : Bool)
        → Puts (if b then (if nat_lt i kept then with_entries segs place (with_file store.extra (front_half seg).entries i name blocks day)
        else with_entries segs (place + 1) (with_file store.extra (back_half number seg).entries (i - kept) name blocks day))
        else with_entries store.segments place (with_file store.extra seg.entries i name blocks day))
    by_split true = by_half (nat_lt i kept) refl
    by_split false = in_half store.segments place seg i at refl

-- the one element that is made of some is that of each of them
only-made : {A B : Type 0} (f : A → B) (xs : List A) (p : A) (ys : List A) (one : B) → map f (xs ++ (p ∷ ys)) ≡ one ∷ [] → f p ≡ one
only-made f [] p ys one is = ap (λ (l : List _). get_or l 0 one) is
only-made f (x ∷ []) p ys one is = absurd (cc)
only-made f (x ∷ (y ∷ xs)) p ys one is = absurd (cc)

new-segments : (store : RtStore) (place i : ℕ) (seg : Segment) (name : List ℕ) (blocks day : ℕ)
    → (with_new_file store place i seg name blocks day).segments ≡ segments_with_file store place i seg name blocks day
unfolding with_new_file
new-segments store place i seg name blocks day = refl

-- a file that is made lies in the front of the first empty area that is as long
pub made-there : (name : List ℕ) (blocks day : ℕ) (old new : Image) → IsRtAccepted old → IsRtName name → CreatesFile name blocks day old new
    → (file : Area) → files_named name (rt_store_of new) ≡ file ∷ []
    → room_in (areas_listed (rt_store_of old)) blocks ≡ Some file.start
made-there name blocks day old new accepted is made file one =
    let store : RtStore = rt_store_of old in
    let area = made.area in
    let seg : Segment = area.segment in
    let three : length name ≡ 3 = rt-name-three name is in
    let among = create-among store area.place area.i seg name blocks day area.first.segment_is in
    let p : Placed = at_start (file_entry store.extra name blocks day) (area_start seg area.i) in
    let has : named name p ≡ true =
    ap (λ (n : List ℕ). is_file_named name (file_entry store.extra n blocks day)) (three_words name three)
    ∙ ap (λ (n : List ℕ). is_same_name n name) (sym (three_words name three)) ∙ same-itself name in
    let segs : placed_in (rt_store_of new).segments ≡ among.before ++ (p ∷ among.behind) =
    ap (λ (s : RtStore). placed_in s.segments) made.store_is
    ∙ ap placed_in (new-segments store area.place area.i seg name blocks day) ∙ among.is in
    let list : filter (named name) (placed_in (rt_store_of new).segments)
    ≡ filter (named name) among.before ++ (p ∷ filter (named name) among.behind) =
    ap (filter (named name)) segs ∙ filter-append (named name) among.before (p ∷ among.behind)
    ∙ ap (λ ps. filter (named name) among.before ++ ps) (passes name p among.behind has) in
    let files : map (area_of (rt_store_of new).block) (filter (named name) among.before ++ (p ∷ filter (named name) among.behind)) ≡ file ∷
    [] =
    sym (files-are name (rt_store_of new) ∙ ap (map (area_of (rt_store_of new).block)) list) ∙ one in
    image-room old blocks accepted area
    ∙ ap (λ (a : Area). Some a.start) (only-made (area_of (rt_store_of new).block) (filter (named name) among.before) p
    (filter (named name) among.behind) file files)
