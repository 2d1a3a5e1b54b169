-- What the calls on a volume's files make of the files of each name.
use Rattle.std.proofs.Common.{◌≡◌, inl, ℕ, zero, suc, ◌+◌, ◌-◌, ◌<◌, ◌≤◌, ◌==◌, ◌&&◌, Bool, true, false, nat_lt, if◌then◌else◌, List, []}
use Rattle.std.proofs.Common.{◌∷◌, ◌++◌, length, get_or, take, drop, map, filter, sum_by, refl, sym, ◌∙◌, ap, subst, append-nil, arith}
use Rattle.std.proofs.Common.{Some}
use Rattle.std.specs.Prelude.{slice_set}
use Rattle.std.specs.List.{All, slice_get, range_with_len}
use Rattle.std.specs.Int.{bit_at}
use Rattle.std.proofs.lemmas.Bool.{and_parts, eqb-true, ltb-true, ltb-false, ne_eqb, eq-eqb}
use Rattle.std.proofs.lemmas.List.{get_or-take, get_or-drop, length-drop, length-map, length-take-le, map-append}
use Rattle.std.proofs.lemmas.List.Elements.{filter-append}
use Rattle.std.proofs.lemmas.List.FromFn.{length-range_with_len}
use Rattle.std.proofs.lemmas.Option.{slice_get-get_or, slice_get_within, get_or_from_slice_get}
use Rattle.f11_dev.specs.Image.{Image}
use Rattle.rt11_volume.specs.Directory.{data_start}
use Rattle.rt11_volume.specs.Entry.{area_length, file_entry, has_bit, is_empty, is_file_named, is_one_kind, is_permanent, is_same_name}
use Rattle.rt11_volume.specs.Entry.{name_words, status}
use Rattle.rt11_volume.specs.Files.{HasFile, HasNoFile, file_area, CreatesFile, WritesBlock, DeletesFile}
use Rattle.rt11_volume.specs.Laws.{IsFirstNamed, HasMade, HasReplaced, HasGone}
use Rattle.rt11_volume.specs.Named.{Placed, placed, placed_in, area_of, files_named}
use Rattle.rt11_volume.specs.Operations.{back_half, entry_at, front_half, kept_of, needs_split, segments_with_file, split_at}
use Rattle.rt11_volume.specs.Operations.{with_area_emptied, with_block, with_entries, with_file, with_new_file, without_file}
use Rattle.rt11_volume.specs.RtName.{IsRtName, rt_words_of}
use Rattle.rt11_volume.specs.Searching.Search.{is_empty_for}
use Rattle.rt11_volume.specs.Segment.{Segment, area_start}
use Rattle.rt11_volume.specs.Store.{RtStore, Area, area_at, rt_store_of}
use Rattle.rt11_volume.specs.Verifying.Verdict.{IsRtAccepted}
use Rattle.rt11_volume.proofs.CreateLemmas.{area-fits}
use Rattle.rt11_volume.proofs.Named.Ascending.{Ascends, image-ascends, replaced, range-kept, behind-kept, before-kept, ascends-behind}
use Rattle.rt11_volume.proofs.Named.Changing.{AreEmpty, IsPut, IsJoined, put-in, joined-in}
use Rattle.rt11_volume.proofs.Named.Placing.{all-around, at_start, back-at, front-at, segments-more, segments-nil, split-same}
use Rattle.rt11_volume.proofs.Rewriting.Edit.{three_words}
use Rattle.rt11_volume.proofs.Verifying.Sound.{sound_from}

-- whether an area is that of a file of this name
abbrev pub named : List ℕ → Placed → Bool
named name p = is_file_named name p.entry

pub files-are : (name : List ℕ) (store : RtStore)
    → files_named name store ≡ map (area_of store.block) (filter (named name) (placed_in store.segments))
unfolding files_named
files-are name store = refl

-- one that passes, and one that doesn't
pub passes : (name : List ℕ) (p : Placed) (ps : List Placed) → named name p ≡ true
    → filter (named name) (p ∷ ps) ≡ p ∷ filter (named name) ps
passes name p ps is = ap (λ (b : Bool). if b then p ∷ filter (named name) ps else filter (named name) ps) is

pub fails : (name : List ℕ) (p : Placed) (ps : List Placed) → named name p ≡ false → filter (named name) (p ∷ ps) ≡ filter (named name) ps
fails name p ps is = ap (λ (b : Bool). if b then p ∷ filter (named name) ps else filter (named name) ps) is

-- an empty area is no file
empty-unnamed : (name e : List ℕ) → is_empty e ≡ true → is_file_named name e ≡ false
empty-unnamed name e is =
    let parts = and_parts (is_one_kind (status e)) (has_bit (status e) 9) is in
    let one : bit_at (status e) 8 + bit_at (status e) 9 + bit_at (status e) 10 ≡ 1 =
    eqb-true (bit_at (status e) 8 + bit_at (status e) 9 + bit_at (status e) 10) 1 parts.0 in
    let nine : bit_at (status e) 9 ≡ 1 = eqb-true (bit_at (status e) 9) 1 parts.1 in
    let ten : has_bit (status e) 10 ≡ false = ne_eqb (bit_at (status e) 10) 1 (λ same. omega (arith, one, nine, same)) in
    (λ t. (is_one_kind (status e) && ten t) && is_same_name (name_words e) name)
    ∙ unless (is_one_kind (status e)) (is_same_name (name_words e) name)
  where
    unless : (b c : Bool) → ((b && false) && c) ≡ false
    unless true c = refl
    unless false c = refl

none-empty : (name : List ℕ) (ps : List Placed) → AreEmpty ps → filter (named name) ps ≡ []
none-empty name _ AreEmpty.none = refl
none-empty name _ (AreEmpty.one e start is) = fails name (at_start e start) [] (empty-unnamed name e is)

-- where no entry passes, no area is one of a file of the name
none-placed : (name : List ℕ) (start : ℕ) (es : List (List ℕ)) → All (λ e. is_file_named name e ≡ false) es
    → filter (named name) (placed start es) ≡ []
unfolding placed
none-placed name start [] none = refl
none-placed name start (e ∷ es) none =
    fails name (at_start e start) (placed (start + area_length e) es) (none zero e (omega arith))
    ∙ none-placed name (start + area_length e) es (λ i d within. none (suc i) d (omega (arith, within)))

pub none-in : (name : List ℕ) (segs : List Segment) → All (λ (s : Segment). All (λ e. is_file_named name e ≡ false) s.entries) segs
    → filter (named name) (placed_in segs) ≡ []
none-in name [] none = ap (filter (named name)) segments-nil
none-in name (s ∷ segs) none =
    ap (filter (named name)) (segments-more s segs) ∙ filter-append (named name) (placed s.first s.entries) (placed_in segs)
    ∙ (λ t. none-placed name s.first s.entries (none zero s (omega arith)) t ++ none-in name segs
    (λ i d within. none (suc i) d (omega (arith, within))) t)

pub no-file : (name : List ℕ) (store : RtStore) → HasNoFile name store → files_named name store ≡ []
no-file name store none = files-are name store ∙ ap (map (area_of store.block)) (none-in name store.segments none)

-- What stands around the area of a file.
pub record HasPlace (name : List ℕ) (store : RtStore) (file : HasFile name store) : Type 0 where
  pub p : Placed
  pub before : List Placed
  pub before_is : before ≡ placed_in (take file.place store.segments) ++ placed file.segment.first (take file.i file.segment.entries)
  pub p_is : p ≡ at_start (entry_at file.segment.entries file.i) (area_start file.segment file.i)
  pub behind : List Placed
  pub behind_is : behind ≡ placed (file.segment.first + sum_by area_length (take (file.i + 1) file.segment.entries))
      (drop (file.i + 1) file.segment.entries) ++ placed_in (drop (file.place + 1) store.segments)
  pub all : placed_in store.segments ≡ before ++ (p ∷ behind)
  pub none_before : filter (named name) before ≡ []
  pub passes_it : named name p ≡ true
  pub area : area_of store.block p ≡ file_area file
  pub start_is : p.start ≡ (file_area file).start
  pub length_is : area_length p.entry ≡ (file_area file).length

pub file-place : (name : List ℕ) (store : RtStore) (file : HasFile name store) → HasPlace name store file
unfolding area_at
file-place name store file =
    let segs : List Segment = store.segments in
    let seg : Segment = file.segment in
    let inside : file.i < length seg.entries = slice_get_within seg.entries file.i file.entry file.first.entry_is in
    let on : file.place < length segs = slice_get_within segs file.place seg file.first.segment_is in
    let entry : get_or seg.entries file.i [] ≡ file.entry = get_or_from_slice_get seg.entries file.i file.entry [] file.first.entry_is in
    record {
      p = at_start (get_or seg.entries file.i []) (area_start seg file.i);
      before = placed_in (take file.place segs) ++ placed seg.first (take file.i seg.entries);
      behind = placed (seg.first + sum_by area_length (take (file.i + 1) seg.entries)) (drop (file.i + 1) seg.entries) ++ placed_in
          (drop (file.place + 1) segs);
      before_is = refl;
      behind_is = refl;
      p_is = refl;
      all = all-around segs file.place seg file.i file.first.segment_is inside;
      none_before = filter-append (named name) (placed_in (take file.place segs)) (placed seg.first (take file.i seg.entries))
          ∙ (λ t. none-in name (take file.place segs) (earlier on) t ++ none-placed name seg.first (take file.i seg.entries) (above inside)
          t);
      passes_it = ap (is_file_named name) entry ∙ file.first.passes;
      area = refl;
      start_is = refl;
      length_is = refl;
    }
  where
    above : file.i < length file.segment.entries → All (λ e. is_file_named name e ≡ false) (take file.i file.segment.entries)
    above inside j d within =
        let size : length (take file.i file.segment.entries) ≡ file.i = length-take-le file.i file.segment.entries (omega (arith, inside))
        in
        let less : j < file.i = omega (arith, within, size) in
        ap (is_file_named name) (get_or-take file.i file.segment.entries j d less)
        ∙ file.first.none_before j (get_or file.segment.entries j d) less
        (slice_get-get_or file.segment.entries j d (omega (arith, less, inside)))

    earlier : file.place < length store.segments
        → All (λ (s : Segment). All (λ e. is_file_named name e ≡ false) s.entries) (take file.place store.segments)
    earlier on j d within =
        let size : length (take file.place store.segments) ≡ file.place = length-take-le file.place store.segments (omega (arith, on)) in
        let less : j < file.place = omega (arith, within, size) in
        subst (λ (s : Segment). All (λ e. is_file_named name e ≡ false) s.entries) (sym (get_or-take file.place store.segments j d less))
        (file.first.none_earlier j (get_or store.segments j d) less (slice_get-get_or store.segments j d (omega (arith, less, on))))

-- the files of the name among the areas
pub file-list : (name : List ℕ) (before : List Placed) (p : Placed) (behind : List Placed) → filter (named name) before ≡ []
    → named name p ≡ true
    → filter (named name) (before ++ (p ∷ behind)) ≡ p ∷ filter (named name) behind
file-list name before p behind none is = filter-append (named name) before (p ∷ behind) ∙ (λ t. none t ++ passes name p behind is t)

-- and their areas, whatever the blocks are
pub named-list : (name : List ℕ) (store : RtStore) (file : HasFile name store) (at : HasPlace name store file) (block : ℕ → List ℕ)
    → map (area_of block) (filter (named name) (placed_in store.segments)) ≡ area_of block at.p ∷ map (area_of block)
    (filter (named name) at.behind)
named-list name store file at block =
    ap (λ ps. map (area_of block) (filter (named name) ps)) at.all
    ∙ ap (map (area_of block)) (file-list name at.before at.p at.behind at.none_before at.passes_it)

pub file-first : (name : List ℕ) (store : RtStore) (file : HasFile name store) → IsFirstNamed name store (file_area file)
file-first name store file =
    let at = file-place name store file in
    record {
      more = map (area_of store.block) (filter (named name) at.behind);
      named = files-are name store ∙ named-list name store file at store.block
          ∙ ap (λ a. a ∷ map (area_of store.block) (filter (named name) at.behind)) at.area;
    }

-- a name is no other
file-entry-named : (name other : List ℕ) (extra blocks day : ℕ) → length name ≡ 3
    → is_file_named other (file_entry extra name blocks day) ≡ is_same_name name other
file-entry-named name other extra blocks day three =
    ap (λ (n : List ℕ). is_file_named other (file_entry extra n blocks day)) (three_words name three)
    ∙ ap (λ (n : List ℕ). is_same_name n other) (sym (three_words name three))

pub same-itself : (name : List ℕ) → is_same_name name name ≡ true
same-itself name =
    λ t. eq-eqb (get_or name 0 0) (get_or name 0 0) refl t &&
    (eq-eqb (get_or name 1 0) (get_or name 1 0) refl t && eq-eqb (get_or name 2 0) (get_or name 2 0) refl t)

-- an entry of one name has no other
pub other-unnamed : (name other e : List ℕ) → is_file_named name e ≡ true → is_same_name name other ≡ false → is_file_named other e ≡ false
other-unnamed name other e is apart =
    let parts = and_parts (is_permanent e) (is_same_name (name_words e) name) is in
    let a = and_parts (get_or e 1 0 == get_or name 0 0) (get_or e 2 0 == get_or name 1 0 && get_or e 3 0 == get_or name 2 0) parts.1 in
    let b = and_parts (get_or e 2 0 == get_or name 1 0) (get_or e 3 0 == get_or name 2 0) a.1 in
    let zeroth : get_or e 1 0 ≡ get_or name 0 0 = eqb-true _ _ a.0 in
    let first : get_or e 2 0 ≡ get_or name 1 0 = eqb-true _ _ b.0 in
    let second : get_or e 3 0 ≡ get_or name 2 0 = eqb-true _ _ b.1 in
    (λ t. parts.0 t && (zeroth t == get_or other 0 0 && (first t == get_or other 1 0 && second t == get_or other 2 0))) ∙ apart

pub rt-name-three : (name : List ℕ) → IsRtName name → length name ≡ 3
unfolding rt_words_of
rt-name-three name is = ap (λ (n : List ℕ). length n) (sym is.same_words)

-- the areas with a file, and those without it
put-others : (other : List ℕ) (old new : List Placed) (area file : List ℕ) → IsPut old new area file → is_file_named other area ≡ false
    → is_file_named other file ≡ false
    → filter (named other) new ≡ filter (named other) old
put-others other old new area file put unnamed none =
    ap (filter (named other)) put.is ∙ filter-append (named other) put.before (at_start file put.start ∷ (put.left ++ put.behind))
    ∙ ap (λ ps. filter (named other) put.before ++ ps)
    (fails other (at_start file put.start) (put.left ++ put.behind) none ∙ filter-append (named other) put.left put.behind
    ∙ ap (λ ps. ps ++ filter (named other) put.behind) (none-empty other put.left put.left_empty)
    ∙ sym (fails other (at_start area put.start) put.behind unnamed))
    ∙ sym (filter-append (named other) put.before (at_start area put.start ∷ put.behind)) ∙ sym (ap (filter (named other)) put.was)

pub nil-parts : (xs ys : List Placed) → xs ++ ys ≡ [] → (xs ≡ []) × (ys ≡ [])
nil-parts [] ys is = (refl, is)
nil-parts (x ∷ xs) ys is = absurd (cc)

put-itself : (name : List ℕ) (old new : List Placed) (area file : List ℕ) (put : IsPut old new area file) → is_file_named name area ≡ false
    → is_file_named name file ≡ true → filter (named name) old ≡ []
    → filter (named name) new ≡ at_start file put.start ∷ []
put-itself name old new area file put unnamed is none =
    let f : List Placed → List Placed = filter (named name) in
    let parts : f put.before ++ f put.behind ≡ [] =
    ap (λ ps. f put.before ++ ps) (sym (fails name (at_start area put.start) put.behind unnamed))
    ∙ sym (filter-append (named name) put.before (at_start area put.start ∷ put.behind)) ∙ sym (ap f put.was) ∙ none in
    let both = nil-parts (f put.before) (f put.behind) parts in
    ap f put.is ∙ filter-append (named name) put.before (at_start file put.start ∷ (put.left ++ put.behind))
    ∙ (λ t. both.0 t ++ passes name (at_start file put.start) (put.left ++ put.behind) is t)
    ∙ ap (λ ps. at_start file put.start ∷ ps)
    (filter-append (named name) put.left put.behind ∙ (λ t. none-empty name put.left put.left_empty t ++ both.1 t))

-- the segments with a new file
create-put : (store : RtStore) (place i : ℕ) (seg : Segment) (name : List ℕ) (blocks day : ℕ) → slice_get store.segments place ≡ Some seg
    → i < length seg.entries → length name ≡ 3
    → is_empty_for blocks (entry_at seg.entries i) ≡ true
    → IsPut (placed_in store.segments) (placed_in (segments_with_file store place i seg name blocks day)) (entry_at seg.entries i)
    (file_entry store.extra name blocks day)
unfolding segments_with_file
create-put store place i seg name blocks day at inside three is = by_split (needs_split store.extra seg i blocks)
  where
    kept : ℕ
    kept = kept_of (length seg.entries)

    number : ℕ
    number = store.highest + 1

    segs : List Segment
    segs = split_at store.segments place number seg

    area : List ℕ
    area = entry_at seg.entries i

    fits : blocks ≤ area_length area
    fits = area-fits blocks seg.entries i is

    Puts : List Segment → Type 0
    Puts new = IsPut (placed_in store.segments) (placed_in new) area (file_entry store.extra name blocks day)

    in_half : (at_place : ℕ) (half : Segment) (j : ℕ) → slice_get segs at_place ≡ Some half → j < length half.entries
        → entry_at half.entries j ≡ area
        → Puts (with_entries segs at_place (with_file store.extra half.entries j name blocks day))
    in_half at_place half j there within same =
        let new : List Placed = placed_in (with_entries segs at_place (with_file store.extra half.entries j name blocks day)) in
        let put = put-in segs at_place half store.extra j name blocks day there within three
        (subst (λ (e : List ℕ). blocks ≤ area_length e) (sym same) fits) in
        subst (λ (e : List ℕ). IsPut (placed_in store.segments) new e (file_entry store.extra name blocks day)) same
        (subst (λ ps. IsPut ps new (entry_at half.entries j) (file_entry store.extra name blocks day))
        (split-same store.segments place number seg at) put)

    by_half : (c : Bool) → c ≡ nat_lt i kept
        → Puts (if c then with_entries segs place (with_file store.extra (front_half seg).entries i name blocks day)
        else with_entries segs (place + 1) (with_file store.extra (back_half number seg).entries (i - kept) name blocks day))
    by_half true early =
        let less : i < kept = ltb-true i kept (sym early) in
        let size : length (take kept seg.entries) ≡ kept = length-take-le kept seg.entries (omega arith) in
        in_half place (front_half seg) i (front-at store.segments place number seg at) (omega (arith, less, size))
        (get_or-take kept seg.entries i [] less)
    by_half false late =
        let more : kept ≤ i = ltb-false i kept (sym late) in
        in_half (place + 1) (back_half number seg) (i - kept) (back-at store.segments place number seg at)
        (omega (arith, more, inside, length-drop kept seg.entries))
        (get_or-drop kept seg.entries (i - kept) []
        ∙ ap (λ n. entry_at seg.entries n) (let n : kept + (i - kept) ≡ i = omega (arith, more) in n))

    by_split : (b : Bool)
        → Puts (if b then (if nat_lt i kept then with_entries segs place (with_file store.extra (front_half seg).entries i name blocks day)
        else with_entries segs (place + 1) (with_file store.extra (back_half number seg).entries (i - kept) name blocks day))
        else with_entries store.segments place (with_file store.extra seg.entries i name blocks day))
    by_split true = by_half (nat_lt i kept) refl
    by_split false = put-in store.segments place seg store.extra i name blocks day at inside three fits

-- the store with a new file has its blocks as they were
new-file-list : (other : List ℕ) (store : RtStore) (place i : ℕ) (seg : Segment) (name : List ℕ) (blocks day : ℕ)
    → files_named other (with_new_file store place i seg name blocks day) ≡ map (area_of store.block)
    (filter (named other) (placed_in (segments_with_file store place i seg name blocks day)))
unfolding files_named with_new_file
new-file-list other store place i seg name blocks day = refl

length-blocks : (block : ℕ → List ℕ) (start n : ℕ) → length (map block (range_with_len start n)) ≡ n
length-blocks block start n = simp (length-map, length-range_with_len)

pub created-made : (name : List ℕ) (blocks day : ℕ) (old new : Image) → IsRtName name → CreatesFile name blocks day old new
    → HasMade name blocks day (rt_store_of old) (rt_store_of new)
created-made name blocks day old new is made =
    let store : RtStore = rt_store_of old in
    let area = made.area in
    let seg : Segment = area.segment in
    let three : length name ≡ 3 = rt-name-three name is in
    let inside : area.i < length seg.entries = slice_get_within seg.entries area.i area.entry area.first.entry_is in
    let entry : entry_at seg.entries area.i ≡ area.entry = get_or_from_slice_get seg.entries area.i area.entry [] area.first.entry_is in
    let empty : is_empty_for blocks (entry_at seg.entries area.i) ≡ true = ap (is_empty_for blocks) entry ∙ area.first.passes in
    let put = create-put store area.place area.i seg name blocks day area.first.segment_is inside three empty in
    let no = λ (n : List ℕ). empty-unnamed n (entry_at seg.entries area.i) (and_parts _ _ empty).0 in
    let list = λ (n : List ℕ). ap (files_named n) made.store_is ∙ new-file-list n store area.place area.i seg name blocks day in
    let file : Placed = at_start (file_entry store.extra name blocks day) put.start in
    let none = no-file name store made.no_file in
    record {
      file = area_of store.block file;
      none = none;
      one = list name ∙ ap (map (area_of store.block))
          (put-itself name _ _ _ _ put (no name) (file-entry-named name name store.extra blocks day three ∙ same-itself name)
          (none-in name store.segments made.no_file));
      blocks_are = length-blocks store.block put.start (area_length file.entry)
          ∙ ap (λ (n : List ℕ). area_length (file_entry store.extra n blocks day)) (three_words name three);
      date_is = ap (λ (n : List ℕ). get_or (file_entry store.extra n blocks day) 6 0) (three_words name three);
      unprotected = refl;
      others = λ other apart.
          list other ∙ ap (map (area_of store.block))
          (put-others other _ _ _ _ put (no other) (file-entry-named name other store.extra blocks day three ∙ apart))
          ∙ sym (files-are other store);
    }

-- the store without a file has its blocks as they were
emptied-list : (other : List ℕ) (store : RtStore) (place i : ℕ) (seg : Segment)
    → files_named other (with_area_emptied store place i seg) ≡ map (area_of store.block)
    (filter (named other) (placed_in (with_entries store.segments place (without_file store.extra seg.entries i))))
unfolding files_named with_area_emptied
emptied-list other store place i seg = refl

-- the areas of files of a name where one of another is joined, and where one of it is
joined-list : (other : List ℕ) (segs : List Segment) (new : List Placed) (place i : ℕ) (seg : Segment)
    (joined : IsJoined segs new place seg i)
    → filter (named other) new ≡ filter (named other) joined.before ++ filter (named other) joined.behind
joined-list other segs new place i seg joined =
    ap (filter (named other)) joined.is ∙ filter-append (named other) joined.before (joined.whole ++ joined.behind)
    ∙ ap (λ ps. filter (named other) joined.before ++ ps)
    (filter-append (named other) joined.whole joined.behind ∙ ap (λ ps. ps ++ filter (named other) joined.behind)
    (none-empty other joined.whole joined.whole_empty))

was-list : (other : List ℕ) (segs : List Segment) (new : List Placed) (place i : ℕ) (seg : Segment) (joined : IsJoined segs new place seg i)
    → filter (named other) (placed_in segs) ≡ filter (named other) joined.before ++ filter (named other)
    (at_start (entry_at seg.entries i) (area_start seg i) ∷ (joined.after ++ joined.behind))
was-list other segs new place i seg joined =
    let here : Placed = at_start (entry_at seg.entries i) (area_start seg i) in
    ap (filter (named other)) joined.was
    ∙ filter-append (named other) joined.before (joined.ahead ++ (here ∷ (joined.after ++ joined.behind)))
    ∙ ap (λ ps. filter (named other) joined.before ++ ps)
    (filter-append (named other) joined.ahead (here ∷ (joined.after ++ joined.behind))
    ∙ ap (λ ps. ps ++ filter (named other) (here ∷ (joined.after ++ joined.behind))) (none-empty other joined.ahead joined.ahead_empty))

after-list : (other : List ℕ) (segs : List Segment) (new : List Placed) (place i : ℕ) (seg : Segment)
    (joined : IsJoined segs new place seg i)
    → filter (named other) (joined.after ++ joined.behind) ≡ filter (named other) joined.behind
after-list other segs new place i seg joined =
    filter-append (named other) joined.after joined.behind
    ∙ ap (λ ps. ps ++ filter (named other) joined.behind) (none-empty other joined.after joined.after_empty)

pub deleted-gone : (name : List ℕ) (old new : Image) → DeletesFile name old new → HasGone name (rt_store_of old) (rt_store_of new)
deleted-gone name old new gone =
    let store : RtStore = rt_store_of old in
    let file = gone.file in
    let seg : Segment = file.segment in
    let inside : file.i < length seg.entries = slice_get_within seg.entries file.i file.entry file.first.entry_is in
    let joined = joined-in store.segments file.place seg store.extra file.i file.first.segment_is inside in
    let new_list : List Placed = placed_in (with_entries store.segments file.place (without_file store.extra seg.entries file.i)) in
    let list = λ (n : List ℕ). ap (files_named n) gone.store_is ∙ emptied-list n store file.place file.i seg in
    let at = file-place name store file in
    let here : Placed = at_start (entry_at seg.entries file.i) (area_start seg file.i) in
    let is : named name here ≡ true = ap (named name) (sym at.p_is) ∙ at.passes_it in
    let none : filter (named name) joined.before ≡ [] =
    sym (append-nil (filter (named name) joined.before))
    ∙ ap (λ ps. filter (named name) joined.before ++ ps) (sym (none-empty name joined.ahead joined.ahead_empty))
    ∙ sym (filter-append (named name) joined.before joined.ahead) ∙ ap (filter (named name)) (sym joined.front ∙ sym at.before_is)
    ∙ at.none_before in
    let rest : List Placed = filter (named name) joined.behind in
    let now : filter (named name) new_list ≡ rest = joined-list name store.segments new_list file.place file.i seg joined
    ∙ ap (λ ps. ps ++ rest) none in
    let was : filter (named name) (placed_in store.segments) ≡ here ∷ rest =
    was-list name store.segments new_list file.place file.i seg joined
    ∙ ap (λ ps. ps ++ filter (named name) (here ∷ (joined.after ++ joined.behind))) none
    ∙ passes name here (joined.after ++ joined.behind) is
    ∙ ap (λ ps. here ∷ ps) (after-list name store.segments new_list file.place file.i seg joined) in
    record {
      file = file_area file;
      was = files-are name store ∙ ap (map (area_of store.block)) was
          ∙ (λ t. (ap (area_of store.block) (sym at.p_is) ∙ at.area) t ∷ sym (list name ∙ ap (map (area_of store.block)) now) t);
      others = λ other apart.
          let no : named other here ≡ false = other-unnamed name other (entry_at seg.entries file.i) is apart in
          list other
          ∙ ap (map (area_of store.block))
          (joined-list other store.segments new_list file.place file.i seg joined
          ∙ ap (λ ps. filter (named other) joined.before ++ ps)
          (sym (after-list other store.segments new_list file.place file.i seg joined)
          ∙ sym (fails other here (joined.after ++ joined.behind) no))
          ∙ sym (was-list other store.segments new_list file.place file.i seg joined))
          ∙ sym (files-are other store);
    }

-- the store with another block has its areas where they were
block-list : (other : List ℕ) (store : RtStore) (lbn : ℕ) (bytes : List ℕ)
    → files_named other (with_block store lbn bytes) ≡ map (area_of (replaced store.block lbn bytes))
    (filter (named other) (placed_in store.segments))
unfolding files_named with_block
block-list other store lbn bytes = refl

-- blocks of which one is replaced
range-set : (block : ℕ → List ℕ) (bytes : List ℕ) (start n k : ℕ) → k < n
    → map (replaced block (start + k) bytes) (range_with_len start n) ≡ slice_set (map block (range_with_len start n)) k bytes
range-set block bytes start zero k less = absurd (omega (arith, less))
range-set block bytes start (suc n) zero less =
    let here : (start == start + 0) ≡ true = eq-eqb start (start + 0) (omega arith) in
    λ t. (if here t then bytes else block start) ∷ range-kept block (start + 0) bytes (start + 1) n (inl (omega arith)) t
range-set block bytes start (suc n) (suc k) less =
    let other : (start == start + suc k) ≡ false = ne_eqb start (start + suc k) (λ same. omega (arith, same)) in
    let next : start + suc k ≡ start + 1 + k = omega arith in
    λ t. (if other t then bytes else block start) ∷ (ap (λ l. map (replaced block l bytes) (range_with_len (start + 1) n)) next
    ∙ range-set block bytes (start + 1) n k (omega (arith, less))) t

-- the area that it is a block of
area-set : (block : ℕ → List ℕ) (bytes : List ℕ) (p : Placed) (k : ℕ) → k < area_length p.entry
    → area_of (replaced block (p.start + k) bytes) p ≡ record (area_of block p) { contents = slice_set (area_of block p).contents k bytes }
area-set block bytes p k less =
    ap (λ (c : List (List ℕ)). record (area_of block p) { contents = c }) (range-set block bytes p.start (area_length p.entry) k less)

store-ascends : (image : Image) → IsRtAccepted image → Ascends (data_start image) (placed_in (rt_store_of image).segments)
unfolding rt_store_of
store-ascends image accepted = image-ascends image (sound_from image accepted)

pub written-replaced : (name : List ℕ) (place : ℕ) (block : List ℕ) (old new : Image) → IsRtAccepted old
    → WritesBlock name place block old new
    → HasReplaced name place block (rt_store_of old) (rt_store_of new)
written-replaced name place block old new accepted written =
    let store : RtStore = rt_store_of old in
    let file = written.file in
    let at = file-place name store file in
    let lbn : ℕ = (file_area file).start + place in
    let inside : place < area_length at.p.entry = omega (arith, written.inside, at.length_is) in
    let lbn_is : lbn ≡ at.p.start + place = omega (arith, at.start_is) in
    let list = λ (n : List ℕ). ap (files_named n) written.store_is ∙ block-list n store lbn block in
    let up = subst (λ ps. Ascends (data_start old) ps) at.all (store-ascends old accepted) in
    let behind = λ (n : List ℕ). behind-kept (named n) store.block lbn block (at.p.start + area_length at.p.entry) at.behind
    (omega (arith, inside, lbn_is)) (ascends-behind (data_start old) at.before at.p at.behind up) in
    let before = λ (n : List ℕ). before-kept (named n) store.block lbn block (data_start old) at.before at.p at.behind
    (omega (arith, lbn_is)) up in
    record {
      file = file_area file;
      more = map (area_of store.block) (filter (named name) at.behind);
      was = files-are name store ∙ named-list name store file at store.block
          ∙ ap (λ a. a ∷ map (area_of store.block) (filter (named name) at.behind)) at.area;
      inside = omega (
        arith,
        inside,
        ap (λ (a : Area). length a.contents) (sym at.area),
        length-blocks store.block at.p.start (area_length at.p.entry),
      );
      is = list name ∙ named-list name store file at (replaced store.block lbn block)
          ∙ (λ t. (ap (λ l. area_of (replaced store.block l block) at.p) lbn_is ∙ area-set store.block block at.p place inside
          ∙ ap (λ (a : Area). record a { contents = slice_set a.contents place block }) at.area) t ∷ behind name t);
      others = λ other apart.
          let no : named other at.p ≡ false = other-unnamed name other at.p.entry at.passes_it apart in
          let parts = filter-append (named other) at.before (at.p ∷ at.behind)
          ∙ ap (λ ps. filter (named other) at.before ++ ps) (fails other at.p at.behind no) in
          let all = λ (b : ℕ → List ℕ). ap (λ ps. map (area_of b) (filter (named other) ps)) at.all ∙ ap (map (area_of b)) parts
          ∙ map-append (area_of b) (filter (named other) at.before) (filter (named other) at.behind) in
          list other ∙ all (replaced store.block lbn block) ∙ (λ t. before other t ++ behind other t) ∙ sym (all store.block)
          ∙ sym (files-are other store);
    }
