-- What the files of each name are where the entry of one is another.
use Rattle.std.proofs.Common.{◌≡◌, ◌⊎◌, ⊎_elim, inl, inr, ℕ, ◌+◌, ◌<◌, ◌≤◌, ◌==◌, ◌&&◌, Bool, true, false, if◌then◌else◌, List, [], ◌∷◌}
use Rattle.std.proofs.Common.{◌++◌}
use Rattle.std.proofs.Common.{length, get_or, take, drop, map, filter, slice_index, sum_by, refl, sym, ◌∙◌, ap, subst, arith}
use Rattle.std.specs.Prelude.{slice_set}
use Rattle.std.specs.List.{All, range_with_len}
use Rattle.std.specs.Int.{bit_at}
use Rattle.std.proofs.lemmas.Bool.{and_parts, eqb-true, eq-eqb, ne_eqb}
use Rattle.std.proofs.lemmas.List.{drop-set-lt, get_or-map, get_or-set_same, length-map, length-set, take-set}
use Rattle.std.proofs.lemmas.List.Elements.{filter-append}
use Rattle.std.proofs.lemmas.List.Sums.{sum_by_more}
use Rattle.std.proofs.lemmas.Option.{slice_get_within, get_or_from_slice_get}
use Rattle.f11_dev.specs.Image.{Image}
use Rattle.rt11_volume.specs.Directory.{segment_of, visited}
use Rattle.rt11_volume.specs.Entry.{area_length, has_bit, is_file_named, is_one_kind, is_permanent, is_same_name}
use Rattle.rt11_volume.specs.Entry.{kind_of, name_words, protected_entry, protected_status, renamed_entry, status}
use Rattle.rt11_volume.specs.Files.{HasFile, HasNoFile, file_area, RenamesFile, ProtectsFile}
use Rattle.rt11_volume.specs.Laws.{HasRenamed, HasProtected}
use Rattle.rt11_volume.specs.Named.{Placed, placed, placed_in, area_of, files_named}
use Rattle.rt11_volume.specs.Operations.{entry_at, with_entries, with_entry}
use Rattle.rt11_volume.specs.RtName.{IsRtName}
use Rattle.rt11_volume.specs.Segment.{Segment, area_start, extra_bytes, segment_words}
use Rattle.rt11_volume.specs.Store.{RtStore, Area, rt_store_of}
use Rattle.rt11_volume.specs.declared.area.RtKind.TheVariants.{Tentative, Empty, Permanent}
use Rattle.rt11_volume.proofs.ChangeLemmas.{status-bits}
use Rattle.rt11_volume.proofs.Named.Laws.{HasPlace, fails, file-list, file-place, files-are, named, named-list, nil-parts, no-file, none-in}
use Rattle.rt11_volume.proofs.Named.Laws.{other-unnamed, rt-name-three, same-itself}
use Rattle.rt11_volume.proofs.Named.Placing.{all-entries, at_start, placed-around, regroup}
use Rattle.rt11_volume.proofs.Rewriting.Draft.{length-entry_at}
use Rattle.rt11_volume.proofs.Rewriting.Edit.{three_words}
use Rattle.rt11_volume.proofs.Rewriting.Overwriting.{length-segment, with_words-in, with_words-out}

-- an entry of an image has seven words at least
entry-long : (name : List ℕ) (image : Image) (file : HasFile name (rt_store_of image)) → 7 ≤ length file.entry
unfolding rt_store_of
entry-long name image file =
    let at = file.first.segment_is in
    let segs : List Segment = map (segment_of image) (visited image) in
    let within : file.place < length (visited image) =
    omega (arith, slice_get_within segs file.place file.segment at, length-map (visited image) (segment_of image)) in
    let k : ℕ = get_or (visited image) file.place 0 in
    let seg : segment_of image k ≡ file.segment = sym (get_or-map (segment_of image) (visited image) file.place 0 file.segment within)
    ∙ get_or_from_slice_get segs file.place file.segment file.segment at in
    let inside = slice_get_within file.segment.entries file.i file.entry file.first.entry_is in
    let here : file.i < length (segment_of image k).entries =
    omega (arith, inside, ap (λ (s : Segment). length s.entries) seg) in
    let long = length-entry_at (extra_bytes (segment_words image k)) (segment_words image k) file.i [] (length-segment image k) here in
    let same : get_or (segment_of image k).entries file.i [] ≡ file.entry = ap (λ (s : Segment). get_or s.entries file.i []) seg
    ∙ get_or_from_slice_get file.segment.entries file.i file.entry [] file.first.entry_is in
    omega (arith, long, ap (λ (e : List ℕ). length e) same)

-- the entries of a segment with another one, as long
placed-set : (first : ℕ) (es : List (List ℕ)) (i : ℕ) (e : List ℕ) → i < length es → area_length e ≡ area_length (entry_at es i)
    → placed first (slice_set es i e) ≡ placed first
    (take i es) ++ (at_start e (first + sum_by area_length (take i es)) ∷ placed (first + sum_by area_length (take (i + 1) es))
    (drop (i + 1) es))
placed-set first es i e inside same =
    let new : List (List ℕ) = slice_set es i e in
    let in_new : i < length new = omega (arith, inside, length-set es i e) in
    let front = take-set es i e in
    let here = get_or-set_same es i e [] inside in
    let one = sum_by_more area_length new i [] in_new in
    let two = sum_by_more area_length es i [] inside in
    let length_is : area_length (get_or new i []) ≡ area_length e = ap area_length here in
    let sums = ap (λ (xs : List (List ℕ)). sum_by area_length xs) front in
    let next : sum_by area_length (take (i + 1) new) ≡ sum_by area_length (take (i + 1) es) = omega (arith, one, two, length_is, sums, same)
    in
    placed-around first new i in_new
    ∙ (λ t. placed first (front t) ++ (at_start (here t) (first + sums t) ∷ placed (first + next t)
    (drop-set-lt (i + 1) es i e (omega arith) t)))

-- The areas of a store, where the entry of a file is another one, as long.
changed-placed : (name : List ℕ) (store : RtStore) (file : HasFile name store) (at : HasPlace name store file) (e : List ℕ)
    → area_length e ≡ area_length file.entry
    → placed_in (with_entries store.segments file.place (slice_set file.segment.entries file.i e))
    ≡ at.before ++ (at_start e at.p.start ∷ at.behind)
changed-placed name store file at e same =
    let segs : List Segment = store.segments in
    let seg : Segment = file.segment in
    let es : List (List ℕ) = seg.entries in
    let inside = slice_get_within es file.i file.entry file.first.entry_is in
    let entry : get_or es file.i [] ≡ file.entry = get_or_from_slice_get es file.i file.entry [] file.first.entry_is in
    let p : List Placed = placed_in (take file.place segs) in
    let q : List Placed = placed_in (drop (file.place + 1) segs) in
    let a : List Placed = placed seg.first (take file.i es) in
    let b : List Placed = placed (seg.first + sum_by area_length (take (file.i + 1) es)) (drop (file.i + 1) es) in
    let start : at.p.start ≡ area_start seg file.i = ap (λ (x : Placed). x.start) at.p_is in
    all-entries segs file.place seg (slice_set es file.i e) file.first.segment_is
    ∙ ap (λ ps. p ++ (ps ++ q)) (placed-set seg.first es file.i e inside (same ∙ ap area_length (sym entry)))
    ∙ regroup p a (at_start e (area_start seg file.i) ∷ b) q
    ∙ (λ t. sym at.before_is t ++ (at_start e (sym start t) ∷ sym at.behind_is t))

-- the files of a name there
changed-list : (other : List ℕ) (store : RtStore) (place i : ℕ) (seg : Segment) (e : List ℕ)
    → files_named other (with_entry store place i seg e) ≡ map (area_of store.block)
    (filter (named other) (placed_in (with_entries store.segments place (slice_set seg.entries i e))))
unfolding files_named with_entry
changed-list other store place i seg e = refl

-- What is known of a file, and of its new entry, whose area is as long.
record HasChanged (name : List ℕ) (old new : RtStore) (file : HasFile name old) (e : List ℕ) : Type 0 where
  at : HasPlace name old file
  entry : at.p.entry ≡ file.entry
  list : (other : List ℕ) → files_named other new ≡ map (area_of old.block)
      (filter (named other) (at.before ++ (at_start e at.p.start ∷ at.behind)))
  was : (other : List ℕ) → files_named other old ≡ map (area_of old.block) (filter (named other) (at.before ++ (at.p ∷ at.behind)))

has-changed : (name : List ℕ) (old new : RtStore) (file : HasFile name old) (e : List ℕ) → area_length e ≡ area_length file.entry
    → new ≡ with_entry old file.place file.i file.segment e → HasChanged name old new file e
has-changed name old new file e same is =
    let at = file-place name old file in
    record {
      at = at;
      entry = ap (λ (x : Placed). x.entry) at.p_is
          ∙ get_or_from_slice_get file.segment.entries file.i file.entry [] file.first.entry_is;
      list = λ other.
          ap (files_named other) is ∙ changed-list other old file.place file.i file.segment e
          ∙ ap (λ ps. map (area_of old.block) (filter (named other) ps)) (changed-placed name old file at e same);
      was = λ other. files-are other old ∙ ap (λ ps. map (area_of old.block) (filter (named other) ps)) at.all;
    }

-- one that is of no file of a name, wherever it is
passed-over : (other : List ℕ) (before : List Placed) (p : Placed) (behind : List Placed) → named other p ≡ false
    → filter (named other) (before ++ (p ∷ behind)) ≡ filter (named other) before ++ filter (named other) behind
passed-over other before p behind fails_it =
    filter-append (named other) before (p ∷ behind) ∙ ap (λ ps. filter (named other) before ++ ps) (fails other p behind fails_it)

-- the file of a name is no file of one that is free
unnamed-here : (name other : List ℕ) (store : RtStore) (file : HasFile name store) → HasNoFile other store
    → is_file_named other file.entry ≡ false
unnamed-here name other store file none =
    let within = slice_get_within store.segments file.place file.segment file.first.segment_is in
    let all = subst (λ (s : Segment). All (λ e. is_file_named other e ≡ false) s.entries)
    (get_or_from_slice_get store.segments file.place file.segment file.segment file.first.segment_is)
    (none file.place file.segment within) in
    ap (is_file_named other) (sym (get_or_from_slice_get file.segment.entries file.i file.entry [] file.first.entry_is))
    ∙ all file.i [] (slice_get_within file.segment.entries file.i file.entry file.first.entry_is)

-- so the names are apart
names-apart : (name other e : List ℕ) → is_file_named name e ≡ true → is_file_named other e ≡ false → is_same_name other name ≡ false
names-apart name other e is none = by (is_same_name other name) refl
  where
    by : (b : Bool) → is_same_name other name ≡ b → b ≡ false
    by false same = refl
    by true same =
        let parts = and_parts (is_permanent e) (is_same_name (name_words e) name) is in
        let a = and_parts (get_or e 1 0 == get_or name 0 0) (get_or e 2 0 == get_or name 1 0 && get_or e 3 0 == get_or name 2 0) parts.1 in
        let b = and_parts (get_or e 2 0 == get_or name 1 0) (get_or e 3 0 == get_or name 2 0) a.1 in
        let c = and_parts (get_or other 0 0 == get_or name 0 0)
        (get_or other 1 0 == get_or name 1 0 && get_or other 2 0 == get_or name 2 0) same in
        let d = and_parts (get_or other 1 0 == get_or name 1 0) (get_or other 2 0 == get_or name 2 0) c.1 in
        let zeroth : get_or e 1 0 ≡ get_or other 0 0 = eqb-true _ _ a.0 ∙ sym (eqb-true _ _ c.0) in
        let first : get_or e 2 0 ≡ get_or other 1 0 = eqb-true _ _ b.0 ∙ sym (eqb-true _ _ d.0) in
        let second : get_or e 3 0 ≡ get_or other 2 0 = eqb-true _ _ b.1 ∙ sym (eqb-true _ _ d.1) in
        let yes : is_file_named other e ≡ true =
        λ t. parts.0 t && (eq-eqb (get_or e 1 0) (get_or other 0 0) zeroth t && (eq-eqb (get_or e 2 0) (get_or other 1 0) first t
        && eq-eqb (get_or e 3 0) (get_or other 2 0) second t)) in
        sym yes ∙ none

-- what an entry with another name says
module _ (e other : List ℕ) (long : 7 ≤ length e) (three : length other ≡ 3) where
  abbrev new : List ℕ
  new = renamed_entry other e

  same-at : (k : ℕ) → (k ≡ 0) ⊎ (4 ≤ k) → slice_index new k ≡ slice_index e k
  same-at k place = with_words-out e 1 other k (omega (arith, long, three))
      (⊎_elim (λ (h : k ≡ 0). inl (omega (arith, h))) (λ (h : 4 ≤ k). inr (omega (arith, h, three))) place)

  renamed-words : name_words new ≡ other
  renamed-words =
      let at = λ (k : ℕ) (low : k < 3). with_words-in e 1 other (k + 1) (omega (arith, long, three)) (omega arith)
      (omega (arith, low, three)) in
      let a = at 0 (omega arith) in
      let b = at 1 (omega arith) in
      let c = at 2 (omega arith) in
      (λ t. a t ∷ b t ∷ c t ∷ []) ∙ sym (three_words other three)

  renamed-named : (third : List ℕ) → is_permanent e ≡ true → is_file_named third new ≡ is_same_name other third
  renamed-named third permanent =
      let status_is = same-at 0 (inl refl) in
      (λ t. (is_one_kind (status_is t) && has_bit (status_is t) 10) && is_same_name (renamed-words t) third)
      ∙ ap (λ b. b && is_same_name other third) permanent

  renamed-area : (block : ℕ → List ℕ) (start : ℕ)
      → area_of block (at_start new start) ≡ record (area_of block (at_start e start)) { name = other }
  renamed-area block start =
      let status_is = same-at 0 (inl refl) in
      let length_is = same-at 4 (inr (omega arith)) in
      let date_is = same-at 6 (inr (omega arith)) in
      λ t. record {
        kind = kind_of (status_is t);
        name = renamed-words t;
        start = start;
        length = length_is t;
        date = date_is t;
        protected = has_bit (status_is t) 15;
        contents = map block (range_with_len start (length_is t));
      }

-- what is renamed
pub renamed-renamed : (name other : List ℕ) (old new : Image) → IsRtName other → RenamesFile name other old new
    → HasRenamed name other (rt_store_of old) (rt_store_of new)
renamed-renamed name other old now is renames =
    let store : RtStore = rt_store_of old in
    let file = renames.changes.file in
    let e : List ℕ = file.entry in
    let three = rt-name-three other is in
    let long = entry-long name old file in
    let has = has-changed name store (rt_store_of now) file (renamed_entry other e) (same-at e other long three 4 (inr (omega arith)))
    renames.changes.store_is in
    let at = has.at in
    let q : Placed = at_start (renamed_entry other e) at.p.start in
    let permanent : is_permanent e ≡ true = (and_parts (is_permanent e) (is_same_name (name_words e) name) file.first.passes).0 in
    let named-now = λ (third : List ℕ). renamed-named e other long three third permanent in
    let free = unnamed-here name other store file renames.no_file in
    let apart : is_same_name other name ≡ false = names-apart name other e file.first.passes free in
    let p-is = λ (third : List ℕ). ap (is_file_named third) has.entry in
    let none = none-in other store.segments renames.no_file in
    let parts = nil-parts (filter (named other) at.before) (filter (named other) at.behind)
    (sym (passed-over other at.before at.p at.behind (p-is other ∙ free)) ∙ ap (filter (named other)) (sym at.all) ∙ none) in
    record {
      file = file_area file;
      was = files-are name store ∙ named-list name store file at store.block
          ∙ (λ t. at.area t ∷ map (area_of store.block) (filter (named name) at.behind))
          ∙ ap (λ fs. file_area file ∷ fs)
          (sym (has.list name
          ∙ ap (map (area_of store.block))
          (passed-over name at.before q at.behind (named-now name ∙ apart) ∙ ap (λ ps. ps ++ filter (named name) at.behind)
          at.none_before)));
      none = no-file other store renames.no_file;
      is = has.list other
          ∙ ap (map (area_of store.block))
          (file-list other at.before q at.behind parts.0 (named-now other ∙ same-itself other) ∙ ap (λ ps. q ∷ ps) parts.1)
          ∙ (λ t. renamed-area e other long three store.block at.p.start t ∷ [])
          ∙ ap (λ (a : Area). record a { name = other } ∷ [])
          (ap (λ (x : List ℕ). area_of store.block (at_start x at.p.start)) (sym has.entry) ∙ at.area);
      others = λ third one two.
          has.list third
          ∙ ap (map (area_of store.block))
          (passed-over third at.before q at.behind (named-now third ∙ two)
          ∙ sym (passed-over third at.before at.p at.behind (p-is third ∙ other-unnamed name third e file.first.passes one)))
          ∙ sym (has.was third);
    }

-- what an entry that is protected, or isn't, says
module _ (on : Bool) (e : List ℕ) (long : 7 ≤ length e) where
  abbrev marked : List ℕ
  marked = protected_entry on e

  kept-at : (k : ℕ) → 1 ≤ k → slice_index marked k ≡ slice_index e k
  kept-at k place = with_words-out e 0 (protected_status on (status e) ∷ []) k (omega (arith, long)) (inr (omega (arith, place)))

  marked-words : name_words marked ≡ name_words e
  marked-words =
      let a = kept-at 1 (omega arith) in
      let b = kept-at 2 (omega arith) in
      let c = kept-at 3 (omega arith) in
      λ t. a t ∷ b t ∷ c t ∷ []

  marked-named : (other : List ℕ) → is_file_named other marked ≡ is_file_named other e
  marked-named other =
      let bits = status-bits on (status e) in
      λ t. ((bits.eight t + bits.nine t + bits.ten t == 1) && (bits.ten t == 1)) && is_same_name (marked-words t) other

  marked-protected : has_bit (protected_status on (status e)) 15 ≡ on
  marked-protected = by on
    where
      by : (b : Bool) → has_bit (protected_status b (status e)) 15 ≡ b
      by true = eq-eqb (bit_at (protected_status true (status e)) 15) 1 (omega arith)
      by false = ne_eqb (bit_at (protected_status false (status e)) 15) 1 (λ same. omega (arith, same))

  marked-area : (block : ℕ → List ℕ) (start : ℕ)
      → area_of block (at_start marked start) ≡ record (area_of block (at_start e start)) { protected = on }
  marked-area block start =
      let bits = status-bits on (status e) in
      let length_is = kept-at 4 (omega arith) in
      let date_is = kept-at 6 (omega arith) in
      λ t. record {
        kind = if bits.eight t == 1 then Tentative else (if bits.nine t == 1 then Empty else Permanent);
        name = marked-words t;
        start = start;
        length = length_is t;
        date = date_is t;
        protected = marked-protected t;
        contents = map block (range_with_len start (length_is t));
      }

-- what is protected, or isn't any more
pub protected-protected : (on : Bool) (name : List ℕ) (old new : Image) → ProtectsFile on name old new
    → HasProtected on name (rt_store_of old) (rt_store_of new)
protected-protected on name old now protects =
    let store : RtStore = rt_store_of old in
    let file = protects.file in
    let e : List ℕ = file.entry in
    let long = entry-long name old file in
    let has = has-changed name store (rt_store_of now) file (protected_entry on e) (kept-at on e long 4 (omega arith)) protects.store_is in
    let at = has.at in
    let q : Placed = at_start (protected_entry on e) at.p.start in
    let same = λ (other : List ℕ). marked-named on e long other ∙ ap (is_file_named other) (sym has.entry) in
    record {
      file = file_area file;
      more = map (area_of store.block) (filter (named name) at.behind);
      was = files-are name store ∙ named-list name store file at store.block
          ∙ (λ t. at.area t ∷ map (area_of store.block) (filter (named name) at.behind));
      is = has.list name
          ∙ ap (map (area_of store.block))
          (file-list name at.before q at.behind at.none_before (same name ∙ at.passes_it))
          ∙ (λ t. (marked-area on e long store.block at.p.start
          ∙ ap (λ (a : Area). record a { protected = on })
          (ap (λ (x : List ℕ). area_of store.block (at_start x at.p.start)) (sym has.entry) ∙ at.area)) t ∷ map (area_of store.block)
          (filter (named name) at.behind));
      others = λ other apart.
          let no : named other at.p ≡ false = ap (is_file_named other) has.entry ∙ other-unnamed name other e file.first.passes apart in
          has.list other
          ∙ ap (map (area_of store.block))
          (passed-over other at.before q at.behind (same other ∙ no) ∙ sym (passed-over other at.before at.p at.behind no))
          ∙ sym (has.was other);
    }
