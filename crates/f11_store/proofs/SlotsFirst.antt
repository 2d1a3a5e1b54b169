-- The index file of the plain store grows before headers are taken.
use Rattle.std.proofs.Common.{◌≡◌, ℕ, zero, suc, ◌+◌, ◌-◌, ◌≤◌, ◌<◌, ◌==◌, ◌&&◌, ◌⊎◌, ◌∷◌, ◌++◌, Bool, true, false, not, nat_le, nat_lt}
use Rattle.std.proofs.Common.{List, [], Option, Some, length, take, unwrap_or, filter, slice_index, option_map, option_and_then, refl}
use Rattle.std.proofs.Common.{sym, ◌∙◌, ap, subst, arith, if◌then◌else◌}
use Rattle.std.proofs.lemmas.Bool.Decides.{nat_tests}
use Rattle.std.proofs.lemmas.List.Elements.{filter-append}
use Rattle.f11_store.proofs.RangeLemmas.{range_with_len-append}
use Rattle.f11_store.specs.Changes.{next_sequence, GetsSlots, GrowsIndex, grown_file, with_grown_file, with_more_slots}
use Rattle.f11_store.specs.Changes.{with_slots_added}
use Rattle.f11_store.specs.File.{File, no_file, need}
use Rattle.f11_store.specs.Headroom.{lacking, lacks_headers, may_get_slots, slots_first}
use Rattle.f11_store.specs.Store.{Store, free_headers, free_slots, index_file}
use Rattle.f11_store.specs.SlotsFirst.{EnoughAreFree, GainedIsReady, GainingLags, HasNoOtherSlots, IsReady, ReadyLags, ReadyMayExtend}
use Rattle.f11_store.specs.Store.{Access, file_named, file_of, free_among, id_held, id_in, of_sequence}
use Rattle.f11_store.specs.declared.callers.Uic.{Uic}
use Rattle.f11_store.specs.Changes.{new_file}
use Rattle.f11_store.specs.Lags.{create_work, extend_work, new_file_work}
use Rattle.f11_store.specs.declared.files.FileId.{FileId}
use Rattle.f11_store.specs.Lags.{and_then, after_slots, grow_parts, grow_work, last_of, with_no_mark, with_parts, AreLike, LagsBy, Part}
use Rattle.f11_store.specs.Lags.{Work}
use Rattle.f11_store.specs.Changes.{with_change}
use Rattle.f11_store.specs.Moments.{AreRespectful, Did, LengthensDid}
use Rattle.f11_store.proofs.Respects.{extend_respectful}
use Rattle.std.proofs.lemmas.Bool.{eqb-true, or_parts}
use Rattle.std.proofs.lemmas.List.{append-nil, length-append}
use Rattle.std.specs.List.{range_with_len}
use Rattle.f11_store.proofs.StoreLemmas.{none_first, none_rest}
use Rattle.f11_store.proofs.Frees.{same_limits, same_limits_then}
use Rattle.f11_store.proofs.Growth.{alike, StoresAlike}
use Rattle.f11_store.proofs.LagLaws.{parts_of_growth}
use Rattle.f11_store.proofs.ProgressLaws.{alike_then, extends_did, more_work_lags, some_more, take-both, taken_respectful, AreAlike}
use Rattle.f11_store.proofs.TakenSlotLemmas.{more-headers}

-- there is room for the slots that come first
pub record HasRoom (s : Store) (n : ℕ) : Type 0 where
  pub places : n ≤ (index_file s).room
  pub within : 0 < n → s.slots + n ≤ s.limit

pub first-fit : (s : Store) (headers : ℕ) → HasRoom s (slots_first s headers)
unfolding lacks_headers slots_first
first-fit s headers = by_tests (lacking s headers == 0) (may_get_slots s (lacking s headers)) refl refl
  where
    by_tests : (b c : Bool) → (lacking s headers == 0) ≡ b → may_get_slots s (lacking s headers) ≡ c →
        HasRoom s (if (not b && not c) then 0 else lacking s headers)
    by_tests false false e k = record { places = omega arith; within = λ some. omega (arith, some) }
    by_tests true c e k =
        let none : lacking s headers ≡ 0 = grind (arith, nat_tests, e) in
        record { places = omega (arith, none); within = λ some. omega (arith, some, none) }
    by_tests false true e k =
        let both = k in
        record { places = grind (arith, nat_tests, k); within = λ some. grind (arith, nat_tests, k) }

-- where there is a place for each slot no header is added
none-needed : (room n : ℕ) → n ≤ room → need room n ≡ 0
none-needed room n few = omega (arith, few)

-- the store with n slots more, without a header more
abbrev grown-store : Store → ℕ → File → ℕ → ℕ → Store
grown-store s n f pointers room = with_more_slots (with_grown_file s 1 f n [] 0 pointers room) n

gains-no-header : (s t : Store) (n : ℕ) → n ≤ (index_file s).room → (e : GrowsIndex s n t) →
    t ≡ grown-store s n e.grows.before e.grows.pointers e.grows.room
gains-no-header s t n fits e =
    e.store_is ∙ ap (λ (x : Store). with_more_slots x n) e.grows.store_is
    ∙ ap (λ (i : ℕ). with_more_slots (with_grown_file s 1 e.grows.before n [] i e.grows.pointers e.grows.room) n) {x = e.grows.added}
    {y = 0} none
  where
    same : index_file s ≡ e.grows.before
    same = ap (λ (o : Option File). unwrap_or o no_file) e.grows.was

    none : e.grows.added ≡ 0
    none = omega (arith, e.grows.may_grow.headers, none-needed e.grows.before.room n (omega (arith, fits, ap (λ (f : File). f.room) same)))

pub gained-is-ready : GainedIsReady
gained-is-ready s t headers gains = by_count (slots_first s headers) (first-fit s headers) gains
  where
    by_count : (n : ℕ) → HasRoom s n → GetsSlots n s t → IsReady s n t
    by_count zero fits e = subst (IsReady s 0) (sym e) (record {
      others = λ m other. refl;
      free = omega arith;
      slots = refl;
      in_use = refl;
      last = refl;
      access = refl;
      limits = same_limits refl refl refl;
    })
    by_count (suc n) fits e =
        subst (IsReady s (suc n)) (sym (gains-no-header s t (suc n) fits.places e)) (record {
          others = λ m other. ap (λ (b : Bool). if b then Some (grown_file s e.grows.before [] 0 e.grows.pointers e.grows.room) else s.file
              m) other;
          free = refl;
          slots = refl;
          in_use = refl;
          last = refl;
          access = refl;
          limits = same_limits refl refl refl;
        })

-- while slots are added
pub gaining-lags : GainingLags
gaining-lags s t headers n work is lags =
    subst (λ (m : ℕ). LagsBy (after_slots m s work) t s) (sym is)
    (more_work_lags t s (grow_work (index_file s).room (suc n)) (and_then (grow_work (index_file s).room (suc n)) work) work.parts refl
    (λ m out. (or_parts (m == 1) (work.is_meant m) out).0) (omega arith) (omega arith) lags)

-- what a slot was last given stays: those that are added were given none
pub last-stays : (s t : Store) (n m : ℕ) → IsReady s n t → last_of t m ≡ last_of s m
last-stays s t zero m ready =
    ap (λ (k : ℕ). if nat_le m k then t.last m else 0) ready.slots ∙ ap (λ (l : ℕ → ℕ). if nat_le m s.slots then l m else 0) ready.last
last-stays s t (suc n) m ready =
    ap (λ (k : ℕ). if nat_le m k then t.last m else 0) ready.slots
    ∙ ap (λ (l : ℕ → ℕ). if nat_le m (s.slots + suc n) then l m else 0) ready.last
    ∙ by_number s.slots (suc n) (s.last m)
  where
    by_number : (slots more l : ℕ) →
        (if nat_le m (slots + more) then (if nat_lt slots m && nat_le m (slots + more) then 0 else l) else 0)
        ≡ (if nat_le m slots then l else 0)
    by_number slots more l = grind (arith, nat_tests)

-- no fewer headers are free then
no-fewer-headers : (s t : Store) (n : ℕ) → IsReady s (suc n) t → free_headers s ≤ free_headers t
unfolding free_slots
no-fewer-headers s t n ready =
    subst (λ (l : List ℕ). free_headers s ≤ length l) (sym ((λ i. free_among (ready.slots i) (ready.in_use i)))) (more-headers s (suc n))

-- the files of a store whose index file has grown are those with its parts done
gained-alike : (s t : Store) (n : ℕ) → GrowsIndex s n t → StoresAlike t (with_parts s (grow_parts n))
gained-alike s t n e m =
    subst (λ (x : Store). AreLike (t.file m) (x.file m)) (sym (parts_of_growth s n))
    (subst (λ (x : Store). AreLike (x.file m) ((with_change s 1 with_no_mark).file m))
    (sym (e.store_is ∙ ap (λ (x : Store). with_more_slots x n) e.grows.store_is))
    (subst (λ (o : Option File). AreLike (if m == 1 then Some (grown_file s f [] e.grows.added e.grows.pointers e.grows.room) else s.file m)
    (if m == 1 then option_map with_no_mark o else s.file m)) (sym e.grows.was)
    (by_test (m == 1) (s.file m))))
  where
    f : File
    f = e.grows.before

    by_test : (here : Bool) (o : Option File)
        → AreLike (if here then Some (grown_file s f [] e.grows.added e.grows.pointers e.grows.room) else o)
        (if here then Some (with_no_mark f) else o)
    by_test true o =
        record {
          sequence = refl;
          owner = refl;
          protection = refl;
          characteristics = refl;
          ident = refl;
          attr = refl;
          blocks = append-nil f.blocks;
        }
    by_test false o = alike o

-- after slots were added, what lags by the rest
gained-then : (s u t : Store) (n : ℕ) (v : Work) → GrowsIndex s (suc n) u → IsReady s (suc n) u → AreRespectful v.parts → LagsBy v t u
    → LagsBy (and_then (grow_work (index_file s).room (suc n)) v) t s
gained-then s u t n v e ready respects lags = record {
  done = length w.parts + lags.done;
  files = λ m. subst (λ (ps : List Part). AreLike (t.file m) ((with_parts s ps).file m)) (sym split)
      (alike_then (t.file m) ((with_parts u (take lags.done v.parts)).file m) ((with_parts s (w.parts ++ take lags.done v.parts)).file m)
      (lags.files m) (more.files m));
  slots = lags.slots ∙ more.slots ∙ ap (λ (ps : List Part). (with_parts s ps).slots) (sym split);
  others = λ m out. lags.others m (or_parts (m == 1) (v.is_meant m) out).1 ∙ ready.others m (or_parts (m == 1) (v.is_meant m) out).0;
  free_blocks = omega (arith, lags.free_blocks, ready.free);
  headers = omega (arith, lags.headers, no-fewer-headers s u n ready);
  last = λ m low fileless. subst (λ (q : ℕ). (t.last m ≡ q) ⊎ (t.last m ≡ next_sequence q)) (last-stays s u (suc n) m ready)
      (lags.last m low fileless);
  no_header = λ none m low. lags.no_header (omega (arith, none)) m low ∙ last-stays s u (suc n) m ready;
  limits = same_limits_then s u t ready.limits lags.limits;
}
  where
    w : Work
    w = grow_work (index_file s).room (suc n)

    split : take (length w.parts + lags.done) (w.parts ++ v.parts) ≡ w.parts ++ take lags.done v.parts
    split = take-both w.parts v.parts lags.done

    more : AreAlike (with_parts u (take lags.done v.parts)) (with_parts s (w.parts ++ take lags.done v.parts))
    more = some_more s u w (take lags.done v.parts) (gained-alike s u (suc n) e)
        (ready.slots ∙ sym (ap (λ (x : Store). x.slots) (parts_of_growth s (suc n)))) (taken_respectful lags.done v.parts respects)

pub ready-lags : ReadyLags
ready-lags s u t headers work gains respects lags = by_count (slots_first s headers) (gained-is-ready s u headers gains) gains
  where
    by_count : (n : ℕ) → IsReady s n u → GetsSlots n s u → LagsBy (after_slots n s work) t s
    by_count zero ready e = subst (λ (x : Store). LagsBy work t x) e lags
    by_count (suc n) ready e = gained-then s u t n work e ready respects lags

-- a file but the index file is the same once the slots are there, and so is what tasks hold
pub of-stays : (s t : Store) (n : ℕ) (id : FileId) → IsReady s n t → (id.number == 1) ≡ false → file_of t id ≡ file_of s id
of-stays s t n id ready other = ap (λ (o : Option File). option_and_then (of_sequence id.sequence) o) (ready.others id.number other)

pub named-stays : (s t : Store) (n : ℕ) (id : FileId) → IsReady s n t → (id.number == 1) ≡ false → file_named t id ≡ file_named s id
named-stays s t n id ready other = ap (λ (o : Option File). unwrap_or o no_file) (of-stays s t n id ready other)

pub held-stays : (s t : Store) (n task lun : ℕ) → IsReady s n t → id_held t task lun ≡ id_held s task lun
held-stays s t n task lun ready = ap (λ (a : ℕ → ℕ → Option Access). id_in (a task lun)) ready.access

-- the free slots are those of the store with as many slots
pub free-stays : (s t : Store) (n : ℕ) → IsReady s n t → free_slots t ≡ free_slots (with_slots_added n s)
unfolding free_slots
free-stays s t n ready = (λ i. free_among (ready.slots i) (ready.in_use i)) ∙ sym (used n)
  where
    used : (n : ℕ) → free_slots (with_slots_added n s) ≡ free_among (with_slots_added n s).slots s.in_use
    used zero = refl
    used (suc n) = refl

-- so a new file is the same
pub new-file-stays : (s t : Store) (n : ℕ) (caller : Uic) (word : ℕ) (ident attr : List ℕ) → IsReady s n t
    → new_file_work t caller word ident attr ≡ new_file_work (with_slots_added n s) caller word ident attr
new-file-stays s t n caller word ident attr ready = λ i.
    let slot : ℕ = slice_index (free-stays s t n ready i) 0 in
    create_work slot (new_file slot (next_sequence (ready.last i slot)) caller word ident attr)

-- a file has the blocks that it had: the index file has none
pub gained-blocks : (s t : Store) (n k : ℕ) (f g : File) → GetsSlots n s t → s.file k ≡ Some f → t.file k ≡ Some g → g.blocks ≡ f.blocks
gained-blocks s t zero k f g e was now =
    let o : Some g ≡ Some f = sym now ∙ ap (λ (x : Store). x.file k) e ∙ was in let same : g ≡ f = cc in ap (λ (x : File). x.blocks) same
gained-blocks s t (suc n) k f g e was now = by_test (k == 1) refl
  where
    after : File
    after = grown_file s e.grows.before [] e.grows.added e.grows.pointers e.grows.room

    is : Some g ≡ (if k == 1 then Some after else s.file k)
    is = sym now ∙ ap (λ (x : Store). x.file k) (e.store_is ∙ ap (λ (x : Store). with_more_slots x (suc n)) e.grows.store_is)

    by_test : (b : Bool) → (k == 1) ≡ b → g.blocks ≡ f.blocks
    by_test true number =
        let o : Some g ≡ Some after = is ∙ ap (λ (b : Bool). if b then Some after else s.file k) number in
        let same : g ≡ after = cc in
        let p : Some f ≡ Some e.grows.before = sym was ∙ ap s.file (eqb-true k 1 number) ∙ e.grows.was in
        let before : f ≡ e.grows.before = cc in
        ap (λ (x : File). x.blocks) same ∙ append-nil e.grows.before.blocks ∙ sym (ap (λ (x : File). x.blocks) before)
    by_test false number =
        let o : Some g ≡ Some f = is ∙ ap (λ (b : Bool). if b then Some after else s.file k) number ∙ was in
        let same : g ≡ f = cc in ap (λ (x : File). x.blocks) same

-- a file that isn't one of the first three is another than the index file
pub no_index : (id : FileId) → nat_lt id.number 4 ≡ false → (id.number == 1) ≡ false
no_index id h = grind (arith, nat_tests, h)

-- after slots were added, the rest is done
gained-did : (s u t : Store) (n : ℕ) (v : Work) → GrowsIndex s (suc n) u → IsReady s (suc n) u → AreRespectful v.parts → Did v t u
    → Did (and_then (grow_work (index_file s).room (suc n)) v) t s
gained-did s u t n v e ready respects did = record {
  files = λ m. alike_then (t.file m) ((with_parts u v.parts).file m) ((with_parts s (w.parts ++ v.parts)).file m) (did.files m)
      (more.files m);
  slots = did.slots ∙ more.slots;
  no_fewer = omega (arith, did.no_fewer, ready.slots);
  others = λ m out. did.others m (or_parts (m == 1) (v.is_meant m) out).1 ∙ ready.others m (or_parts (m == 1) (v.is_meant m) out).0;
  free_blocks = omega (arith, did.free_blocks, ready.free);
  headers = omega (arith, did.headers, no-fewer-headers s u n ready);
  last = λ m low. subst (λ (q : ℕ). (t.last m ≡ q) ⊎ (t.last m ≡ next_sequence q)) (last-stays s u (suc n) m ready) (did.last m low);
  no_header = λ none m low. did.no_header (omega (arith, none)) m low ∙ last-stays s u (suc n) m ready;
  limits = same_limits_then s u t ready.limits did.limits;
}
  where
    w : Work
    w = grow_work (index_file s).room (suc n)

    more : AreAlike (with_parts u v.parts) (with_parts s (w.parts ++ v.parts))
    more = some_more s u w v.parts (gained-alike s u (suc n) e)
        (ready.slots ∙ sym (ap (λ (x : Store). x.slots) (parts_of_growth s (suc n)))) respects

pub lengthens-did : LengthensDid
lengthens-did t s f n other h = by_count (slots_first s headers) ready h.gains
  where
    headers : ℕ
    headers = need (file_named s f).room n

    work : Work
    work = extend_work f.number (file_named s f).room n

    ready : IsReady s (slots_first s headers) h.ready
    ready = gained-is-ready s h.ready headers h.gains

    rest : Did work t h.ready
    rest =
        subst (λ (g : File). Did (extend_work f.number g.room n) t h.ready) (named-stays s h.ready _ f ready other)
        (extends_did t h.ready f n h.makes)

    by_count : (m : ℕ) → IsReady s m h.ready → GetsSlots m s h.ready → Did (after_slots m s work) t s
    by_count zero is e = subst (λ (x : Store). Did work t x) e rest
    by_count (suc m) is e = gained-did s h.ready t m work e is (extend_respectful f.number n) rest

-- numbers of which none is in use are all free
all-unused : (used : ℕ → Bool) (a m : ℕ) → ((n : ℕ) → a ≤ n → used n ≡ false) → length (filter (λ n. not (used n)) (range_with_len a m)) ≡ m
all-unused used a zero h = refl
all-unused used a (suc m) h =
    let rest : length (filter (λ n. not (used n)) (range_with_len (a + 1) m)) ≡ m =
    all-unused used (a + 1) m (λ n low. h n (omega (arith, low))) in
    by_test (used a) (h a (omega arith)) rest
  where
    by_test : (b : Bool) → b ≡ false → length (filter (λ n. not (used n)) (range_with_len (a + 1) m)) ≡ m →
        length (if not b then a ∷ filter (λ n. not (used n)) (range_with_len (a + 1) m) else filter (λ n. not (used n))
        (range_with_len (a + 1) m)) ≡ suc m
    by_test false e rest = omega (arith, rest)
    by_test true e rest = absurd (cc)

-- slots that are added are free
added-free : (s : Store) (n : ℕ) → HasNoOtherSlots s → length (free_among (s.slots + n) s.in_use) ≡ free_headers s + n
unfolding free_slots
added-free s n has =
    let counts : s.slots + n - 5 ≡ s.slots - 5 + n = omega (arith, has.own) in
    let first : 6 + (s.slots - 5) ≡ s.slots + 1 = omega (arith, has.own) in
    ap (λ (m : ℕ). length (filter (λ k. not (s.in_use k)) (range_with_len 6 m))) counts
    ∙ ap (λ (l : List ℕ). length (filter (λ k. not (s.in_use k)) l)) (range_with_len-append 6 (s.slots - 5) n)
    ∙ ap length (filter-append (λ k. not (s.in_use k)) (range_with_len 6 (s.slots - 5)) (range_with_len (6 + (s.slots - 5)) n))
    ∙ length-append (filter (λ k. not (s.in_use k)) (range_with_len 6 (s.slots - 5)))
    (filter (λ k. not (s.in_use k)) (range_with_len (6 + (s.slots - 5)) n))
    ∙ ap (λ (m : ℕ). length (filter (λ k. not (s.in_use k)) (range_with_len 6 (s.slots - 5))) + m)
    (all-unused s.in_use (6 + (s.slots - 5)) n (λ k low. has.none_behind k (omega (arith, low, first))))

-- so as many are free as were, and those that were added
ready-free : (s t : Store) (n : ℕ) → HasNoOtherSlots s → IsReady s n t → free_headers t ≡ free_headers s + n
unfolding free_slots
ready-free s t n has ready = ap length (free-stays s t n ready) ∙ by_count n
  where
    by_count : (n : ℕ) → free_headers (with_slots_added n s) ≡ free_headers s + n
    by_count zero = omega arith
    by_count (suc n) = added-free s (suc n) has

pub enough-are-free : EnoughAreFree
unfolding slots_first
enough-are-free s t headers has lacks gains =
    let all : slots_first s headers ≡ lacking s headers = rw lacks refl in
    omega (arith, ready-free s t (slots_first s headers) has (gained-is-ready s t headers gains), all)

pub ready-may-extend : ReadyMayExtend
ready-may-extend s t n f gains enough none =
    let ready = gained-is-ready s t (need f.room n) gains in
    let two = none_rest (nat_lt 256 (length f.held + need f.room n)) _ _ none in
    let one : nat_lt 256 (length f.held + need f.room n) ≡ false = none_first _ _ _ none in
    let blocks : nat_lt s.free (n + slots_first s (need f.room n)) ≡ false = none_first _ _ _ two in
    let left : nat_lt t.free n ≡ false = grind (arith, nat_tests, blocks, ready.free) in
    let headers : nat_lt (free_headers t) (need f.room n) ≡ false = grind (arith, nat_tests, enough) in
    rw (one, left, headers) refl
