-- The blocks of a run that was marked used, which a file gets header by header.
use Rattle.std.proofs.Common.{◌≡◌, ◌⊎◌, ◌+◌, ◌-◌, ◌*◌, ◌<◌, ◌≤◌, ◌==◌, ℕ, zero, suc, min, Bool, true, false, IsTrue, List, [], length}
use Rattle.std.proofs.Common.{Option, Some, unwrap_or, if◌then◌else◌, inl, inr, refl, sym, ap, subst, ◌∙◌, arith, length-append}
use Rattle.std.specs.List.{range_with_len}
use Rattle.std.proofs.lemmas.Bool.{cases_lt, both_ways}
use Rattle.std.proofs.lemmas.List.{length-replicate}
use Rattle.f11_bits.specs.Bitmap.{Bitmap}
use Rattle.f11_dev.specs.Disk.{Disk}
use Rattle.f11_dev.specs.Image.{Image, IsImage}
use Rattle.f11_dev.specs.Went.{Went}
use Rattle.f11_dev.proofs.LookedLemmas.{looked_none}
use Rattle.f11_dev.proofs.WentLemmas.{went_looked, went_more, went_weaker}
use Rattle.f11_home.specs.Home.{HomeFields}
use Rattle.f11_index.specs.IndexFile.{index_of}
use Rattle.f11_index.specs.Kept.{room}
use Rattle.f11_index.specs.Table.{Table, table_of, first, IsFile}
use Rattle.f11_index.proofs.ChainLemmas.{file_of-header}
use Rattle.f11_index.proofs.SegmentLemmas.{table-bytes}
use Rattle.f11_store.specs.Changes.{is_in}
use Rattle.f11_store.specs.Contiguous.{next_blocks, HaveCome, MoreCome}
use Rattle.f11_store.specs.File.{File, no_file, need, run_need, run_pointers, zero_block, zero_blocks}
use Rattle.f11_store.specs.Lags.{blocks_work, LagsBy}
use Rattle.f11_store.specs.Pieces.{file_numbered, longer_file, with_more_free, AddsBlocks, GrowsAs, GrowsIf, HasPlaces, MayGrowAs}
use Rattle.f11_store.specs.Pieces.{TakesSome}
use Rattle.f11_store.specs.Store.{Store, free_slots}
use Rattle.f11_store.specs.declared.callers.Uic.{Uic}
use Rattle.f11_store.specs.declared.files.FileId.{FileId}
use Rattle.f11_store.specs.declared.refusals.Refusal.{Refusal}
use Rattle.f11_store.proofs.LayingLemmas.{in-left, next-cases, pointers-add, run-goes-on, run-under-way, some-count, Next}
use Rattle.f11_store.proofs.PieceLemmas.{fewer-may, none-zeros, others-may-grow}
use Rattle.f11_store.proofs.RangeLemmas.{range_with_len-append}
use Rattle.f11_store.proofs.StoreLemmas.{other_number, same_number}
use Rattle.f11_volume.specs.Contents.{file_of}
use Rattle.f11_volume.specs.Sound.{HasSoundVolume}
use Rattle.f11_volume.specs.Space.{storage_bitmap}
use Rattle.f11_volume.specs.Volume.{volume_of}
use Rattle.f11_writes.specs.NameLaws.{AreUnreferenced}
use Rattle.f11_writes.proofs.NameLemmas.{part-unreferenced}
use Rattle.f11_image_store.specs.Allocation.{AddsZeroSlots, NamesMore}
use Rattle.f11_image_store.specs.FileLaws.{room_in}
use Rattle.f11_image_store.specs.StoreOf.{as_seen, store_of}
use Rattle.f11_image_store.proofs.AllocationLemmas.{gains-nothing, names-twice}
use Rattle.f11_image_store.proofs.PointerLemmas.{file-pointers}
use Rattle.f11_image_store.proofs.StoreLemmas.{file-at, seen-own}
use Rattle.f11_files.specs.Answers.{Breaks, WritesAtMost}
use Rattle.f11_files.specs.Extending.Growing.{IsGrowing, SameFree}
use Rattle.f11_files.specs.Extending.Header.{AppendingRun, AppendsRun}
use Rattle.f11_files.specs.Extending.Slots.{GetsBlocks}
use Rattle.f11_files.specs.Extending.Tail.{HoldsLast, ownership_of, places_next, whose}
use Rattle.f11_files.specs.LayingOut.Lay.{laying_cost, run_free, LayingRun, LaysRun}
use Rattle.f11_files.specs.Structure.{bitmap_in, home_of, store_on, IsStructureFor, StaysFor}
use Rattle.f11_files.specs.declared.structure.Structure.{Structure}
use Rattle.f11_files.specs.declared.extend.tail.Tail.{Tail}
use Rattle.f11_files.proofs.Extending.Growing.{room-here}
use Rattle.f11_files.proofs.Finding.Named.{file-stored}
use Rattle.f11_files.proofs.GrowingIndex.ZeroSlots.{zero-same, zero-then}
use Rattle.f11_files.proofs.LayingOut.Unnamed.{rest-unreferenced}
use Rattle.f11_files.proofs.Removing.Freeing.{breaks-behind, breaks-within, stays-for, stays-then}
use Rattle.f11_files.proofs.Removing.Loss.{in-run, out-run}

-- So many blocks of the run are the file's, and so many are left, which no header names.
pub record LaidUpTo (s t : Structure) (tail later : Tail) (lbn n come left : ℕ) (old now : Disk) : Type 0 where
  pub sum : come + left ≡ n
  pub file : whose later ≡ whose tail
  pub last : HoldsLast t later now
  pub stays : StaysFor false s t now
  pub bitmap : bitmap_in t ≡ bitmap_in s
  pub free : IsTrue old.honest → SameFree (home_of s) old.image now.image
  pub names :
      IsTrue old.honest →
      NamesMore tail.file.number (ownership_of tail) (range_with_len lbn come) (table_of old.image (home_of s))
      (table_of now.image (home_of s))
  pub slots : IsTrue old.honest → AddsZeroSlots (table_of old.image (home_of s)) (table_of now.image (home_of s))
  pub rest : IsTrue old.honest → AreUnreferenced (volume_of now.image (home_of s)) (lbn + come) left
  pub has : IsTrue old.honest → HaveCome (run_free s n old) tail.file.number come left (store_of now.image (home_of s))
  pub transfers : ℕ
  pub went : Went (LayingRun s tail.file.number n old) old now transfers 0
  pub few : (honest : IsTrue old.honest) → transfers ≤ come + 4 * (has honest).adds.added + min come 1

-- blocks that are no slots
adds-only : (b : Bool) (s t : Store) (k n most : ℕ) → b ≡ false → (one : GrowsIf b s k n most t)
    → (more : AddsBlocks s k n most (zero_blocks n) t) × (more.added ≡ one.grows.added)
adds-only true s t k n most is one = absurd cc
adds-only false s t k n most is one = (
  record {
    before = one.grows.before;
    added = one.grows.added;
    pointers = one.grows.pointers;
    room = one.grows.room;
    was = one.grows.was;
    may_grow = one.grows.may_grow;
    store_is = one.store_is ∙ one.grows.store_is;
  },
  refl,
)

-- they fit in the header that gets them
fits-next : (room left count : ℕ) → count ≡ next_blocks room left → run_pointers count ≤ (if room == 0 then 102 else room)
fits-next zero left count is = omega (arith, is)
fits-next (suc room) left count is =
    let other : (suc room == 0) ≡ false = other_number (suc room) 0 (λ none. omega (arith, none)) in
    let size : count ≡ min left (256 * suc room) = is ∙ ap (λ (b : Bool). min left (256 * (if b then 102 else suc room))) other in
    subst (λ (b : Bool). run_pointers count ≤ (if b then 102 else suc room)) (sym other) (omega (arith, size))

-- a file has a block at least in each pointer, and no more than its pointers name
pub file-bounds : (home : HomeFields) (image : Image) (k : ℕ) → IsImage image → 4 ≤ k → IsFile (table_of image home) k
    → ((file_numbered (store_of image home) k).pointers ≤ length (file_numbered (store_of image home) k).blocks)
    × (length (file_numbered (store_of image home) k).blocks ≤ 256 * (file_numbered (store_of image home) k).pointers)
file-bounds home image k is own file =
    let t : Table = table_of image home in
    let there : File = file_of image t k in
    let here : file_numbered (store_of image home) k ≡ there =
    ap (λ (o : Option File). unwrap_or o no_file)
    (file-stored image home k ∙ file-at image t k (Some (as_seen k there)) (λ _. refl) (λ none. absurd (none file))
    ∙ ap (λ (f : File). Some f) (seen-own k there own)) in
    subst (λ (f : File). (f.pointers ≤ length f.blocks) × (length f.blocks ≤ 256 * f.pointers)) (sym here) (file-pointers image home is k)

pub file-enough : (home : HomeFields) (image : Image) (k : ℕ) → IsImage image → 4 ≤ k → IsFile (table_of image home) k
    → length (file_numbered (store_of image home) k).blocks ≤ 256 * (file_numbered (store_of image home) k).pointers
file-enough home image k is own file = (file-bounds home image k is own file).1

zero-blocks-length : (n : ℕ) → length (zero_blocks n) ≡ n
unfolding zero_blocks
zero-blocks-length n = length-replicate {A = List ℕ} n zero_block

-- a file with so many blocks more
pub adds-blocks : (s t : Store) (k n most : ℕ) → AddsBlocks s k n most (zero_blocks n) t
    → length (file_numbered t k).blocks ≡ length (file_numbered s k).blocks + n
adds-blocks s t k n most e =
    let longer : File = longer_file s e.before (zero_blocks n) e.added e.pointers e.room in
    let now : file_numbered t k ≡ longer =
    ap (λ (x : Store). unwrap_or (x.file k) no_file) e.store_is
    ∙ ap (λ (b : Bool). unwrap_or (if b then Some longer else s.file k) no_file) (same_number k) in
    let was : length e.before.blocks ≡ length (file_numbered s k).blocks = ap (λ (o : Option File). length (unwrap_or o no_file).blocks)
    (sym e.was) in
    let long = length-append e.before.blocks (zero_blocks n) in
    let zeros = zero-blocks-length n in
    let same : length (file_numbered t k).blocks ≡ length longer.blocks = ap (λ (f : File). length f.blocks) now in
    omega (arith, long, zeros, same, was)

-- blocks that are free besides are no matter to a file's places
freed-places : (s : Store) (k n most a : ℕ) → HasPlaces (with_more_free s a) k n most → HasPlaces (with_more_free s n) k n most
unfolding free_slots
freed-places s k n most a may =
    let has = may.has_room in
    record { is_file = may.is_file; has_room = record { segments = has.segments; blocks = omega arith; headers = has.headers } }

-- no block is free besides
none-freed : (s : Store) → with_more_free s 0 ≡ s
none-freed s = ap (λ (n : ℕ). record s { free = n }) (let same : s.free + 0 ≡ s.free = omega arith in same)

-- each piece but the first takes a header
transfers-more : (come count so_far behind before added after : ℕ) → 0 < count → so_far ≤ come + 4 * before + min come 1
    → behind ≤ count + 1 + 3 * added → after ≡ before + added → (0 < come → 1 ≤ added)
    → so_far + behind ≤ come + count + 4 * after + min (come + count) 1
transfers-more come count so_far behind before added after some here more sum header = elim (cases_lt 0 come) [
  | inl has ↦ let one = header has in omega (arith, has, one, here, more, sum)
  | inr none ↦ omega (arith, none, some, here, more, sum)
]

module _ (s : Structure) (tail : Tail) (lbn n : ℕ) (old : Disk) (for : IsStructureFor s old) (last : HoldsLast s tail old)
    (own : 4 ≤ tail.file.number) (within : lbn + n ≤ (bitmap_in s).size)
    (unreferenced : IsTrue old.honest → AreUnreferenced (volume_of old.image (home_of s)) lbn n)
    (empty : IsTrue old.honest → (file_numbered (store_on s old) tail.file.number).pointers ≡ 0)
    (may : IsTrue old.honest → MayGrowAs (run_free s n old) tail.file.number n (run_pointers n)) where
  abbrev home : HomeFields
  home = home_of s

  abbrev k : ℕ
  k = tail.file.number

  abbrev st : Store
  st = store_on s old

  abbrev free : Store
  free = run_free s n old

  abbrev P : Image → Type 0
  P = LayingRun s k n old

  no-slots-here : (k == 1) ≡ false
  no-slots-here = other_number k 1 (λ one. omega (arith, one, own))

  none-come : IsTrue old.honest → HaveCome free k 0 n st
  none-come honest = record { adds = none-zeros free k n (run_pointers n) (may honest).places; full = λ _. inl refl }

  none-named : IsTrue old.honest → NamesMore k (ownership_of tail) [] (table_of old.image home) (table_of old.image home)
  unfolding volume_of
  none-named honest = (gains-nothing k (ownership_of tail) (volume_of old.image home) (file_of-header (last.is_last honest).of)).names

  pub laid-none : LaidUpTo s s tail tail lbn n 0 n old old
  laid-none = record {
    sum = omega arith;
    file = refl;
    last = last;
    stays = record { home = refl; lies = λ _. for.lies; sound = for.sound; keeps = λ _. for.keeps };
    bitmap = refl;
    free = λ _. refl;
    names = none-named;
    slots = λ _. zero-same (table_of old.image home);
    rest = λ honest. subst (λ (l : ℕ). AreUnreferenced (volume_of old.image home) l n) (omega arith) (unreferenced honest);
    has = none-come;
    transfers = 0;
    went = went_looked P (looked_none old);
    few = λ honest. omega arith;
  }

  pub sound-moment : (image : Image) → P image → IsTrue old.honest → HasSoundVolume image home
  sound-moment image is honest = (is honest).sound

  module _ (t : Structure) (later : Tail) (come left count : ℕ) (now : Disk) (some : 0 < left)
      (so_far : LaidUpTo s t tail later lbn n come left old now) (is : count ≡ next_blocks (room_in later.block) left) where
    abbrev tn : Store
    tn = store_of now.image home

    now-honest : IsTrue old.honest → IsTrue now.honest
    now-honest honest = so_far.went.honest ∙ honest

    was-honest : IsTrue now.honest → IsTrue old.honest
    was-honest honest = sym so_far.went.honest ∙ honest

    number : later.file.number ≡ k
    number = ap (λ (w : FileId × Uic × ℕ). w.0.number) so_far.file

    ownership : ownership_of later ≡ ownership_of tail
    ownership = ap (λ (w : FileId × Uic × ℕ). (w.1, w.2)) so_far.file

    next-is : Next (room_in later.block) left count
    next-is = next-cases (room_in later.block) left count is

    pub next-some : 0 < count
    next-some = some-count (room_in later.block) left count some next-is

    pub next-few : count ≤ left
    next-few = in-left (room_in later.block) left count next-is

    pub next-for : IsStructureFor t now
    next-for = stays-for so_far.stays

    pub next-gets : GetsBlocks later.file.number
    next-gets = inr (omega (arith, number, own))

    pub next-within : lbn + come + count ≤ (bitmap_in t).size
    next-within =
        let size = ap (λ (b : Bitmap). b.size) so_far.bitmap in
        let sum = so_far.sum in
        let few = next-few in
        omega (arith, size, sum, few, within)

    pub next-fits : run_pointers count ≤ places_next later.block
    next-fits = fits-next (room_in later.block) left count is

    pub next-unreferenced : IsTrue now.honest → AreUnreferenced (volume_of now.image (home_of t)) (lbn + come) count
    next-unreferenced honest =
        subst (λ (h : HomeFields). AreUnreferenced (volume_of now.image h) (lbn + come) count) (sym so_far.stays.home)
        (part-unreferenced (volume_of now.image home) (lbn + come) left (lbn + come) count (so_far.rest (was-honest honest)) (omega arith)
        (let few = next-few in omega (arith, few)))

    pub next-reserved : IsTrue (later.file.number == 1) → count ≤ room t.index
    next-reserved one = absurd (both_ways _ (ap (λ (j : ℕ). j == 1) number ∙ no-slots-here) one)

    -- the room of the file is that of the header in hand
    room-now : IsTrue old.honest → (file_numbered tn k).room ≡ room_in later.block
    room-now honest =
        subst (λ (h : HomeFields). (file_numbered (store_of now.image h) k).room ≡ room_in later.block) so_far.stays.home
        (subst (λ (j : ℕ). (file_numbered (store_on t now) j).room ≡ room_in later.block) number
        (room-here t later now next-for so_far.last (now-honest honest)))

    count-now : IsTrue old.honest → count ≡ next_blocks (file_numbered tn k).room left
    count-now honest = is ∙ ap (λ (r : ℕ). next_blocks r left) (sym (room-now honest))

    places-left : IsTrue old.honest → HasPlaces (with_more_free tn left) k count (run_pointers count)
    places-left honest =
        let e = so_far.has honest in
        let sum = so_far.sum in
        let few = next-few in
        let both = pointers-add come count ((file_numbered free k).room + 102 * e.adds.added) (e.full some) in
        fewer-may (with_more_free tn left) k (n - come) count (run_pointers n - run_pointers come) (run_pointers count)
        (others-may-grow free (with_more_free tn left) k n come (run_pointers n) (run_pointers come) (zero_blocks come) (may honest).places
        e.adds (omega (arith, sum)) (omega (arith, sum)))
        (omega (arith, sum, few)) (omega (arith, both, sum, few))

    may-now : IsTrue old.honest → MayGrowAs (with_more_free tn count) k count (run_pointers count)
    may-now honest =
        record {
          places = freed-places tn k count (run_pointers count) left (places-left honest);
          within = λ is.
              absurd (both_ways _ no-slots-here is);
        }

    pub next-may : IsTrue now.honest → MayGrowAs (with_more_free (store_on t now) count) later.file.number count (run_pointers count)
    next-may honest =
        subst (λ (h : HomeFields). MayGrowAs (with_more_free (store_of now.image h) count) later.file.number count (run_pointers count))
        (sym so_far.stays.home)
        (subst (λ (j : ℕ). MayGrowAs (with_more_free tn count) j count (run_pointers count)) (sym number) (may-now (was-honest honest)))

    -- images that stand meanwhile
    lags : IsTrue old.honest → (u : Store)
        → TakesSome 0 (need (file_numbered tn k).room (run_pointers count)) tn u
        ⊎ GrowsAs (with_more_free tn count) k count (run_pointers count) u
        → LagsBy (blocks_work k n (run_need (file_numbered free k).room n)) u free
    lags honest u (inl takes) =
        run-under-way free tn u k n come left count some so_far.sum (count-now honest) (so_far.has honest) (inl takes)
    lags honest u (inr piece) =
        run-under-way free tn u k n come left count some so_far.sum (count-now honest) (so_far.has honest)
        (inr (adds-only (k == 1) (with_more_free tn count) u k count (run_pointers count) no-slots-here piece).0)

    moment : (image : Image) → AppendingRun t later count now image → P image
    moment image step honest =
        let named : IsGrowing (home_of t) 0 (need (file_numbered (store_on t now) k).room (run_pointers count))
        (GrowsAs (with_more_free (store_on t now) count) k count (run_pointers count)) (store_on t now) image =
        subst (λ (j : ℕ). IsGrowing (home_of t) 0 (need (file_numbered (store_on t now) j).room (run_pointers count))
        (GrowsAs (with_more_free (store_on t now) count) j count (run_pointers count)) (store_on t now) image) number
        (step (now-honest honest)) in
        let here : IsGrowing home 0 (need (file_numbered tn k).room (run_pointers count))
        (GrowsAs (with_more_free tn count) k count (run_pointers count)) tn image =
        subst (λ (h : HomeFields). IsGrowing h 0 (need (file_numbered (store_of now.image h) k).room (run_pointers count))
        (GrowsAs (with_more_free (store_of now.image h) count) k count (run_pointers count)) (store_of now.image h) image)
        so_far.stays.home named in
        record { sound = here.sound; lags = lags honest (store_of image home) here.stage }

    few-added : (honest : IsTrue old.honest) → (so_far.has honest).adds.added ≤ need (file_numbered st k).room (run_pointers come)
    few-added honest =
        let e = (so_far.has honest).adds in
        let room : e.before.room ≡ (file_numbered st k).room = ap (λ (o : Option File). (unwrap_or o no_file).room) (sym e.was) in
        let headers = e.may_grow.headers in
        omega (arith, headers, room)

    written : WritesAtMost P (come + 4 * need (file_numbered st k).room (run_pointers come) + 1) old now 0
    written = record {
      transfers = so_far.transfers;
      went = so_far.went;
      few = λ honest. let here = so_far.few honest in let few = few-added honest in omega (arith, here, few);
    }

    pub fails-run : (new : Disk) (r : Refusal) → Breaks (AppendingRun t later count now) (count + 4) r now new
        → Breaks P (laying_cost s k n old + 4) r old new
    fails-run new r breaks =
        let sum = so_far.sum in
        let few = next-few in
        breaks-within (λ _. omega (arith, sum, few)) (breaks-behind moment written breaks)

    -- what isn't in the run isn't in this part of it
    pub part-in : (l : ℕ) → is_in (range_with_len lbn n) l ≡ false → is_in (range_with_len (lbn + come) count) l ≡ false
    part-in l out =
        let sum = so_far.sum in
        let few = next-few in
        elim (cases_lt l lbn) [
          | inl low ↦ out-run (lbn + come) count l (inl (omega (arith, low)))
          | inr high ↦ elim (cases_lt l (lbn + n)) [
            | inl inside ↦ absurd (both_ways _ out (in-run lbn n l high inside))
            | inr past ↦ out-run (lbn + come) count l (inr (omega (arith, past, sum, few)))
          ]
        ]

    module _ (u : Structure) (after : Tail) (new : Disk) (was_image : IsImage now.image) (image : IsImage new.image)
        (appends : AppendsRun t u later after (lbn + come) count (count + 1) now new) (kept : StaysFor false t u new) where
      abbrev un : Store
      un = store_of new.image home

      stays-now : StaysFor false s u new
      stays-now = stays-then so_far.stays.home kept

      grown : IsTrue old.honest
          → (e : GrowsAs (with_more_free tn count) k count (run_pointers count) un)
          × (appends.grew.transfers ≤ count + 1 + 3 * e.grows.added)
      grown honest =
          let there = now-honest honest in
          subst (λ (h : HomeFields).
          (e : GrowsAs (with_more_free (store_of now.image h) count) k count (run_pointers count) (store_of new.image h))
          × (appends.grew.transfers ≤ count + 1 + 3 * e.grows.added)) so_far.stays.home
          (subst (λ (j : ℕ). (e : GrowsAs (with_more_free (store_on t now) count) j count (run_pointers count)
          (store_of new.image (home_of t))) × (appends.grew.transfers ≤ count + 1 + 3 * e.grows.added)) number
          (appends.grew.grows there, appends.grew.few there))

      piece : IsTrue old.honest
          → (e : AddsBlocks (with_more_free tn count) k count (run_pointers count) (zero_blocks count) un)
          × (appends.grew.transfers ≤ count + 1 + 3 * e.added)
      piece honest =
          let one = grown honest in
          let alone = adds-only (k == 1) (with_more_free tn count) un k count (run_pointers count) no-slots-here one.0 in
          let same = alone.1 in
          let few = one.1 in
          (alone.0, omega (arith, same, few))

      names-here : IsTrue old.honest
          → NamesMore k (ownership_of tail) (range_with_len (lbn + come) count) (table_of now.image home) (table_of new.image home)
      names-here honest =
          subst (λ (h : HomeFields). NamesMore k (ownership_of tail) (range_with_len (lbn + come) count) (table_of now.image h)
          (table_of new.image h)) so_far.stays.home
          (subst (λ (w : Uic × ℕ). NamesMore k w (range_with_len (lbn + come) count) (table_of now.image (home_of t))
          (table_of new.image (home_of t))) ownership
          (subst (λ (j : ℕ). NamesMore j (ownership_of later) (range_with_len (lbn + come) count) (table_of now.image (home_of t))
          (table_of new.image (home_of t))) number
          (appends.names (now-honest honest))))

      free-here : IsTrue old.honest → SameFree home now.image new.image
      free-here honest = subst (λ (h : HomeFields). SameFree h now.image new.image) so_far.stays.home (appends.free (now-honest honest))

      sound-now : IsTrue old.honest → HasSoundVolume now.image home
      sound-now honest = subst (λ (h : HomeFields). HasSoundVolume now.image h) so_far.stays.home (so_far.stays.sound (now-honest honest))

      new-honest : IsTrue old.honest → IsTrue new.honest
      new-honest honest = appends.grew.went.honest ∙ now-honest honest

      size-here : IsTrue old.honest → (volume_of new.image home).size ≡ (volume_of now.image home).size
      unfolding volume_of
      size-here honest =
          let next : bitmap_in u ≡ storage_bitmap new.image home = (stays-now.keeps refl (new-honest honest)).bitmap_is
          ∙ ap (storage_bitmap new.image) stays-now.home in
          let was : bitmap_in t ≡ storage_bitmap now.image home = (so_far.stays.keeps refl (now-honest honest)).bitmap_is
          ∙ ap (storage_bitmap now.image) so_far.stays.home in
          ap (λ (b : Bitmap). b.size) (sym next ∙ appends.bitmap ∙ was)

      rest-now : IsTrue old.honest → AreUnreferenced (volume_of new.image home) (lbn + (come + count)) (left - count)
      unfolding volume_of
      rest-now honest =
          let few = next-few in
          rest-unreferenced k (lbn + come) count (ownership_of tail) (volume_of now.image home) (volume_of new.image home)
          (sound-now honest).sound (table-bytes new.image (index_of new.image home) image)
          (names-here honest) (lbn + (come + count)) (left - count) (omega arith) (size-here honest) (free-here honest)
          (part-unreferenced (volume_of now.image home) (lbn + come) left (lbn + (come + count)) (left - count) (so_far.rest honest)
          (omega arith) (omega (arith, few)))

      is-file : IsTrue old.honest → IsFile (table_of now.image home) k
      is-file honest =
          subst (λ (h : HomeFields). IsFile (table_of now.image h) k) so_far.stays.home
          (subst (λ (j : ℕ). IsFile (table_of now.image (home_of t)) j) number
          (file_of-header (so_far.last.is_last (now-honest honest)).of))

      still-file : IsTrue old.honest → IsFile (table_of new.image home) k
      still-file honest = file_of-header ((names-here honest).headers k (first (is-file honest)))

      more : (honest : IsTrue old.honest) → MoreCome free k come left count tn un (so_far.has honest) (piece honest).0
      more honest =
          let has = so_far.has honest in
          let one = (piece honest).0 in
          let come_now = adds-blocks free (with_more_free tn left) k come (run_pointers come) has.adds in
          let come_then = adds-blocks (with_more_free tn count) un k count (run_pointers count) one in
          let enough = file-enough home now.image k was_image own (is-file honest) in
          let then_enough = file-enough home new.image k image own (still-file honest) in
          run-goes-on free tn un k come left count (empty honest) some (count-now honest) has one (omega (arith, come_now, enough))
          (omega (arith, come_now, come_then, then_enough))

      pub laid-more : LaidUpTo s u tail after lbn n (come + count) (left - count) old new
      laid-more = record {
        sum = let sum = so_far.sum in let few = next-few in omega (arith, sum, few);
        file = appends.file ∙ so_far.file;
        last = appends.last;
        stays = stays-now;
        bitmap = appends.bitmap ∙ so_far.bitmap;
        free = λ honest. free-here honest ∙ so_far.free honest;
        names = λ honest.
            subst (λ (l : List ℕ). NamesMore k (ownership_of tail) l (table_of old.image home) (table_of new.image home))
            (sym (range_with_len-append lbn come count))
            (names-twice k (ownership_of tail) (range_with_len lbn come) (range_with_len (lbn + come) count) (table_of old.image home)
            (table_of now.image home) (table_of new.image home) (so_far.names honest) (names-here honest));
        slots = λ honest.
            zero-then (table_of old.image home) (table_of now.image home) (table_of new.image home) (so_far.slots honest)
            (subst (λ (h : HomeFields). AddsZeroSlots (table_of now.image h) (table_of new.image h)) so_far.stays.home
            (appends.slots (now-honest honest)));
        rest = rest-now;
        has = λ honest. (more honest).next;
        transfers = so_far.transfers + appends.grew.transfers;
        went = went_more P so_far.went (went_weaker (AppendingRun t later count now) P moment appends.grew.went);
        few = λ honest.
            let here = so_far.few honest in
            let next = (piece honest).1 in
            let all = more honest in
            let headers = all.headers in
            let some = next-some in
            transfers-more come count so_far.transfers appends.grew.transfers (so_far.has honest).adds.added (piece honest).0.added
            (all.next.adds.added) some here next headers all.header;
      }

  module _ (t : Structure) (later : Tail) (come : ℕ) (now : Disk) (so_far : LaidUpTo s t tail later lbn n come 0 old now) where
    abbrev end : Store
    end = store_of now.image home

    all-come : come ≡ n
    all-come = let sum = so_far.sum in omega (arith, sum)

    adds-all : IsTrue old.honest → AddsBlocks free k n (run_pointers n) (zero_blocks n) end
    adds-all honest =
        subst (λ (x : Store). AddsBlocks free k n (run_pointers n) (zero_blocks n) x) (none-freed end)
        (subst (λ (m : ℕ). AddsBlocks free k m (run_pointers m) (zero_blocks m) (with_more_free end 0)) all-come (so_far.has honest).adds)

    few-headers : (honest : IsTrue old.honest) → (so_far.has honest).adds.added ≤ run_need (file_numbered st k).room n
    few-headers honest =
        let e = (so_far.has honest).adds in
        let room : e.before.room ≡ (file_numbered st k).room = ap (λ (o : Option File). (unwrap_or o no_file).room) (sym e.was) in
        let headers = e.may_grow.headers in
        let all = all-come in
        omega (arith, headers, room, all)

    pub laid-done : LaysRun s t tail lbn n old now
    laid-done = record {
      bitmap = so_far.bitmap;
      free = so_far.free;
      names = λ honest. subst (λ (m : ℕ). NamesMore k (ownership_of tail) (range_with_len lbn m) (table_of old.image home)
          (table_of now.image home)) all-come (so_far.names honest);
      slots = so_far.slots;
      adds = adds-all;
      writes = record {
        transfers = so_far.transfers;
        went = so_far.went;
        few = λ honest. let here = so_far.few honest in let few = few-headers honest in let all = all-come in omega (arith, here, few, all);
      };
    }
