-- Blocks of one run that come to a file of the plain store, header by header.
use Rattle.std.proofs.Common.{◌≡◌, ℕ, zero, suc, ◌+◌, ◌-◌, ◌*◌, ◌<◌, ◌≤◌, ◌⊎◌, inl, inr, Bool, List, ◌++◌, Option, Some, None, length}
use Rattle.std.proofs.Common.{nat_lt, min, unwrap_or, if◌then◌else◌, refl, sym, ◌∙◌, ap, subst, arith}
use Rattle.f11_store.specs.Causes.{contiguous_causes, first_of}
use Rattle.f11_store.specs.Changes.{MayGrow}
use Rattle.f11_store.specs.Contiguous.{next_blocks, RunGoesOn, RunUnderWay}
use Rattle.f11_store.specs.File.{File, length_of, need, no_file, run_need, run_pointers, zero_blocks}
use Rattle.f11_store.specs.Lags.{blocks_work, LagsBy}
use Rattle.f11_store.specs.Pieces.{file_numbered, longer_file, with_longer_file, with_more_free, AddsBlocks, HasRoom, TakesSome}
use Rattle.f11_store.specs.Store.{Store, free_headers, free_slots}
use Rattle.f11_store.specs.declared.refusals.Refusal.TheVariants.{NotEmpty, TooManySegments, DeviceFull, NoHeader}
use Rattle.f11_store.proofs.Frees.{same_limits}
use Rattle.f11_store.proofs.PieceLagLemmas.{taken-lags, takes-none}
use Rattle.f11_store.proofs.PieceLemmas.{adds-twice, may-within, not-more, zeros-add}
use Rattle.f11_store.proofs.StoreLemmas.{none_first, none_rest, other_number, same_number, same-store}

-- blocks that are free besides stay so
longer-freed :
    (s : Store) (k n : ℕ) (f : File) (blocks : List (List ℕ)) (added pointers room c : ℕ) → n ≤ s.free →
    with_more_free (with_longer_file s k f n blocks added pointers room) c ≡ with_longer_file (with_more_free s c) k f n blocks added
    pointers room
unfolding free_slots
longer-freed s k n f blocks added pointers room c few =
    same-store
    (with_more_free (with_longer_file s k f n blocks added pointers room) c)
    (with_longer_file (with_more_free s c) k f n blocks added pointers room)
    (λ m. refl) (omega (arith, few)) refl (λ m. refl) (λ m. refl) refl refl refl refl

adds-freed :
    (s t : Store) (k n most c : ℕ) (blocks : List (List ℕ)) → n ≤ s.free → (one : AddsBlocks s k n most blocks t) →
    (more : AddsBlocks (with_more_free s c) k n most blocks (with_more_free t c)) × (more.added ≡ one.added)
adds-freed s t k n most c blocks few one = (
  record {
    before = one.before;
    added = one.added;
    pointers = one.pointers;
    room = one.room;
    was = one.was;
    may_grow = one.may_grow;
    store_is = ap (λ (x : Store). with_more_free x c) one.store_is
        ∙ longer-freed s k n one.before blocks one.added one.pointers one.room c few;
  },
  refl,
)

-- some and the others are free
free-both : (s : Store) (a b c : ℕ) → a + b ≡ c → with_more_free (with_more_free s a) b ≡ with_more_free s c
free-both s a b c sum = ap (λ (n : ℕ). record s { free = n }) (let all : s.free + a + b ≡ s.free + c = omega (arith, sum) in all)

-- what comes next is some of the blocks that are left
abbrev pub Next : ℕ → ℕ → ℕ → Type 0
Next room left count = ((room ≡ 0) × (count ≡ min left (256 * 102))) ⊎ ((0 < room) × (count ≡ min left (256 * room)))

-- what the last header, or a new one, has places for
pub next-cases : (room left count : ℕ) → count ≡ next_blocks room left → Next room left count
next-cases zero left count is = inl (refl, is)
next-cases (suc room) left count is =
    inr (
      omega arith,
      is ∙ ap (λ (b : Bool). min left (256 * (if b then 102 else suc room)))
          (other_number (suc room) 0 (λ none. omega (arith, none))),
    )

pub some-count : (room left count : ℕ) → 0 < left → Next room left count → 0 < count
some-count room left count some (inl is) = let size = is.1 in omega (arith, size, some)
some-count room left count some (inr is) = let size = is.1 in let has = is.0 in omega (arith, size, has, some)

pub in-left : (room left count : ℕ) → Next room left count → count ≤ left
in-left room left count (inl is) = let size = is.1 in omega (arith, size)
in-left room left count (inr is) = let size = is.1 in omega (arith, size)

-- each pointer but the last is full
pub pointers-add : (come count places : ℕ) → (come ≡ 0) ⊎ (come ≡ 256 * places)
    → run_pointers come + run_pointers count ≤ run_pointers (come + count)
pointers-add come count places (inl is) = omega (arith, is)
pointers-add come count places (inr is) = omega (arith, is)

-- the numbers: what was there, what has come, and what comes
module _ (r0 come left count pointers room added more_pointers more_room more : ℕ) (some : 0 < left)
    (few_pointers : pointers ≤ run_pointers come) (places : pointers + room ≡ r0 + 102 * added)
    (few_added : added ≤ need r0 (run_pointers come)) (enough : come ≤ 256 * pointers)
    (full : (come ≡ 0) ⊎ (come ≡ 256 * (r0 + 102 * added)))
    (next : Next room left count) (few_more : more ≤ need room (run_pointers count))
    (then_places : more_pointers + more_room ≡ pointers + room + 102 * more) (then_enough : come + count ≤ 256 * more_pointers) where
  exact-pointers : pointers ≡ run_pointers come
  exact-pointers = omega (arith, few_pointers, enough)

  comes : 0 < count
  comes = some-count room left count some next

  no-room : 0 < come → room ≡ 0
  no-room has = elim full [ inl is ↦ absurd (omega (arith, is, has)) | inr is ↦ omega (arith, is, exact-pointers, places) ]

  a-header : 0 < come → 1 ≤ more
  a-header has = let none = no-room has in omega (arith, none, then_places, then_enough, exact-pointers, comes, no-room-pointers has)
    where
      no-room-pointers : 0 < come → come ≡ 256 * pointers
      no-room-pointers has = elim full [ inl is ↦ absurd (omega (arith, is, has)) | inr is ↦ omega (arith, is, exact-pointers) ]

  still-full : 0 < left - count → come + count ≡ 256 * (r0 + 102 * (added + more))
  still-full rest = elim next [
    | inl is ↦ elim full [
      | inl none ↦
          let first : added ≡ 0 = omega (arith, none, few_added) in
          let no_pointer : pointers ≡ 0 = omega (arith, exact-pointers, none) in
          let size : count ≡ 26112 = omega (arith, is.1, rest) in
          let one : more ≡ 1 = omega (arith, few_more, is.0, size, then_places, then_enough, none, no_pointer) in
          omega (arith, none, first, one, size, places, no_pointer, is.0)
      | inr all ↦
          let size : count ≡ 26112 = omega (arith, is.1, rest) in
          let at_most : more ≤ 1 = omega (arith, few_more, is.0, size) in
          let fewer : pointers ≡ r0 + 102 * added = omega (arith, exact-pointers, all) in
          let one : more ≡ 1 = omega (arith, at_most, is.0, size, then_places, then_enough, all, fewer) in
          omega (arith, all, one, size)
    ]
    | inr is ↦ elim full [
      | inl none ↦
          let first : added ≡ 0 = omega (arith, none, few_added) in
          let no_pointer : pointers ≡ 0 = omega (arith, exact-pointers, none) in
          let size : count ≡ 256 * room = omega (arith, is.1, rest) in
          let no_header : more ≡ 0 = omega (arith, few_more, size) in
          omega (arith, none, first, no_header, size, places, no_pointer)
      | inr all ↦ absurd (omega (arith, is.0, exact-pointers, all, places))
    ]
  ]

pub run-goes-on : RunGoesOn
run-goes-on s t u k come left count none some is so_far piece enough then_enough = record {
  next = record { adds = made.0; full = λ rest. inr (full-then rest ∙ ap (λ (x : ℕ). 256 * (r0 + 102 * x)) (sym made.1)) };
  headers = made.1;
  header = λ has.
      a-header r0 come left count e.pointers e.room e.added piece.pointers piece.room piece.added some few-pointers places few-added
      enough-now full next few-more
      then-places then-enough has;
}
  where
    e : AddsBlocks s k come (run_pointers come) (zero_blocks come) (with_more_free t left)
    e = so_far.adds

    r0 : ℕ
    r0 = (file_numbered s k).room

    same : e.before ≡ file_numbered s k
    same = sym (ap (λ (o : Option File). unwrap_or o no_file) e.was)

    longer : File
    longer = longer_file s e.before (zero_blocks come) e.added e.pointers e.room

    now : file_numbered t k ≡ longer
    now =
        ap (λ (x : Store). unwrap_or (x.file k) no_file) e.store_is
        ∙ ap (λ (b : Bool). unwrap_or (if b then Some longer else s.file k) no_file) (same_number k)

    was : piece.before ≡ longer
    was = sym (ap (λ (o : Option File). unwrap_or o no_file) piece.was) ∙ now

    after : (file_numbered u k).pointers ≡ piece.pointers
    after =
        ap (λ (x : Store). (unwrap_or (x.file k) no_file).pointers) piece.store_is
        ∙ ap (λ (b : Bool). (unwrap_or
        (if b then Some (longer_file (with_more_free t count) piece.before (zero_blocks count) piece.added piece.pointers piece.room)
        else t.file k) no_file).pointers)
        (same_number k)

    may : MayGrow (file_numbered s k) (run_pointers come) e.added e.pointers e.room
    may = subst (λ (f : File). MayGrow f (run_pointers come) e.added e.pointers e.room) same e.may_grow

    more-may : MayGrow longer (run_pointers count) piece.added piece.pointers piece.room
    more-may = subst (λ (f : File). MayGrow f (run_pointers count) piece.added piece.pointers piece.room) was piece.may_grow

    few-pointers : e.pointers ≤ run_pointers come
    few-pointers = let most = may.no_more in omega (arith, most, none)

    places : e.pointers + e.room ≡ r0 + 102 * e.added
    places = let all = may.places in omega (arith, all, none)

    few-added : e.added ≤ need r0 (run_pointers come)
    few-added = may.headers

    enough-now : come ≤ 256 * e.pointers
    enough-now = let has = ap (λ (f : File). f.pointers) now in omega (arith, has, enough)

    full : (come ≡ 0) ⊎ (come ≡ 256 * (r0 + 102 * e.added))
    full = so_far.full some

    next : Next e.room left count
    next = next-cases e.room left count (is ∙ ap (λ (f : File). next_blocks f.room left) now)

    few-more : piece.added ≤ need e.room (run_pointers count)
    few-more = more-may.headers

    then-places : piece.pointers + piece.room ≡ e.pointers + e.room + 102 * piece.added
    then-places = more-may.places

    then-enough : come + count ≤ 256 * piece.pointers
    then-enough = omega (arith, after, then_enough)

    full-then : 0 < left - count → come + count ≡ 256 * (r0 + 102 * (e.added + piece.added))
    full-then rest =
        still-full r0 come left count e.pointers e.room e.added piece.pointers piece.room piece.added some few-pointers places few-added
        enough-now full next few-more
        then-places then-enough rest

    fits : count ≤ left
    fits = in-left e.room left count next

    fewer : run_pointers come + run_pointers count ≤ run_pointers (come + count)
    fewer = pointers-add come count (r0 + 102 * e.added) full

    freed : (more : AddsBlocks (with_more_free t left) k count (run_pointers count) (zero_blocks count) (with_more_free u (left - count)))
        × (more.added ≡ piece.added)
    freed =
        subst (λ (x : Store). (more : AddsBlocks x k count (run_pointers count) (zero_blocks count) (with_more_free u (left - count)))
        × (more.added ≡ piece.added))
        (free-both t count (left - count) left (omega (arith, fits)))
        (adds-freed (with_more_free t count) u k count (run_pointers count) (left - count) (zero_blocks count) (omega arith) piece)

    both : (whole : AddsBlocks s k (come + count) (run_pointers come + run_pointers count) (zero_blocks come ++ zero_blocks count)
        (with_more_free u (left - count)))
        × (whole.added ≡ e.added + freed.0.added)
    both =
        adds-twice s (with_more_free t left) (with_more_free u (left - count)) k come count (run_pointers come) (run_pointers count)
        (zero_blocks come) (zero_blocks count) e freed.0

    within : AddsBlocks s k (come + count) (run_pointers (come + count)) (zero_blocks come ++ zero_blocks count)
        (with_more_free u (left - count))
    within = record {
      before = both.0.before;
      added = both.0.added;
      pointers = both.0.pointers;
      room = both.0.room;
      was = both.0.was;
      may_grow = may-within both.0.before (run_pointers come + run_pointers count) (run_pointers (come + count)) both.0.added
          both.0.pointers both.0.room fewer both.0.may_grow;
      store_is = both.0.store_is;
    }

    made : (whole : AddsBlocks s k (come + count) (run_pointers (come + count)) (zero_blocks (come + count))
        (with_more_free u (left - count)))
        × (whole.added ≡ e.added + piece.added)
    made =
        subst (λ (bs : List (List ℕ)).
        (whole : AddsBlocks s k (come + count) (run_pointers (come + count)) bs (with_more_free u (left - count)))
        × (whole.added ≡ e.added + piece.added))
        (zeros-add come count) (within, both.1 ∙ ap (λ (x : ℕ). e.added + x) freed.1)

-- blocks that are free besides were taken
takes-freed : (s u : Store) (h c : ℕ) → TakesSome 0 h s u → TakesSome c h (with_more_free s c) u
unfolding free_slots
takes-freed s u h c takes = record {
  files = takes.files;
  free = let free = takes.free in omega (arith, free);
  unused = takes.unused;
  slots_free = takes.slots_free;
  last = takes.last;
  no_header = takes.no_header;
  slots = takes.slots;
  limits = same_limits takes.limits.bitmap_blocks takes.limits.index_bitmap_blocks takes.limits.limit;
}

pub run-under-way : RunUnderWay
run-under-way s t u k n come left count some sum is so_far stage = by_stage stage
  where
    e : AddsBlocks s k come (run_pointers come) (zero_blocks come) (with_more_free t left)
    e = so_far.adds

    longer : File
    longer = longer_file s e.before (zero_blocks come) e.added e.pointers e.room

    now : file_numbered t k ≡ longer
    now =
        ap (λ (x : Store). unwrap_or (x.file k) no_file) e.store_is
        ∙ ap (λ (b : Bool). unwrap_or (if b then Some longer else s.file k) no_file) (same_number k)

    fits : count ≤ left
    fits = in-left e.room left count (next-cases e.room left count (is ∙ ap (λ (f : File). next_blocks f.room left) now))

    fewer : run_pointers come + run_pointers count ≤ run_pointers n
    fewer =
        let both = pointers-add come count ((file_numbered s k).room + 102 * e.added) (so_far.full some) in omega (arith, both, sum, fits)

    by_stage : TakesSome 0 (need (file_numbered t k).room (run_pointers count)) t u
        ⊎ AddsBlocks (with_more_free t count) k count (run_pointers count) (zero_blocks count) u
        → LagsBy (blocks_work k n (run_need (file_numbered s k).room n)) u s
    by_stage (inl takes) =
        taken-lags s (with_more_free t left) u k n (run_pointers n) come (run_pointers come) left (run_pointers count) e
        (omega (arith, sum)) fewer
        (takes-freed t u (need (file_numbered t k).room (run_pointers count)) left takes)
    by_stage (inr piece) =
        let freed =
        subst (λ (x : Store). AddsBlocks x k count (run_pointers count) (zero_blocks count) (with_more_free u (left - count)))
        (free-both t count (left - count) left (omega (arith, fits)))
        (adds-freed (with_more_free t count) u k count (run_pointers count) (left - count) (zero_blocks count) (omega arith) piece).0 in
        let both = (adds-twice s (with_more_free t left) (with_more_free u (left - count)) k come count (run_pointers come)
        (run_pointers count) (zero_blocks come) (zero_blocks count) e freed).0 in
        let all = subst (λ (bs : List (List ℕ)). AddsBlocks s k (come + count) (run_pointers come + run_pointers count) bs
        (with_more_free u (left - count))) (zeros-add come count) both in
        taken-lags s (with_more_free u (left - count)) u k n (run_pointers n) (come + count) (run_pointers come + run_pointers count)
        (left - count) 0 all
        (omega (arith, sum, fits)) (omega (arith, fewer))
        (takes-freed u u (need (file_numbered u k).room 0) (left - count) (takes-none u (need (file_numbered u k).room 0)))

-- a file against which nothing stands has no block, and room for the run
pub has-run-room : (s : Store) (f : File) (n : ℕ) → first_of (contiguous_causes s f n) ≡ None
    → HasRoom s f n (run_pointers n) × (length f.blocks ≤ 0)
has-run-room s f n none =
    let first = none_rest (nat_lt 0 (length_of f)) NotEmpty _ none in
    let second = none_rest (nat_lt 256 (length f.held + run_need f.room n)) TooManySegments _ first in
    let third = none_rest (nat_lt s.free n) DeviceFull _ second in (
      record {
        segments = not-more 256 (length f.held + run_need f.room n) (none_first _ TooManySegments _ first);
        blocks = not-more s.free n (none_first _ DeviceFull _ second);
        headers = not-more (free_headers s) (run_need f.room n) (none_first _ NoHeader _ third);
      },
      not-more 0 (length_of f) (none_first _ NotEmpty _ none),
    )
