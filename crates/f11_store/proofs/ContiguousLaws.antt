-- A file of the plain store that is laid out in one run.
use Rattle.std.proofs.Common.{◌≡◌, ◌≢◌, ℕ, ◌+◌, ◌-◌, ◌*◌, ◌<◌, ◌≤◌, ◌==◌, ◌||◌, ◌⊎◌, inl, inr, Bool, true, false, List, [], ◌∷◌, ◌++◌}
use Rattle.std.proofs.Common.{Option, Some, length, take, max, unwrap_or, option_map, refl, sym, ◌∙◌, ap, subst, arith, if◌then◌else◌}
use Rattle.std.specs.Int.{bit_at}
use Rattle.std.proofs.lemmas.Bool.Decides.{eqb_tells}
use Rattle.std.proofs.lemmas.List.{get_or-replicate, length-replicate}
use Rattle.std.proofs.lemmas.List.Sums.{fold-append}
use Rattle.std.proofs.lemmas.Nat.Bits.{bit_at-lt, bit_at_or}
use Rattle.f11_store.specs.Changes.{is_in, next_sequence, with_change, laid_file, with_laid_file, MayGrow}
use Rattle.f11_store.specs.Contiguous.{BlocksComeLags, IsLaidOut, LaidOutHas, LaidOutLags, MarkComesLags, MarkedIsLaidOut}
use Rattle.f11_store.specs.File.{File, no_file, need, run_need, run_pointers, has_contiguous_mark, with_contiguous, zero_block, zero_blocks}
use Rattle.f11_store.specs.Lags.{blocks_work, contiguous_work, file_changes, one_part, with_contiguous_mark, with_part, with_parts, AreLike}
use Rattle.f11_store.specs.Lags.{LagsBy, Work}
use Rattle.f11_store.specs.Moments.{Did, Respects}
use Rattle.f11_store.specs.Pieces.{file_numbered, longer_file, with_longer_file, AddsBlocks}
use Rattle.f11_store.specs.Step.{block_at}
use Rattle.f11_store.specs.Store.{Store, file_named, free_slots}
use Rattle.f11_store.proofs.Frees.{same_limits}
use Rattle.f11_store.proofs.Growth.{alike, blocks_and_slots, blocks_elsewhere, blocks_one_by_one, headers_taken, last_or_next}
use Rattle.f11_store.proofs.Growth.{room-file_named, stays_unused, StoresAlike}
use Rattle.f11_store.proofs.LagLaws.{did_lags, did_taking, need_no_less, taken_at_most, Takes}
use Rattle.f11_store.proofs.PieceLagLemmas.{longer_alike, piece-takes, takes-none, zero_parts}
use Rattle.f11_store.proofs.ProgressLaws.{lags_after, more_work_lags}
use Rattle.f11_store.proofs.StoreLemmas.{same_number, same-store}

first-of : (a b : Bool) → (a || b) ≡ false → a ≡ false
first-of true b is = absurd (cc)
first-of false b is = refl

pub blocks-come-lags : BlocksComeLags
blocks-come-lags s t k room n lags =
    more_work_lags t s (blocks_work k n (run_need room n)) (contiguous_work k room n) (file_changes k with_contiguous_mark ∷ []) refl
    (λ m out. first-of (m == k) (m == k) out) (omega arith) (omega arith)
    lags

-- the mark set in files that are alike
mark-respects : Respects with_contiguous_mark
mark-respects f g l = record {
  sequence = l.sequence;
  owner = l.owner;
  protection = l.protection;
  characteristics = ap with_contiguous l.characteristics;
  ident = l.ident;
  attr = l.attr;
  blocks = l.blocks;
}

-- a file that has its blocks did that work
adds-did : (s u : Store) (k n most : ℕ) → AddsBlocks s k n most (zero_blocks n) u
    → Did (blocks_work k n (need (file_numbered s k).room most)) u s
adds-did s u k n most e =
    let same : e.before ≡ file_numbered s k = sym (ap (λ (o : Option File). unwrap_or o no_file) e.was) in
    subst (λ (f : File). Did (blocks_work k n (need f.room most)) u s) same
    (subst (λ (x : Store). Did (blocks_work k n (need e.before.room most)) x s) (sym e.store_is)
    (did_taking (blocks_work k n (need e.before.room most)) s g
    (longer_alike s k n e.before e.added e.pointers e.room e.was)
    (sym (blocks_and_slots n s k))
    (piece-takes s k n most n most 0 0 e.before e.added e.pointers e.room e.may_grow (omega arith) (omega arith) g
    (takes-none g (need e.room 0)))))
  where
    g : Store
    g = with_longer_file s k e.before n (zero_blocks n) e.added e.pointers e.room

pub mark-comes-lags : MarkComesLags
mark-comes-lags s u t k n one lags =
    lags_after (blocks_work k n (run_need (file_numbered s k).room n)) (one_part k (file_changes k with_contiguous_mark)) t u s
    (adds-did s u k n (run_pointers n) one) refl (mark-respects, tt) lags

-- as few pointers as can be, and as many headers as those need
exact : (f : File) (n added pointers room : ℕ) → f.pointers ≡ 0 → n ≤ 256 * pointers → MayGrow f (run_pointers n) added pointers room
    → (pointers ≡ run_pointers n) × (added ≡ run_need f.room n) × (room ≡ f.room + 102 * run_need f.room n - run_pointers n)
exact f n added pointers room none enough may =
    let all : pointers ≡ run_pointers n = omega (arith, none, enough, may.no_more) in
    let headers : added ≡ run_need f.room n = omega (arith, all, none, may.headers, may.places) in
    (all, headers, omega (arith, all, headers, none, may.places))

pub marked-is-laid-out : MarkedIsLaidOut
marked-is-laid-out s u k n empty none e enough = record {
  before = f;
  was = was;
  empty = empty;
  store_is = ap (λ (x : Store). with_change x k with_contiguous_mark) e.store_is ∙ marked;
}
  where
    f : File
    f = file_numbered s k

    same : e.before ≡ f
    same = sym (ap (λ (o : Option File). unwrap_or o no_file) e.was)

    was : s.file k ≡ Some f
    was = e.was ∙ ap Some same

    may : MayGrow f (run_pointers n) e.added e.pointers e.room
    may = subst (λ (g : File). MayGrow g (run_pointers n) e.added e.pointers e.room) same e.may_grow

    longer : File
    longer = longer_file s e.before (zero_blocks n) e.added e.pointers e.room

    there : u.file k ≡ Some longer
    there = ap (λ (x : Store). x.file k) e.store_is ∙ ap (λ (b : Bool). if b then Some longer else s.file k) (same_number k)

    are : (e.pointers ≡ run_pointers n) × (e.added ≡ run_need f.room n) × (e.room ≡ f.room + 102 * run_need f.room n - run_pointers n)
    are = exact f n e.added e.pointers e.room none
        (let more : (file_numbered u k).pointers ≡ e.pointers = ap (λ (o : Option File). (unwrap_or o no_file).pointers) there in
        omega (arith, enough, more)) may

    laid : with_contiguous_mark longer ≡ laid_file s f n
    laid = λ i. record (same i) {
      characteristics = with_contiguous (same i).characteristics;
      held = (same i).held ++ take (are.1 i) (free_slots s);
      pointers = are.0 i;
      room = are.2 i;
      blocks = (ap (λ (g : File). g.blocks ++ zero_blocks n) same ∙ ap (λ (bs : List (List ℕ)). bs ++ zero_blocks n) empty) i;
    }

    marked : with_change (with_longer_file s k e.before n (zero_blocks n) e.added e.pointers e.room) k with_contiguous_mark ≡ with_laid_file
        s k f n
    marked =
        same-store (with_change g k with_contiguous_mark) (with_laid_file s k f n)
        (λ m. two_writes (m == k) (s.file m)) refl refl
        (λ m. ap (λ (i : ℕ). is_in (take i (free_slots s)) m || s.in_use m) are.1)
        (λ m. ap (λ (i : ℕ). if is_in (take i (free_slots s)) m then next_sequence (s.last m) else s.last m) are.1)
        refl refl refl refl
      where
        g : Store
        g = with_longer_file s k e.before n (zero_blocks n) e.added e.pointers e.room

        two_writes : (here : Bool) (o : Option File) →
            (if here then option_map with_contiguous_mark (g.file k) else if here then Some longer else o)
            ≡ (if here then Some (laid_file s f n) else o)
        two_writes true o =
            ap (option_map with_contiguous_mark) (ap (λ (b : Bool). if b then Some longer else s.file k) (same_number k)) ∙ ap Some laid
        two_writes false o = refl

-- its parts make such a file
laid-alike : (s : Store) (k n : ℕ) (f : File) → s.file k ≡ Some f → f.blocks ≡ [] →
    StoresAlike (with_laid_file s k f n) (with_parts s (zero_parts k n ++ file_changes k with_contiguous_mark ∷ []))
laid-alike s k n f was empty m =
    subst (λ (x : Store). AreLike ((with_laid_file s k f n).file m) (x.file m))
    (sym (fold-append with_part s (zero_parts k n) (file_changes k with_contiguous_mark ∷ [])))
    (by_number (eqb_tells m k))
  where
    come : Store
    come = with_parts s (zero_parts k n)

    here : come.file k ≡ Some (record f { blocks = f.blocks ++ zero_blocks n })
    here = blocks_one_by_one n s k f was

    marked : AreLike (Some (laid_file s f n)) (Some (with_contiguous_mark (record f { blocks = f.blocks ++ zero_blocks n })))
    marked =
        record {
          sequence = refl;
          owner = refl;
          protection = refl;
          characteristics = refl;
          ident = refl;
          attr = refl;
          blocks = ap (λ (bs : List (List ℕ)). bs ++ zero_blocks n) (sym empty);
        }

    by_number : ((m == k) ≡ true) × (m ≡ k) ⊎ ((m == k) ≡ false) × (m ≢ k)
        → AreLike ((with_laid_file s k f n).file m) ((with_change come k with_contiguous_mark).file m)
    by_number (inl w) =
        rw w.0 (subst (λ (o : Option File). AreLike (Some (laid_file s f n)) (option_map with_contiguous_mark o)) (sym here) marked)
    by_number (inr w) = rw w.0 (subst (AreLike (s.file m)) (sym (blocks_elsewhere n s k m w.0)) (alike (s.file m)))

laid-takes : (s : Store) (k n : ℕ) (f : File) (less : ℕ) → less ≤ f.room →
    Takes s (λ m. (m == k) || (m == k)) (n + 0) (run_need less n + 0) (with_laid_file s k f n)
laid-takes s k n f less h = record {
  others = λ m out. ap (λ (b : Bool). if b then Some (laid_file s f n) else s.file m) (first-of (m == k) (m == k) out);
  free = omega arith;
  slots_free = omega (
    arith,
    need_no_less less f.room (run_pointers n) h,
    taken_at_most (run_need f.room n) (free_slots s),
    headers_taken s (with_laid_file s k f n) (take (run_need f.room n) (free_slots s))
        (λ m out unused. stays_unused (is_in (take (run_need f.room n) (free_slots s)) m) (s.in_use m) out unused) (omega arith),
  );
  last = λ m. last_or_next (is_in (take (run_need f.room n) (free_slots s)) m) (s.last m);
  no_header = λ e m.
      ap (λ (i : ℕ). if is_in (take i (free_slots s)) m then next_sequence (s.last m) else s.last m) {x = run_need f.room n} {y = 0}
      (omega (arith, need_no_less less f.room (run_pointers n) h, e));
  slots = refl;
  same = same_limits refl refl refl;
}

pub laid-out-lags : LaidOutLags
laid-out-lags s t f n laid =
    subst (λ (x : Store). LagsBy work x s) (sym laid.store_is)
    (did_lags work after s (did_taking work s after
    (laid-alike s f.number n laid.before laid.was laid.empty)
    (sym (ap (λ (x : Store). x.slots) (fold-append with_part s (zero_parts f.number n) (file_changes f.number with_contiguous_mark ∷ []))
    ∙ blocks_and_slots n s f.number))
    (laid-takes s f.number n laid.before (file_named s f).room (room-file_named s f laid.before laid.was))))
  where
    work : Work
    work = contiguous_work f.number (file_named s f).room n

    after : Store
    after = with_laid_file s f.number laid.before n

-- the mark that is set is set
mark-set : (c : ℕ) → (bit_at (with_contiguous c) 7 == 1) ≡ true
mark-set c = ap (λ (b : ℕ). b == 1) (bit_at_or c 128 7 ∙ one (bit_at c 7) (bit_at-lt c 7))
  where
    one : (b : ℕ) → b < 2 → max b 1 ≡ 1
    one b h = omega (arith, h)

pub laid-out-has : LaidOutHas
unfolding zero_blocks
laid-out-has s t k n laid = subst (λ (x : Store). IsLaidOut s k n x) (sym laid.store_is) (record {
  long = ap (λ (f : File). length f.blocks) now ∙ length-replicate {A = List ℕ} n zero_block;
  zeros = λ vbn some within. ap (λ (f : File). block_at f vbn) now
      ∙ get_or-replicate n (vbn - 1) zero_block [] (omega (arith, some, within));
  marked = ap has_contiguous_mark now ∙ mark-set laid.before.characteristics;
  pointers = ap (λ (f : File). f.pointers) now;
  places = let room = ap (λ (f : File). f.room) now in let was = ap (λ (o : Option File). (unwrap_or o no_file).room) laid.was in
      omega (arith, room, was);
})
  where
    now : file_numbered (with_laid_file s k laid.before n) k ≡ laid_file s laid.before n
    now = ap (λ (b : Bool). unwrap_or (if b then Some (laid_file s laid.before n) else s.file k) no_file) (same_number k)
