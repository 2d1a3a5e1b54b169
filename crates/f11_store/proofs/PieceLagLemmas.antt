-- What stands while a file of the plain store grows piece by piece lags the store before.
use Rattle.std.proofs.Common.{◌≡◌, ◌≢◌, ℕ, suc, ◌+◌, ◌-◌, ◌≤◌, ◌==◌, ◌||◌, ◌⊎◌, inl, inr, Bool, true, false, List, ◌∷◌, ◌++◌, Option, Some}
use Rattle.std.proofs.Common.{length, take, replicate, unwrap_or, option_map, refl, sym, ◌∙◌, ap, subst, arith, if◌then◌else◌}
use Rattle.std.proofs.lemmas.Bool.Decides.{eqb_tells}
use Rattle.std.proofs.lemmas.List.{take-replicate}
use Rattle.f11_store.proofs.Frees.{same_limits, same_limits_then}
use Rattle.f11_store.proofs.Growth.{alike, blocks_and_slots, blocks_elsewhere, blocks_one_by_one, StoresAlike}
use Rattle.f11_store.proofs.LagLaws.{last_there, Takes}
use Rattle.f11_store.proofs.StoreLemmas.{same_number}
use Rattle.f11_store.specs.Changes.{is_in, next_sequence, with_change, MayGrow}
use Rattle.f11_store.specs.File.{File, need, no_file, zero_blocks}
use Rattle.f11_store.specs.Lags.{blocks_work, extend_parts, extend_work, file_changes, last_of, with_no_mark, with_parts, with_zero_block}
use Rattle.f11_store.specs.Lags.{AreLike, LagsBy, Part, Work}
use Rattle.f11_store.specs.Store.{Store, free_headers, free_slots}
use Rattle.f11_store.specs.Pieces.{file_numbered, longer_file, with_longer_file, AddsBlocks, TakesSome}
use Rattle.f11_store.proofs.PieceLemmas.{free-cleared, headers-longer, needs-add}

-- the parts by which n blocks come
abbrev pub zero_parts : ℕ → ℕ → List Part
zero_parts k n = replicate n (file_changes k with_zero_block)

-- a file that has n blocks more is like one that got them one by one
pub longer_alike :
    (s : Store) (k n : ℕ) (f : File) (added pointers room : ℕ) → s.file k ≡ Some f →
    StoresAlike (with_longer_file s k f n (zero_blocks n) added pointers room) (with_parts s (zero_parts k n))
longer_alike s k n f added pointers room was m = by_number (eqb_tells m k)
  where
    here : (with_parts s (zero_parts k n)).file k ≡ Some (record f { blocks = f.blocks ++ zero_blocks n })
    here = blocks_one_by_one n s k f was

    at_k : AreLike ((with_longer_file s k f n (zero_blocks n) added pointers room).file k) ((with_parts s (zero_parts k n)).file k)
    at_k =
        rw (same_number k) (subst (λ (o : Option File). AreLike (Some (longer_file s f (zero_blocks n) added pointers room)) o) (sym here)
        (record { sequence = refl; owner = refl; protection = refl; characteristics = refl; ident = refl; attr = refl; blocks = refl }))

    by_number : ((m == k) ≡ true) × (m ≡ k) ⊎ ((m == k) ≡ false) × (m ≢ k) →
        AreLike ((with_longer_file s k f n (zero_blocks n) added pointers room).file m) ((with_parts s (zero_parts k n)).file m)
    by_number (inl w) =
        subst (λ (i : ℕ). AreLike ((with_longer_file s k f n (zero_blocks n) added pointers room).file i)
        ((with_parts s (zero_parts k n)).file i)) (sym w.1) at_k
    by_number (inr w) =
        subst (λ (o : Option File). AreLike ((with_longer_file s k f n (zero_blocks n) added pointers room).file m) o)
        (sym (blocks_elsewhere n s k m w.0))
        (rw w.0 (alike (s.file m)))

-- the parts by which some of the blocks come are the first ones
first-parts : (k n a : ℕ) → a ≤ n → take a (zero_parts k n) ≡ zero_parts k a
first-parts k n a few = take-replicate a n (file_changes k with_zero_block) few

-- a store with those parts done, which takes no more than the work may
piece-lags :
    (s t : Store) (k n headers a : ℕ) → a ≤ n → StoresAlike t (with_parts s (zero_parts k a)) → Takes s (λ m. m == k) n headers t →
    LagsBy (blocks_work k n headers) t s
piece-lags s t k n headers a few files takes = record {
  done = a;
  files = λ m. subst (λ (ps : List Part). AreLike (t.file m) ((with_parts s ps).file m)) (sym (first-parts k n a few)) (files m);
  slots = takes.slots ∙ sym (ap (λ (ps : List Part). (with_parts s ps).slots) (first-parts k n a few) ∙ blocks_and_slots a s k);
  others = takes.others;
  free_blocks = takes.free;
  headers = takes.slots_free;
  last = λ m h held. subst (λ (q : ℕ). (t.last m ≡ q) ⊎ (t.last m ≡ next_sequence q)) (sym (there m h)) (takes.last m);
  no_header = λ e m h. takes.no_header e m ∙ sym (there m h);
  limits = takes.same;
}
  where
    there : (m : ℕ) → m ≤ t.slots → last_of s m ≡ s.last m
    there m h = last_there s m (omega (arith, h, takes.slots))

-- a slot that was given its next sequence number is in use, and isn't given another
pub once : (x c : Bool) (l v : ℕ)
    → (v ≡ (if x then next_sequence l else l)) ⊎ (((x || c) ≡ false) × (v ≡ next_sequence (if x then next_sequence l else l)))
    → (v ≡ l) ⊎ (v ≡ next_sequence l)
once true c l v (inl e) = inr e
once true c l v (inr (free, e)) = absurd (cc)
once false c l v (inl e) = inl e
once false c l v (inr (free, e)) = inr e

-- a file got longer, and then some was taken for more
module _ (s : Store) (k n most a p b q : ℕ) (f : File) (added pointers room : ℕ) (may : MayGrow f p added pointers room) (few : a + b ≤ n)
    (fewer : p + q ≤ most) where
  abbrev grown : Store
  grown = with_longer_file s k f a (zero_blocks a) added pointers room

  pub piece-takes : (u : Store) → TakesSome b (need room q) grown u → Takes s (λ m. m == k) n (need f.room most) u
  piece-takes u takes =
      let need_less : added + need room q ≤ need f.room most = needs-add f most p q added pointers room may fewer in
      let left : free_headers grown ≡ free_headers s - added = headers-longer s k a f (zero_blocks a) added pointers room in
      record {
        others = λ m out. takes.files m
            ∙ ap (λ (here : Bool). if here then Some (longer_file s f (zero_blocks a) added pointers room) else s.file m) out;
        free = omega (arith, takes.free, few);
        slots_free = omega (arith, takes.slots_free, need_less, left);
        last = λ m. once (is_in (take added (free_slots s)) m) (s.in_use m) (s.last m) (u.last m) (takes.last m);
        no_header = λ e m.
            takes.no_header (omega (arith, need_less, e)) m
            ∙ ap (λ (i : ℕ). if is_in (take i (free_slots s)) m then next_sequence (s.last m) else s.last m) {x = added} {y = 0}
            (omega (arith, need_less, e));
        slots = takes.slots;
        same = same_limits_then s grown u (same_limits refl refl refl) takes.limits;
      }

  grown-lags : (u : Store) → s.file k ≡ Some f → TakesSome b (need room q) grown u → LagsBy (blocks_work k n (need f.room most)) u s
  grown-lags u was takes =
      piece-lags s u k n (need f.room most) a (omega (arith, few))
      (λ m. subst (λ (o : Option File). AreLike o ((with_parts s (zero_parts k a)).file m)) (sym (takes.files m))
      (longer_alike s k a f added pointers room was m))
      (piece-takes u takes)

pub taken-lags :
    (s t u : Store) (k n most a p b q : ℕ) → AddsBlocks s k a p (zero_blocks a) t → a + b ≤ n → p + q ≤ most →
    TakesSome b (need (file_numbered t k).room q) t u → LagsBy (blocks_work k n (need (file_numbered s k).room most)) u s
taken-lags s t u k n most a p b q e few fewer takes =
    let same : e.before ≡ file_numbered s k = sym (ap (λ (o : Option File). unwrap_or o no_file) e.was) in
    let now : TakesSome b (need (file_numbered g k).room q) g u = subst (λ (x : Store). TakesSome b (need (file_numbered x k).room q) x u)
    e.store_is takes in
    let there : (file_numbered g k).room ≡ e.room =
    ap (λ (here : Bool). (unwrap_or (if here then Some (longer_file s e.before (zero_blocks a) e.added e.pointers e.room) else s.file k)
    no_file).room) (same_number k) in
    subst (λ (f : File). LagsBy (blocks_work k n (need f.room most)) u s) same
    (grown-lags s k n most a p b q e.before e.added e.pointers e.room e.may_grow few fewer u e.was
    (subst (λ (r : ℕ). TakesSome b (need r q) g u) there now))
  where
    g : Store
    g = with_longer_file s k e.before a (zero_blocks a) e.added e.pointers e.room

-- nothing was taken
pub takes-none : (s : Store) (h : ℕ) → TakesSome 0 h s s
takes-none s h = record {
  files = λ n. refl;
  free = omega arith;
  unused = λ n e. e;
  slots_free = omega arith;
  last = λ n. inl refl;
  no_header = λ e n. refl;
  slots = refl;
  limits = same_limits refl refl refl;
}

-- work on file k, and the same behind the clearing of its mark
abbrev pub part_work : ℕ → List Part → ℕ → ℕ → Work
part_work k parts blocks headers = record { parts = parts; is_meant = λ m. m == k; blocks = blocks; headers = headers }

pub cleared-work :
    (s t : Store) (k : ℕ) (parts : List Part) (blocks headers : ℕ)
    → LagsBy (part_work k parts blocks headers) t (with_change s k with_no_mark) →
    LagsBy (part_work k (file_changes k with_no_mark ∷ parts) blocks headers) t s
cleared-work s t k parts blocks headers lags =
    let left : free_headers (with_change s k with_no_mark) ≡ free_headers s = ap length (free-cleared s k) in
    record {
      done = suc lags.done;
      files = lags.files;
      slots = lags.slots;
      others = λ m out. lags.others m out ∙ ap (λ (here : Bool). if here then option_map with_no_mark (s.file k) else s.file m) out;
      free_blocks = lags.free_blocks;
      headers = omega (arith, lags.headers, left);
      last = lags.last;
      no_header = lags.no_header;
      limits = same_limits lags.limits.bitmap_blocks lags.limits.index_bitmap_blocks lags.limits.limit;
    }

pub cleared-lags : (s t : Store) (k room n : ℕ) → LagsBy (blocks_work k n (need room n)) t (with_change s k with_no_mark)
    → LagsBy (extend_work k room n) t s
unfolding extend_parts
cleared-lags s t k room n lags = cleared-work s t k (zero_parts k n) n (need room n) lags
