-- Laws of what a request leaves behind.
use Rattle.std.proofs.Common.{◌≡◌, ℕ, ◌+◌, ◌-◌, ◌<◌, ◌≤◌, ◌==◌, ◌&&◌, Bool, true, false, not, List, [], ◌∷◌, ◌++◌, Option, Some, None}
use Rattle.std.proofs.Common.{length, take, if◌then◌else◌, refl, sym, ◌∙◌, ap, subst, arith, inl, ◌⊎◌, nat_lt, nat_le}
use Rattle.std.proofs.lemmas.List.{length-take, append-nil}
use Rattle.std.proofs.Math.Seq.{take-length}
use Rattle.std.proofs.lemmas.Bool.{le-ltb, le-leb}
use Rattle.std.proofs.lemmas.Bool.Decides.{nat_tests}
use Rattle.f11_store.specs.declared.callers.Uic.{Uic}
use Rattle.f11_store.specs.declared.files.FileId.{FileId}
use Rattle.f11_store.specs.declared.requests.Request.{Request}
use Rattle.f11_store.specs.File.{File, need, without_contiguous}
use Rattle.f11_store.specs.Store.{Store, index_file, least_free, free_slots, free_headers}
use Rattle.f11_store.specs.Causes.{first_refusal}
use Rattle.f11_store.specs.Changes.{Changes, is_in, next_sequence, file_created, after_create, with_first_blocks}
use Rattle.f11_store.specs.Changes.{with_cut_file, with_grown_file, MayGrow, GrowsIndex, with_more_slots, with_end_after}
use Rattle.f11_store.specs.Changes.{with_entry_at_end, with_change, with_entry}
use Rattle.f11_store.specs.Changes.{without_file_at}
use Rattle.f11_store.specs.Lags.{file_changes, with_parts, SameLimits, Work, one_part, create_work}
use Rattle.f11_store.specs.Lags.{grow_work, go_work, end_work}
use Rattle.f11_store.specs.Lags.{served_work, work_if, work_of, with_no_mark, grow_parts, AreLike, last_of}
use Rattle.f11_store.specs.Lags.{LagsBy}
use Rattle.f11_store.specs.Laws.{LagsItself}
use Rattle.f11_store.specs.Moments.{Did, DidLags}
use Rattle.f11_store.proofs.Frees.{Frees, same_limits, frees_change, frees_without_file}
use Rattle.f11_store.proofs.Growth.{alike, headers_taken, last_or_next, stays_unused, slots_one_by_one}
use Rattle.f11_store.proofs.Growth.{StoresAlike, entry_at_end_alike}
use Rattle.f11_store.proofs.SlotLemmas.{filter_no_less}

-- a slot that is there was last given what it was last given
pub last_there : (s : Store) (n : ℕ) → n ≤ s.slots → last_of s n ≡ s.last n
last_there s n h = rw (le-leb n s.slots h) refl

pub lags_itself : LagsItself
lags_itself work s = record {
  done = 0;
  files = λ n. alike (s.file n);
  slots = refl;
  others = λ n h. refl;
  free_blocks = omega arith;
  headers = omega arith;
  last = λ n h k. inl (sym (last_there s n h));
  no_header = λ e n h. sym (last_there s n h);
  limits = same_limits refl refl refl;
}

-- nothing changed
pub unchanged_lags : (work : Work) (s t : Store) → t ≡ s → LagsBy work t s
unchanged_lags work s t e = subst (λ (x : Store). LagsBy work x s) (sym e) (lags_itself work s)

-- more free headers where no other slot is in use
pub free_headers_grow :
    (s t : Store) → ((n : ℕ) → s.in_use n ≡ false → t.in_use n ≡ false) → t.slots ≡ s.slots → free_headers s ≤ free_headers t
unfolding free_slots
free_headers_grow s t h e = rw e (filter_no_less (λ n. not (s.in_use n)) (λ n. not (t.in_use n)) 6 (s.slots - 5)
    (λ n le free. not_in_use (t.in_use n) (h n (in_use_not (s.in_use n) free))))
  where
    not_in_use : (b : Bool) → b ≡ false → not b ≡ true
    not_in_use false k = refl
    not_in_use true k = absurd (cc)

    in_use_not : (b : Bool) → not b ≡ true → b ≡ false
    in_use_not false k = refl
    in_use_not true k = absurd (cc)

-- what takes nothing lags, where the files are those with the parts done
pub frees_lags :
    (work : Work) (s t : Store) → StoresAlike t (with_parts s work.parts) → t.slots ≡ (with_parts s work.parts).slots →
    Frees s work.is_meant t → LagsBy work t s
frees_lags work s t files slots frees = record {
  done = length work.parts;
  files = λ n. rw (take-length work.parts) (files n);
  slots = rw (take-length work.parts) slots;
  others = frees.others;
  free_blocks = omega (arith, frees.free);
  headers = omega (arith, free_headers_grow s t frees.unused frees.slots);
  last = λ n h k. inl (same n h);
  no_header = λ e n h. same n h;
  limits = frees.limits;
}
  where
    same : (n : ℕ) → n ≤ t.slots → t.last n ≡ last_of s n
    same n h = frees.last n ∙ sym (last_there s n (omega (arith, h, frees.slots)))

-- one part that takes nothing
pub change_lags : (s : Store) (k : ℕ) (change : File → File) → LagsBy (one_part k (file_changes k change)) (with_change s k change) s
change_lags s k change =
    frees_lags (one_part k (file_changes k change)) s (with_change s k change)
    (λ n. alike ((with_change s k change).file n)) refl (frees_change s k change)

-- the work of a request that is served
pub work_served :
    (s : Store) (task : ℕ) (caller : Uic) (r : Request) (block : List ℕ) → first_refusal s task caller r ≡ None →
    work_of s task caller r block ≡ served_work s task caller r block
work_served s task caller r block h = ap (λ o. work_if o (served_work s task caller r block)) h

-- less room needs no fewer headers
pub need_no_less : (less room n : ℕ) → less ≤ room → need room n ≤ need less n
need_no_less less room n h = omega arith

-- as many slots as are taken, or fewer
pub taken_at_most : (n : ℕ) (slots : List ℕ) → length (take n slots) ≤ n
taken_at_most n slots = rw length-take (omega arith)

-- what work that takes blocks and headers leaves
pub record Takes (s : Store) (meant : ℕ → Bool) (blocks headers : ℕ) (t : Store) : Type 0 where
  pub others : (n : ℕ) → meant n ≡ false → t.file n ≡ s.file n
  pub free : s.free ≤ t.free + blocks
  pub slots_free : free_headers s ≤ free_headers t + headers
  pub last : (n : ℕ) → (t.last n ≡ s.last n) ⊎ (t.last n ≡ next_sequence (s.last n))
  pub no_header : headers ≡ 0 → (n : ℕ) → t.last n ≡ s.last n
  pub slots : t.slots ≡ s.slots
  pub same : SameLimits s t

-- all of the work done is a lag
pub did_lags : DidLags
did_lags work u s did = record {
  done = length work.parts;
  files = λ n. rw (take-length work.parts) (did.files n);
  slots = rw (take-length work.parts) did.slots;
  others = did.others;
  free_blocks = did.free_blocks;
  headers = did.headers;
  last = λ n h k. did.last n h;
  no_header = did.no_header;
  limits = did.limits;
}

-- the work of one that takes what it may, and keeps the slots
pub did_taking :
    (work : Work) (s t : Store) → StoresAlike t (with_parts s work.parts) → t.slots ≡ (with_parts s work.parts).slots →
    Takes s work.is_meant work.blocks work.headers t → Did work t s
did_taking work s t files slots takes = record {
  files = files;
  slots = slots;
  no_fewer = omega (arith, takes.slots);
  others = takes.others;
  free_blocks = takes.free;
  headers = takes.slots_free;
  last = λ n h. subst (λ (q : ℕ). (t.last n ≡ q) ⊎ (t.last n ≡ next_sequence q)) (sym (there n h)) (takes.last n);
  no_header = λ e n h. takes.no_header e n ∙ sym (there n h);
  limits = takes.same;
}
  where
    there : (n : ℕ) → n ≤ t.slots → last_of s n ≡ s.last n
    there n h = last_there s n (omega (arith, h, takes.slots))

-- nothing is done yet, but what the work may take was taken
pub taken_lags :
    (work : Work) (s t : Store) → ((n : ℕ) → t.file n ≡ s.file n) → Takes s work.is_meant work.blocks work.headers t → LagsBy work t s
taken_lags work s t files takes = record {
  done = 0;
  files = λ n. subst (λ (o : Option File). AreLike o (s.file n)) (sym (files n)) (alike (s.file n));
  slots = takes.slots;
  others = takes.others;
  free_blocks = takes.free;
  headers = takes.slots_free;
  last = λ n h k. subst (λ (q : ℕ). (t.last n ≡ q) ⊎ (t.last n ≡ next_sequence q)) (sym (last_there s n (omega (arith, h, takes.slots))))
      (takes.last n);
  no_header = λ e n h. takes.no_header e n ∙ sym (last_there s n (omega (arith, h, takes.slots)));
  limits = takes.same;
}

-- a new file
pub created_lags :
    (s : Store) (caller : Uic) (word : ℕ) (ident attr : List ℕ) →
    LagsBy (create_work (least_free s) (file_created s (least_free s) caller word ident attr)) (after_create s caller word ident attr) s
created_lags s caller word ident attr =
    did_lags work after s (did_taking work s after (λ n. alike (after.file n)) refl (record {
      others = λ n out. rw out refl;
      free = omega arith;
      slots_free = headers_taken s after (least_free s ∷ [])
          (λ n out unused. stays_unused (is_in (least_free s ∷ []) n) (s.in_use n) out unused) (omega arith);
      last = λ n. last_or_next (is_in (least_free s ∷ []) n) (s.last n);
      no_header = λ e. absurd (cc);
      slots = refl;
      same = same_limits refl refl refl;
    }))
  where
    work : Work
    work = create_work (least_free s) (file_created s (least_free s) caller word ident attr)

    after : Store
    after = after_create s caller word ident attr

-- a file that is cut
pub cut_lags :
    (s : Store) (k to : ℕ) (f : File) (headers pointers room : ℕ) → s.file k ≡ Some f →
    LagsBy (one_part k (file_changes k (with_first_blocks to))) (with_cut_file s k f to headers pointers room) s
cut_lags s k to f headers pointers room was =
    frees_lags (one_part k (file_changes k (with_first_blocks to))) s (with_cut_file s k f to headers pointers room)
    (λ n. rw was (by_test (n == k) (s.file n))) refl (record {
      others = λ n out. rw out refl;
      free = omega arith;
      unused = λ n unused. out_of_use _ (s.in_use n) unused;
      last = λ n. refl;
      slots = refl;
      limits = same_limits refl refl refl;
    })
  where
    by_test : (b : Bool) (o : Option File) →
        AreLike (if b then Some (record (with_first_blocks to f) { held = take headers f.held; pointers = pointers; room = room }) else o)
        (if b then Some (with_first_blocks to f) else o)
    by_test true o =
        record { sequence = refl; owner = refl; protection = refl; characteristics = refl; ident = refl; attr = refl; blocks = refl }
    by_test false o = alike o

    out_of_use : (b c : Bool) → c ≡ false → (b && c) ≡ false
    out_of_use true c h = h
    out_of_use false c h = refl

-- a file that goes
pub gone_lags : (s : Store) (k : ℕ) → LagsBy (go_work k) (without_file_at s k) s
gone_lags s k =
    frees_lags (go_work k) s (without_file_at s k) (λ n. alike ((without_file_at s k).file n)) refl (frees_without_file s k)

-- no header is added where none is needed
pub none_added : (less room n added : ℕ) → less ≤ room → added ≤ need room n → need less n ≡ 0 → added ≡ 0
none_added less room n added h k e = omega (arith, need_no_less less room n h, h, k, e)

pub grown_takes :
    (s : Store) (k n : ℕ) (f : File) (blocks : List (List ℕ)) (added pointers room less : ℕ) →
    MayGrow f n added pointers room → less ≤ f.room →
    Takes s (λ m. m == k) n (need less n) (with_grown_file s k f n blocks added pointers room)
grown_takes s k n f blocks added pointers room less may h = record {
  others = λ m out. rw out refl;
  free = omega arith;
  slots_free = omega (
    arith,
    may.headers,
    need_no_less less f.room n h,
    taken_at_most added (free_slots s),
    headers_taken s (with_grown_file s k f n blocks added pointers room) (take added (free_slots s))
        (λ m out unused. stays_unused (is_in (take added (free_slots s)) m) (s.in_use m) out unused) (omega arith),
  );
  last = λ m. last_or_next (is_in (take added (free_slots s)) m) (s.last m);
  no_header = λ e m. rw (none_added less f.room n added h may.headers e) refl;
  slots = refl;
  same = same_limits refl refl refl;
}

-- the record at a directory's end
pub entered_behind :
    (s t : Store) (d : FileId) (i : ℕ) (r : List ℕ) → t ≡ with_entry_at_end s d.number i r → LagsBy (end_work d.number i r) t s
entered_behind s t d i r h =
    subst (λ (x : Store). LagsBy (end_work d.number i r) x s) (sym h)
    (frees_lags (end_work d.number i r) s (with_entry_at_end s d.number i r)
    (entry_at_end_alike s s d.number i r (λ m. alike (s.file m))) refl (frees_change s d.number (λ f. with_end_after i (with_entry i r f))))

-- slots that are added have no sequence number yet, and the others keep theirs
old_slot : (slots n m x : ℕ) → m ≤ slots → (if nat_lt slots m && nat_le m (slots + n) then 0 else x) ≡ x
old_slot slots n m x h = rw (le-ltb slots m h) refl

added_slot : (slots n m x : ℕ) → slots < m → m ≤ slots + n → (if nat_lt slots m && nat_le m (slots + n) then 0 else x) ≡ 0
added_slot slots n m x above below = grind (arith, nat_tests)

-- so what holds of a slot that was there, and of 0, holds of a slot after slots were added
pub last_after_growth :
    (P : ℕ → ℕ → Type 0) (slots n m x y : ℕ) → m ≤ slots + n → P x y → P 0 0 →
    P (if nat_lt slots m && nat_le m (slots + n) then 0 else x) (if nat_le m slots then y else 0)
last_after_growth P slots n m x y within there added = by_test (nat_le m slots) refl
  where
    by_test : (b : Bool) → nat_le m slots ≡ b → P (if nat_lt slots m && nat_le m (slots + n) then 0 else x) (if b then y else 0)
    by_test true e =
        let low : m ≤ slots = grind (arith, nat_tests) in
        subst (λ (z : ℕ). P z y) (sym (old_slot slots n m x low)) there
    by_test false e =
        let high : slots < m = grind (arith, nat_tests) in
        subst (λ (z : ℕ). P z 0) (sym (added_slot slots n m x high within)) added

-- the parts of GrowIndex
pub parts_of_growth : (s : Store) (n : ℕ) → with_parts s (grow_parts n) ≡ record (with_change s 1 with_no_mark) { slots = s.slots + n }
unfolding grow_parts
parts_of_growth s n = slots_one_by_one n (with_change s 1 with_no_mark)

-- the index file that grew
pub grown_lags : (s t : Store) (n : ℕ) → GrowsIndex s n t → LagsBy (grow_work (index_file s).room n) t s
grown_lags s t n grew =
    subst (λ (x : Store). LagsBy work x s) (sym (grew.store_is ∙ ap (λ u. with_more_slots u n) grew.grows.store_is)) (record {
      done = length work.parts;
      files = λ m. subst (λ (x : Store). AreLike ((with_more_slots after n).file m) (x.file m)) (sym parts)
          (rw grew.grows.was (by_test (m == 1) (s.file m)));
      slots = sym (ap (λ x. x.slots) parts);
      others = takes.others;
      free_blocks = takes.free;
      headers = omega (
        arith,
        grew.grows.may_grow.headers,
        less_room,
        need_no_less (index_file s).room grew.grows.before.room n less_room,
        taken_at_most grew.grows.added (free_slots s),
        headers_taken s (with_more_slots after n) (take grew.grows.added (free_slots s))
            (λ m out unused. stays_unused (is_in (take grew.grows.added (free_slots s)) m) (s.in_use m) out unused) (omega arith),
      );
      last = λ m h l. last_after_growth (λ x y. (x ≡ y) ⊎ (x ≡ next_sequence y)) s.slots n m (after.last m) (s.last m) h (takes.last m)
          (inl refl);
      no_header = λ e m h. last_after_growth (λ x y. x ≡ y) s.slots n m (after.last m) (s.last m) h (takes.no_header e m) refl;
      limits = same_limits refl refl refl;
    })
  where
    work : Work
    work = grow_work (index_file s).room n

    after : Store
    after = with_grown_file s 1 grew.grows.before n [] grew.grows.added grew.grows.pointers grew.grows.room

    less_room : (index_file s).room ≤ grew.grows.before.room
    less_room = rw grew.grows.was (omega arith)

    takes : Takes s (λ m. m == 1) n (need (index_file s).room n) after
    takes = grown_takes s 1 n grew.grows.before [] grew.grows.added grew.grows.pointers grew.grows.room (index_file s).room
        grew.grows.may_grow less_room

    parts : with_parts s (take (length work.parts) work.parts) ≡ record (with_change s 1 with_no_mark) { slots = s.slots + n }
    parts = ap (with_parts s) (take-length work.parts) ∙ parts_of_growth s n

    by_test : (b : Bool) (o : Option File) →
        AreLike (if b then Some (record grew.grows.before {
          characteristics = without_contiguous grew.grows.before.characteristics;
          held = grew.grows.before.held ++ take grew.grows.added (free_slots s);
          pointers = grew.grows.pointers;
          room = grew.grows.room;
          blocks = grew.grows.before.blocks ++ [];
        }) else o)
        (if b then Some (with_no_mark grew.grows.before) else o)
    by_test true o =
        record {
          sequence = refl;
          owner = refl;
          protection = refl;
          characteristics = refl;
          ident = refl;
          attr = refl;
          blocks = append-nil grew.grows.before.blocks;
        }
    by_test false o = alike o
