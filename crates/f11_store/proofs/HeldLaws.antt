-- What holds of a store holds with any accesses beside.
use Rattle.std.proofs.Common.{◌≡◌, ℕ, zero, suc, List, [], ◌∷◌, Option, refl, sym, ◌∙◌, ap, subst, take, arith}
use Rattle.f11_store.specs.declared.callers.Uic.{Uic}
use Rattle.f11_store.specs.File.{File, need, zero_blocks}
use Rattle.f11_store.specs.declared.files.FileId.{FileId}
use Rattle.f11_store.specs.Store.{Store, Access, file_named, free_slots, free_headers}
use Rattle.f11_store.specs.Causes.{contiguous_causes, create_causes, extend_causes, growth_causes}
use Rattle.f11_store.specs.Headroom.{lacks_headers, slots_first}
use Rattle.f11_store.specs.Changes.{AfterSlots, Extends, GetsSlots, LaysOut, Lengthens, MakesFile, with_slots_first, with_slots_added}
use Rattle.f11_store.specs.Changes.{Grows, GrowsIndex, Truncates, after_create}
use Rattle.f11_store.specs.Lags.{after_slots, extend_work, lengthen_work, make_work, new_file_work, with_headers_first, Part, file_changes}
use Rattle.f11_store.specs.Lags.{file_appears, file_goes, slot_appears, with_part, with_parts, Work, LagsBy}
use Rattle.f11_store.specs.Accesses.{with_accesses}

module _ (a : ℕ → ℕ → Option Access) where
  part-held : (s : Store) (p : Part) → with_part (with_accesses a s) p ≡ with_accesses a (with_part s p)
  part-held s (file_changes k change) = refl
  part-held s (file_appears k f) = refl
  part-held s (file_goes k) = refl
  part-held s slot_appears = refl

  pub parts-held : (s : Store) (ps : List Part) → with_parts (with_accesses a s) ps ≡ with_accesses a (with_parts s ps)
  parts-held s [] = refl
  parts-held s (p ∷ ps) = ap (λ t. with_parts t ps) (part-held s p) ∙ parts-held (with_part s p) ps

  pub free-held : (s : Store) → free_headers (with_accesses a s) ≡ free_headers s
  unfolding free_slots
  free-held s = refl

  pub growth-held : (s : Store) (f : File) (n : ℕ) → growth_causes (with_accesses a s) f n ≡ growth_causes s f n
  unfolding free_slots
  growth-held s f n = refl

  pub grows-held : (s s' : Store) (k n : ℕ) (blocks : List (List ℕ)) → Grows s k n blocks s'
      → Grows (with_accesses a s) k n blocks (with_accesses a s')
  unfolding free_slots
  grows-held s s' k n blocks grows = record {
    before = grows.before;
    added = grows.added;
    pointers = grows.pointers;
    room = grows.room;
    was = grows.was;
    may_grow = grows.may_grow;
    store_is = ap (with_accesses a) grows.store_is;
  }

  -- a file that is laid out in one run
  pub contiguous-causes-held : (s : Store) (f : File) (n : ℕ) → contiguous_causes (with_accesses a s) f n ≡ contiguous_causes s f n
  unfolding free_slots
  contiguous-causes-held s f n = refl

  pub laid-out-held : (s s' : Store) (k n : ℕ) → LaysOut s k n s' → LaysOut (with_accesses a s) k n (with_accesses a s')
  unfolding free_slots
  laid-out-held s s' k n laid =
      record { before = laid.before; was = laid.was; empty = laid.empty; store_is = ap (with_accesses a) laid.store_is }

  pub cut-held : (s s' : Store) (k to : ℕ) → Truncates s k to s' → Truncates (with_accesses a s) k to (with_accesses a s')
  cut-held s s' k to cut = record {
    before = cut.before;
    headers = cut.headers;
    pointers = cut.pointers;
    room = cut.room;
    was = cut.was;
    some_header = cut.some_header;
    no_more_headers = cut.no_more_headers;
    no_more_pointers = cut.no_more_pointers;
    store_is = ap (with_accesses a) cut.store_is;
  }

  pub index-grows-held : (s s' : Store) (n : ℕ) → GrowsIndex s n s' → GrowsIndex (with_accesses a s) n (with_accesses a s')
  index-grows-held s s' n grew = record {
    grown = with_accesses a grew.grown;
    grows = grows-held s grew.grown 1 n [] grew.grows;
    store_is = ap (with_accesses a) grew.store_is;
  }

  pub created-held : (s : Store) (caller : Uic) (word : ℕ) (ident attr : List ℕ)
      → after_create (with_accesses a s) caller word ident attr ≡ with_accesses a (after_create s caller word ident attr)
  unfolding free_slots
  created-held s caller word ident attr = refl

  pub lags-held : (w : Work) (t s : Store) → LagsBy w t s → LagsBy w t (with_accesses a s)
  lags-held w t s lags = record {
    done = lags.done;
    files = λ n. rw (parts-held s (take lags.done w.parts)) (lags.files n);
    slots = rw (parts-held s (take lags.done w.parts)) lags.slots;
    others = lags.others;
    free_blocks = lags.free_blocks;
    headers = rw (free-held s) lags.headers;
    last = lags.last;
    no_header = lags.no_header;
    limits = record {
      bitmap_blocks = lags.limits.bitmap_blocks;
      index_bitmap_blocks = lags.limits.index_bitmap_blocks;
      limit = lags.limits.limit;
    };
  }

  -- the slots that come first
  pub slots-held : (s : Store) (headers : ℕ) → slots_first (with_accesses a s) headers ≡ slots_first s headers
  unfolding free_slots lacks_headers slots_first
  slots-held s headers = refl

  pub extend-causes-held : (s : Store) (f : File) (n : ℕ) → extend_causes (with_accesses a s) f n ≡ extend_causes s f n
  unfolding free_slots lacks_headers slots_first
  extend-causes-held s f n = refl

  pub create-causes-held : (s : Store) → create_causes (with_accesses a s) ≡ create_causes s
  unfolding free_slots lacks_headers slots_first
  create-causes-held s = refl

  gains-held : (s t : Store) (n : ℕ) → GetsSlots n s t → GetsSlots n (with_accesses a s) (with_accesses a t)
  gains-held s t zero e = ap (with_accesses a) e
  gains-held s t (suc n) e = index-grows-held s t (suc n) e

  after-slots-held :
      (s : Store) (headers : ℕ) (Makes Holds : Store → Type 0) → ((t : Store) → Makes t → Holds (with_accesses a t)) →
      AfterSlots s headers Makes → AfterSlots (with_accesses a s) headers Holds
  after-slots-held s headers Makes Holds holds h = record {
    ready = with_accesses a h.ready;
    gains = subst (λ (n : ℕ). GetsSlots n (with_accesses a s) (with_accesses a h.ready)) (sym (slots-held s headers))
        (gains-held s h.ready _ h.gains);
    enough = omega (arith, h.enough, free-held h.ready);
    makes = holds h.ready h.makes;
  }

  -- and the work after them
  work-after : (n : ℕ) (s : Store) (w : Work) → after_slots n (with_accesses a s) w ≡ after_slots n s w
  work-after zero s w = refl
  work-after (suc n) s w = refl

  first-work-held : (s : Store) (headers : ℕ) (w : Work) → with_headers_first (with_accesses a s) headers w ≡ with_headers_first s headers w
  first-work-held s headers w =
      ap (λ (n : ℕ). after_slots n (with_accesses a s) w) (slots-held s headers) ∙ work-after (slots_first s headers) s w

  new-file-after : (n : ℕ) (s : Store) (caller : Uic) (word : ℕ) (ident attr : List ℕ) →
      new_file_work (with_slots_added n (with_accesses a s)) caller word ident attr ≡ new_file_work (with_slots_added n s) caller word ident
      attr
  unfolding free_slots
  new-file-after zero s caller word ident attr = refl
  new-file-after (suc n) s caller word ident attr = refl

  pub make-work-held : (s : Store) (caller : Uic) (word : ℕ) (ident attr : List ℕ) →
      make_work (with_accesses a s) caller word ident attr ≡ make_work s caller word ident attr
  make-work-held s caller word ident attr =
      ap (λ (n : ℕ). with_headers_first (with_accesses a s) 1
      (new_file_work (with_slots_added n (with_accesses a s)) caller word ident attr)) (slots-held s 1)
      ∙ ap (with_headers_first (with_accesses a s) 1) (new-file-after (slots_first s 1) s caller word ident attr)
      ∙ first-work-held s 1 (new_file_work (with_slots_first s 1) caller word ident attr)

  pub makes-held : (s s' : Store) (caller : Uic) (word : ℕ) (ident attr : List ℕ) → MakesFile s caller word ident attr s' →
      MakesFile (with_accesses a s) caller word ident attr (with_accesses a s')
  makes-held s s' caller word ident attr =
      after-slots-held s 1 (λ t. s' ≡ after_create t caller word ident attr)
      (λ t. with_accesses a s' ≡ after_create t caller word ident attr)
      (λ t e. ap (with_accesses a) e ∙ sym (created-held t caller word ident attr))

  pub lengthens-held : (s s' : Store) (f : FileId) (n : ℕ) → Lengthens s f n s' → Lengthens (with_accesses a s) f n (with_accesses a s')
  lengthens-held s s' f n =
      after-slots-held s (need (file_named s f).room n) (λ t. Extends t f.number n s') (λ t. Extends t f.number n (with_accesses a s'))
      (λ t grows. grows-held t s' f.number n (zero_blocks n) grows)

  pub lengthen-work-held : (s : Store) (f : FileId) (n : ℕ) → lengthen_work (with_accesses a s) f n ≡ lengthen_work s f n
  lengthen-work-held s f n = first-work-held s (need (file_named s f).room n) (extend_work f.number (file_named s f).room n)
