-- Laws of files that are created, deleted, cut and extended.
use Rattle.std.proofs.Common.{◌≡◌, ℕ, ◌+◌, ◌-◌, ◌<◌, ◌≤◌, ◌==◌, Bool, true, false, List, [], Some, length, take, get_or, refl, sym}
use Rattle.std.proofs.Common.{◌∙◌, subst, arith, if◌then◌else◌, IsSomeAnd, ◌∷◌, zero, suc, ◌++◌, not, filter, slice_index, ap}
use Rattle.std.proofs.lemmas.Bool.Decides.{nat_tests}
use Rattle.std.proofs.lemmas.Bool.{ltb-false}
use Rattle.std.proofs.lemmas.List.{get_or-replicate, get_or-append_right, length-take}
use Rattle.f11_store.specs.declared.callers.Uic.{Uic}
use Rattle.f11_store.specs.declared.files.FileId.{FileId}
use Rattle.f11_store.specs.declared.requests.Reply.{Reply}
use Rattle.f11_store.specs.declared.requests.Reply.TheVariants as reply
use Rattle.f11_store.specs.declared.requests.Request.TheVariants as request
use Rattle.f11_store.specs.File.{File, need, length_of, with_mark, zero_block, zero_blocks}
use Rattle.std.specs.List.{range_with_len}
use Rattle.f11_store.specs.Store.{Store, file_named, id_held, file_held, is_accessed, free_slots, free_headers, least_free}
use Rattle.f11_store.specs.Changes.{Truncates, Grows, next_sequence, with_marked_file, without_file_at, with_cut_file}
use Rattle.f11_store.specs.Step.{Serves, next_id, block_at}
use Rattle.f11_store.specs.Changes.{GetsSlots, Lengthens, with_slots_first, with_slots_added}
use Rattle.f11_store.specs.Headroom.{slots_first}
use Rattle.f11_store.specs.Lags.{last_of}
use Rattle.f11_store.specs.SlotsFirst.{IsReady}
use Rattle.f11_store.proofs.LagLaws.{last_there}
use Rattle.f11_store.proofs.SlotsFirst.{free-stays, gained-is-ready, gained-blocks, last-stays}
use Rattle.f11_store.specs.Laws.{NewSlotWasFree, NewFileIsNext, AccessedKeepsBlocks, CutComesBackZero}
use Rattle.f11_store.proofs.StoreLemmas.{none_first, none_rest, same_number, kept-with_change, length-file_named}

-- the identification that was created
created_id : (id next : FileId) → reply.Created id ≡ reply.Created next → id ≡ next
created_id id next h = cc

-- the first number that passes is one that does
first_passes :
    (p : ℕ → Bool) (a m : ℕ) → (length (filter p (range_with_len a m)) == 0) ≡ false →
    (a ≤ get_or (filter p (range_with_len a m)) 0 0) × (get_or (filter p (range_with_len a m)) 0 0 < a + m)
    × (p (get_or (filter p (range_with_len a m)) 0 0) ≡ true)
first_passes p a zero h = absurd (cc)
first_passes p a (suc m) h = by_test (p a) refl (first_passes p (a + 1) m) h
  where
    rest : List ℕ
    rest = filter p (range_with_len (a + 1) m)

    by_test : (b : Bool) → p a ≡ b →
        ((length rest == 0) ≡ false → (a + 1 ≤ get_or rest 0 0) × (get_or rest 0 0 < a + 1 + m) × (p (get_or rest 0 0) ≡ true)) →
        (length (if b then a ∷ rest else rest) == 0) ≡ false →
        (a ≤ get_or (if b then a ∷ rest else rest) 0 0) × (get_or (if b then a ∷ rest else rest) 0 0 < a + suc m)
        × (p (get_or (if b then a ∷ rest else rest) 0 0) ≡ true)
    by_test true e later some = (omega arith, omega arith, e)
    by_test false e later some = let l = later some in (omega (arith, l.0), omega (arith, l.1), l.2)

-- a slot that is free
pub record IsFreeSlot (s : Store) (n : ℕ) : Type 0 where
  pub low : 6 ≤ n
  pub high : n ≤ s.slots
  pub unused : s.in_use n ≡ false

pub least_free_is_free : (s : Store) → 1 ≤ free_headers s → IsFreeSlot s (least_free s)
unfolding free_slots
least_free_is_free s h =
    let l = first_passes (λ n. not (s.in_use n)) 6 (s.slots - 5) (grind (arith, nat_tests, h)) in
    record { low = l.0; high = omega (arith, l.0, l.1); unused = not_in_use (s.in_use (least_free s)) l.2 }
  where
    not_in_use : (b : Bool) → not b ≡ true → b ≡ false
    not_in_use false e = refl
    not_in_use true e = absurd (cc)

-- the identification that Create answers is that of the store in which the file is made
pub made_id : (s t : Store) (n : ℕ) → IsReady s n t → next_id (with_slots_added n s) ≡ next_id t
made_id s t n ready = sym (λ i.
    let slot : ℕ = slice_index (free-stays s t n ready i) 0 in
    record { number = slot; sequence = next_sequence (ready.last i slot); volume = 0 })

pub new_slot_was_free : NewSlotWasFree
new_slot_was_free s task caller word ident attr block id s' block' h =
    let made = h.changes in
    let ready : IsReady s (slots_first s 1) made.ready = gained-is-ready s made.ready 1 made.gains in
    let free : IsFreeSlot made.ready (least_free made.ready) = least_free_is_free made.ready made.enough in
    subst (λ (i : FileId). (6 ≤ i.number) × (i.number ≤ s'.slots) × (s.in_use i.number ≡ false))
    (sym (created_id id (next_id (with_slots_first s 1)) h.reply_is ∙ made_id s made.ready _ ready)) (
      free.low,
      omega (arith, free.high, ap (λ (x : Store). x.slots) made.makes),
      sym (ap (λ (used : ℕ → Bool). used (least_free made.ready)) ready.in_use) ∙ free.unused,
    )

pub new_file_is_next : NewFileIsNext
new_file_is_next s task caller word ident attr block id s' block' h =
    let made = h.changes in
    let ready : IsReady s (slots_first s 1) made.ready = gained-is-ready s made.ready 1 made.gains in
    let free : IsFreeSlot made.ready (least_free made.ready) = least_free_is_free made.ready made.enough in
    subst (λ (i : FileId). (i.sequence ≡ next_sequence (last_of s i.number)) × (s'.last i.number ≡ i.sequence))
    (sym (created_id id (next_id (with_slots_first s 1)) h.reply_is ∙ made_id s made.ready _ ready)) (
      ap next_sequence (sym (last_there made.ready (least_free made.ready) free.high) ∙ last-stays s made.ready (slots_first s 1)
          (least_free made.ready) ready),
      subst (λ (x : Store). x.last (next_id made.ready).number ≡ (next_id made.ready).sequence) (sym made.makes)
          (rw (same_number (next_id made.ready).number) refl),
    )

pub accessed_keeps_blocks : AccessedKeepsBlocks
accessed_keeps_blocks s task caller id block a s' block' h accessed =
    subst (λ (x : Store). ((file_named x id).blocks ≡ (file_named s id).blocks) × (x.access ≡ s.access)) (sym is_marked)
    (kept-with_change s id (λ f. record f { characteristics = with_mark f.characteristics }) (λ f. refl) (λ f. f.blocks) (λ f. refl), refl)
  where
    by_test : (b : Bool) → b ≡ true
        → (if b then with_marked_file s id.number else without_file_at s id.number) ≡ with_marked_file s id.number
    by_test true e = refl
    by_test false e = absurd (cc)

    is_marked : s' ≡ with_marked_file s id.number
    is_marked = h.changes ∙ by_test (is_accessed s id) accessed

-- a block among n zeros past the first ones
zero_past : (bs : List (List ℕ)) (to n vbn : ℕ) → to ≤ length bs → to < vbn → vbn ≤ to + n →
    get_or (take to bs ++ zero_blocks n) (vbn - 1) [] ≡ zero_block
unfolding zero_blocks
zero_past bs to n vbn long above below =
    get_or-append_right (take to bs) (zero_blocks n) to (vbn - 1) [] (length-taken) (omega arith)
    ∙ get_or-replicate n (vbn - 1 - to) zero_block [] (omega arith)
  where
    length-taken : length (take to bs) ≡ to
    length-taken = simp length-take (omega arith)

-- a served Truncate is within the file
can_cut :
    (s : Store) (task : ℕ) (caller : Uic) (lun to : ℕ) (block : List ℕ) (a : Reply) (s' : Store) (block' : List ℕ) →
    Serves s task caller (request.Truncate lun to) block a s' block' → to ≤ length_of (file_held s task lun)
can_cut s task caller lun to block a s' block' h =
    ltb-false (length_of (file_held s task lun)) to (none_first _ _ _ (none_rest _ _ _ h.no_cause))

-- a file that was cut and then extended
cut_then_grown :
    (s t s'' : Store) (k to n vbn more : ℕ) (f : File) (headers pointers room : ℕ) →
    GetsSlots more (with_cut_file s k f to headers pointers room) t → Grows t k n (zero_blocks n) s'' →
    to ≤ length f.blocks → to < vbn → vbn ≤ to + n → IsSomeAnd (s''.file k) (λ g. block_at g vbn ≡ zero_block)
cut_then_grown s t s'' k to n vbn more f headers pointers room gains grows long above below =
    subst (λ (x : Store). IsSomeAnd (x.file k) (λ g. block_at g vbn ≡ zero_block)) (sym grows.store_is)
    (rw (same_number k) (subst (λ (bs : List (List ℕ)). get_or (bs ++ zero_blocks n) (vbn - 1) [] ≡ zero_block) before
    (zero_past f.blocks to n vbn long above below)))
  where
    cut : File
    cut = record f { held = take headers f.held; pointers = pointers; room = room; blocks = take to f.blocks }

    there : (with_cut_file s k f to headers pointers room).file k ≡ Some cut
    there = rw (same_number k) refl

    before : take to f.blocks ≡ grows.before.blocks
    before = sym (gained-blocks (with_cut_file s k f to headers pointers room) t more k cut grows.before gains there grows.was)

pub cut_comes_back_zero : CutComesBackZero
cut_comes_back_zero s task caller lun to n block a b s' s'' block' block'' vbn h k above below =
    cut_then_grown s grown.ready s'' (id_held s task lun).number to n vbn (slots_first s' (need (file_held s' task lun).room n))
    cut.before cut.headers cut.pointers cut.room
    (subst (λ (x : Store). GetsSlots (slots_first s' (need (file_held s' task lun).room n)) x grown.ready) cut.store_is grown.gains)
    (subst (λ (i : ℕ). Grows grown.ready i n (zero_blocks n) s'') (ap (λ (x : Store). (id_held x task lun).number) cut.store_is)
    grown.makes)
    long above below
  where
    cut : Truncates s (id_held s task lun).number to s'
    cut = h.changes

    grown : Lengthens s' (id_held s' task lun) n s''
    grown = k.changes

    long : to ≤ length cut.before.blocks
    long =
        omega (arith, can_cut s task caller lun to block a s' block' h, length-file_named s (id_held s task lun) cut.before cut.was)
