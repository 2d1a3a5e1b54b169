-- What a request that is served changes in the store (profile). Whatever isn't named stays.
-- A section in parentheses is one of the Files-11 On-Disk Structure Level 1 specification; 'profile' is a rule of this project.
use Rattle.std.specs.Prelude.{
  ◌≡◌,
  ℕ,
  zero,
  suc,
  ◌+◌,
  ◌-◌,
  ◌*◌,
  ◌<◌,
  ◌≤◌,
  ◌==◌,
  ◌&&◌,
  ◌||◌,
  Bool,
  true,
  false,
  not,
  nat_lt,
  nat_le,
  List,
  [],
  ◌∷◌,
  ◌++◌,
}
use Rattle.std.specs.Prelude.{length, take, drop, Option, Some, None, unwrap_or, option_map, if◌then◌else◌, slice_set, fold}
use Rattle.std.specs.List.{list_any, range_with_len}
use Rattle.f11_store.specs.declared.callers.Uic.{Uic}
use Rattle.f11_store.specs.declared.files.FileId.{FileId}
use Rattle.f11_store.specs.declared.files.Change.{Change}
use Rattle.f11_store.specs.declared.files.Change.TheVariants as change
use Rattle.f11_store.specs.declared.requests.Request.{Request}
use Rattle.f11_store.specs.declared.requests.Request.TheVariants as request
use Rattle.f11_store.specs.File.{File, no_file, length_of, is_marked, with_mark, without_contiguous, with_contiguous, need, zero_blocks}
use Rattle.f11_store.specs.File.{run_need, run_pointers}
use Rattle.f11_store.specs.Store.{Store, Access, file_named, id_held, free_slots, free_headers, least_free, is_accessed}
use Rattle.f11_store.specs.Headroom.{slots_first}
use Rattle.f11_store.specs.Directory.{
  index_of_name,
  index_of_empty,
  entry_count,
  needs_block,
  record_bytes,
  empty_record,
  with_record,
  with_end,
}

-- the slot is in the list
abbrev pub is_in : List ℕ → ℕ → Bool
is_in slots n = list_any (λ m. m == n) slots

-- the sequence number after this one: 1 after 65535 (profile)
abbrev pub next_sequence : ℕ → ℕ
next_sequence n = if n == 65535 then 1 else n + 1

-- the file with this number becomes f, or goes
abbrev pub with_file : Store → ℕ → Option File → Store
with_file s k f = record s { file = λ n. if n == k then f else s.file n }

-- the file with this number, if there is one, is changed
abbrev pub with_change : Store → ℕ → (File → File) → Store
with_change s k change = with_file s k (option_map change (s.file k))

-- the slots come into use, each with its next sequence number
abbrev pub with_slots : Store → List ℕ → Store
with_slots s slots = record s {
  in_use = λ n. is_in slots n || s.in_use n;
  last = λ n. if is_in slots n then next_sequence (s.last n) else s.last n;
}

-- the slots leave use
abbrev pub without_slots : Store → List ℕ → Store
without_slots s slots = record s { in_use = λ n. not (is_in slots n) && s.in_use n }

-- a new file in a slot, without blocks
abbrev pub new_file : ℕ → ℕ → Uic → ℕ → List ℕ → List ℕ → File
new_file slot sequence owner protection ident attr = record {
  sequence = sequence;
  owner = owner;
  protection = protection;
  characteristics = 0;
  ident = ident;
  attr = attr;
  held = slot ∷ [];
  pointers = 0;
  room = 102;
  blocks = [];
}

-- the file that Create makes in a slot, with the slot's next sequence number
abbrev pub file_created : Store → ℕ → Uic → ℕ → List ℕ → List ℕ → File
file_created s slot owner protection ident attr = new_file slot (next_sequence (s.last slot)) owner protection ident attr

-- the store with a new file in a slot
abbrev pub with_new_file : Store → ℕ → File → Store
with_new_file s slot f = with_file (with_slots s (slot ∷ [])) slot (Some f)

-- Create: in the least free slot
abbrev pub after_create : Store → Uic → ℕ → List ℕ → List ℕ → Store
after_create s caller protection ident attr =
    with_new_file s (least_free s) (file_created s (least_free s) caller protection ident attr)

-- the headers, pointers and room that a file may have after n more blocks; each header added has 102 places
pub record MayGrow (before : File) (n added pointers room : ℕ) : Type 0 where
  pub headers : added ≤ need before.room n
  pub no_fewer : before.pointers ≤ pointers
  pub no_more : pointers ≤ before.pointers + n
  pub places : pointers + room ≡ before.pointers + before.room + 102 * added
  pub filled : 0 < added → room ≤ 101

-- the file with n more blocks, and so many headers, pointers and places
abbrev pub grown_file : Store → File → List (List ℕ) → ℕ → ℕ → ℕ → File
grown_file s f blocks added pointers room = record f {
  characteristics = without_contiguous f.characteristics;
  held = f.held ++ take added (free_slots s);
  pointers = pointers;
  room = room;
  blocks = f.blocks ++ blocks;
}

-- the store with that file, the least free slots taken for its headers, n blocks fewer free
abbrev pub with_grown_file : Store → ℕ → File → ℕ → List (List ℕ) → ℕ → ℕ → ℕ → Store
with_grown_file s k f n blocks added pointers room =
    record (with_file (with_slots s (take added (free_slots s))) k (Some (grown_file s f blocks added pointers room))) {
      free = s.free - n;
    }

-- file k grows by n blocks, whose contents are these
pub record Grows (s : Store) (k n : ℕ) (blocks : List (List ℕ)) (s' : Store) : Type 0 where
  pub before : File
  pub added : ℕ
  pub pointers : ℕ
  pub room : ℕ
  pub was : s.file k ≡ Some before
  pub may_grow : MayGrow before n added pointers room
  pub store_is : s' ≡ with_grown_file s k before n blocks added pointers room

-- Extend: n blocks of zeros
abbrev pub Extends : Store → ℕ → ℕ → Store → Type 0
Extends s k n s' = Grows s k n (zero_blocks n) s'

-- n slots more, which were given no sequence number yet
abbrev pub with_more_slots : Store → ℕ → Store
with_more_slots s n = record s {
  slots = s.slots + n;
  last = λ m. if nat_lt s.slots m && nat_le m (s.slots + n) then 0 else s.last m;
}

-- GrowIndex: the index file grows by n blocks, whose contents no request reaches, and by n slots
pub record GrowsIndex (s : Store) (n : ℕ) (s' : Store) : Type 0 where
  pub grown : Store
  pub grows : Grows s 1 n [] grown
  pub store_is : s' ≡ with_more_slots grown n

-- the index file has n slots more, where n isn't 0; else nothing is done
abbrev pub GetsSlots : ℕ → Store → Store → Type 0
GetsSlots zero s t = t ≡ s
GetsSlots (suc n) s t = GrowsIndex s (suc n) t

-- What is made of a store once so many headers are free: where fewer are, the index file has grown first, by those that lack.
pub record AfterSlots (s : Store) (headers : ℕ) (Makes : Store → Type 0) : Type 0 where
  pub ready : Store
  pub gains : GetsSlots (slots_first s headers) s ready
  pub enough : headers ≤ free_headers ready
  pub makes : Makes ready

-- Create: a new file in the least free slot, once there is one
abbrev pub MakesFile : Store → Uic → ℕ → List ℕ → List ℕ → Store → Type 0
MakesFile s owner protection ident attr s' = AfterSlots s 1 (λ t. s' ≡ after_create t owner protection ident attr)

-- Extend: n blocks of zeros more for a file, once there are headers for them
abbrev pub Lengthens : Store → FileId → ℕ → Store → Type 0
Lengthens s f n s' = AfterSlots s (need (file_named s f).room n) (λ t. Extends t f.number n s')

-- a file with n blocks of zeros, in the pointers and the headers of one run, and with the contiguous mark
abbrev pub laid_file : Store → File → ℕ → File
laid_file s f n = record f {
  characteristics = with_contiguous f.characteristics;
  held = f.held ++ take (run_need f.room n) (free_slots s);
  pointers = run_pointers n;
  room = f.room + 102 * run_need f.room n - run_pointers n;
  blocks = zero_blocks n;
}

-- the store with that file, the least free slots taken for its headers, n blocks fewer free
abbrev pub with_laid_file : Store → ℕ → File → ℕ → Store
with_laid_file s k f n =
    record (with_file (with_slots s (take (run_need f.room n) (free_slots s))) k (Some (laid_file s f n))) { free = s.free - n }

-- Contiguous: file k, which has no block, gets n of zeros in one run
pub record LaysOut (s : Store) (k n : ℕ) (s' : Store) : Type 0 where
  pub before : File
  pub was : s.file k ≡ Some before
  pub empty : before.blocks ≡ []
  pub store_is : s' ≡ with_laid_file s k before n

-- as much of it as each such growth makes: the slots that are there then
abbrev pub with_slots_added : ℕ → Store → Store
with_slots_added zero s = s
with_slots_added (suc n) s = with_more_slots s (suc n)

abbrev pub with_slots_first : Store → ℕ → Store
with_slots_first s headers = with_slots_added (slots_first s headers) s

-- the file with its first blocks alone
abbrev pub with_first_blocks : ℕ → File → File
with_first_blocks to f = record f { blocks = take to f.blocks }

-- the store with a file cut: its first blocks and headers stay, the others are free
abbrev pub with_cut_file : Store → ℕ → File → ℕ → ℕ → ℕ → ℕ → Store
with_cut_file s k f to headers pointers room =
    record (with_file (without_slots s (drop headers f.held)) k (Some (record (with_first_blocks to f) {
      held = take headers f.held;
      pointers = pointers;
      room = room;
    }))) { free = s.free + (length_of f - to) }

-- Truncate: the first blocks stay, and of the headers at least the first
pub record Truncates (s : Store) (k to : ℕ) (s' : Store) : Type 0 where
  pub before : File
  pub headers : ℕ
  pub pointers : ℕ
  pub room : ℕ
  pub was : s.file k ≡ Some before
  pub some_header : 1 ≤ headers
  pub no_more_headers : headers ≤ length before.held
  pub no_more_pointers : pointers ≤ before.pointers
  pub store_is : s' ≡ with_cut_file s k before to headers pointers room

-- the file that goes: its slots and its blocks are free
abbrev pub without_file : Store → ℕ → File → Store
without_file s k f = record (with_file (without_slots s f.held) k None) { free = s.free + length_of f }

-- the file with this number goes
abbrev pub without_file_at : Store → ℕ → Store
without_file_at s k = without_file s k (unwrap_or (s.file k) no_file)

-- a file marked for delete
abbrev pub with_delete_mark : File → File
with_delete_mark f = record f { characteristics = with_mark f.characteristics }

-- the file with this number is marked for delete
abbrev pub with_marked_file : Store → ℕ → Store
with_marked_file s k = with_change s k with_delete_mark

-- Delete: gone, or marked where it is accessed
abbrev pub after_delete : Store → FileId → Store
after_delete s id = if is_accessed s id then with_marked_file s id.number else without_file_at s id.number

-- what the task holds by the lun becomes this
abbrev pub with_access : Store → ℕ → ℕ → Option Access → Store
with_access s task lun a =
    record s { access = λ t l. if (t == task) && (l == lun) then a else s.access t l }

-- the file is marked for delete, and nobody accesses it
abbrev pub is_due : Store → FileId → Bool
is_due s id = is_marked (file_named s id) && not (is_accessed s id)

-- the file goes if it is due
abbrev pub without_due_file : Store → FileId → Store
without_due_file s id = if is_due s id then without_file_at s id.number else s

-- what is held is given up, and with the last access a marked file goes
abbrev pub after_giving_up : Store → ℕ → ℕ → Option Access → Store
after_giving_up s task lun None = s
after_giving_up s task lun (Some a) = without_due_file (with_access s task lun None) a.file

-- Deaccess
abbrev pub after_deaccess : Store → ℕ → ℕ → Store
after_deaccess s task lun = after_giving_up s task lun (s.access task lun)

-- Release: Deaccess of each lun, from 0
abbrev pub after_release : Store → ℕ → Store
after_release s task = fold (λ t lun. after_deaccess t task lun) s (range_with_len 0 4)

-- WriteBlock: the block at the VBN is this one
abbrev pub with_block : ℕ → List ℕ → File → File
with_block vbn block f = record f { blocks = slice_set f.blocks (vbn - 1) block }

-- the directory with record i replaced
abbrev pub with_entry : ℕ → List ℕ → File → File
with_entry i r f = record f { blocks = with_record f.blocks i r }

-- the directory with its end moved past record i
abbrev pub with_end_after : ℕ → File → File
with_end_after i f = record f { attr = with_end f.attr (length_of f) (16 * (i + 1)) }

-- the record stands at the directory's end, which moves past it
abbrev pub with_entry_at_end : Store → ℕ → ℕ → List ℕ → Store
with_entry_at_end s k i r = with_change s k (λ f. with_end_after i (with_entry i r f))

-- Enter where no record is empty: at the end, with one more block where the allocation ends there
abbrev pub EntersAtEnd : Bool → Store → FileId → ℕ → List ℕ → Store → Type 0
EntersAtEnd false s d i r s' = s' ≡ with_entry_at_end s d.number i r
EntersAtEnd true s d i r s' = (grown : Store) × (Lengthens s d 1 grown) × (s' ≡ with_entry_at_end grown d.number i r)

-- Enter: in place of the first empty record, or at the end
abbrev pub EntersAt : Option ℕ → Store → FileId → List ℕ → Store → Type 0
EntersAt (Some i) s d r s' = s' ≡ with_change s d.number (with_entry i r)
EntersAt None s d r s' = EntersAtEnd (needs_block (file_named s d)) s d (entry_count (file_named s d)) r s'

-- Enter
abbrev pub Enters : Store → FileId → List ℕ → Store → Type 0
Enters s d r s' = EntersAt (index_of_empty (file_named s d)) s d r s'

-- Remove: the first record with the name is empty
abbrev pub after_remove : Store → FileId → List ℕ → Store
after_remove s d name =
    with_change s d.number (with_entry (unwrap_or (index_of_name name (file_named s d)) 0) empty_record)

-- WriteAttr: the part is replaced
abbrev pub with_replacement : Change → File → File
with_replacement (change.Attr attr) f = record f { attr = attr }
with_replacement (change.Ident ident) f = record f { ident = ident }
with_replacement (change.Protect word) f = record f { protection = word }

-- the store after a request that is served; ReadBlock, Find, ReadAttr and Space change nothing
abbrev pub Changes : Store → ℕ → Uic → Request → List ℕ → Store → Type 0
Changes s task caller (request.Create protection ident attr) block s' = MakesFile s caller protection ident attr s'
Changes s task caller (request.Extend lun n) block s' = Lengthens s (id_held s task lun) n s'
Changes s task caller (request.Contiguous lun n) block s' = LaysOut s (id_held s task lun).number n s'
Changes s task caller (request.Truncate lun to) block s' = Truncates s (id_held s task lun).number to s'
Changes s task caller (request.Delete id) block s' = s' ≡ after_delete s id
Changes s task caller (request.GrowIndex n) block s' = GrowsIndex s n s'
Changes s task caller (request.Access id m lun) block s' = s' ≡ with_access s task lun (Some (record { file = id; mode = m }))
Changes s task caller (request.Deaccess lun) block s' = s' ≡ after_deaccess s task lun
Changes s task caller request.Release block s' = s' ≡ after_release s task
Changes s task caller (request.ReadBlock lun vbn) block s' = s' ≡ s
Changes s task caller (request.WriteBlock lun vbn) block s' =
    s' ≡ with_change s (id_held s task lun).number (with_block vbn block)
Changes s task caller (request.Find d name) block s' = s' ≡ s
Changes s task caller (request.Enter d name id) block s' = Enters s d (record_bytes id name) s'
Changes s task caller (request.Remove d name) block s' = s' ≡ after_remove s d name
Changes s task caller (request.ReadAttr id) block s' = s' ≡ s
Changes s task caller (request.WriteAttr id c) block s' = s' ≡ with_change s id.number (with_replacement c)
Changes s task caller request.Space block s' = s' ≡ s
