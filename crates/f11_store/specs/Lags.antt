-- What work that was cut short may leave: the store before it with some first parts of the work done (profile).
use Rattle.std.specs.Prelude.{◌≡◌, ℕ, zero, suc, ◌+◌, ◌≤◌, ◌⊎◌, ◌==◌, ◌||◌, nat_le, Bool, true, false, List, [], ◌∷◌, ◌++◌, take}
use Rattle.std.specs.Prelude.{Option, Some, None, IfSome, fold, unwrap_or, if◌then◌else◌, replicate}
use Rattle.std.specs.List.{range_with_len}
use Rattle.f11_store.specs.declared.callers.Uic.{Uic}
use Rattle.f11_store.specs.declared.files.FileId.{FileId}
use Rattle.f11_store.specs.declared.refusals.Refusal.{Refusal}
use Rattle.f11_store.specs.declared.requests.Request.{Request}
use Rattle.f11_store.specs.declared.requests.Request.TheVariants as request
use Rattle.f11_store.specs.File.{File, with_contiguous, without_contiguous, need, run_need, zero_blocks}
use Rattle.f11_store.specs.Store.{Store, Access, file_held, file_named, id_held, index_file, least_free, free_headers, is_accessed}
use Rattle.f11_store.specs.Directory.{index_of_empty, entry_count, needs_block, record_bytes, empty_record, index_of_name}
use Rattle.f11_store.specs.Causes.{first_refusal}
use Rattle.f11_store.specs.Changes.{is_in, next_sequence, with_file, with_change, file_created, with_access, is_due}
use Rattle.f11_store.specs.Changes.{after_deaccess, with_slots_first}
use Rattle.f11_store.specs.Headroom.{slots_first}
use Rattle.f11_store.specs.Changes.{with_delete_mark, with_first_blocks, with_block, with_entry, with_end_after, with_replacement}

-- a part of the work: a change of the files that is made at once
pub data Part : Type 0 where
  -- the file with this number, if there is one, is changed
  file_changes : ℕ → (File → File) → Part
  -- a file appears under this number
  file_appears : ℕ → File → Part
  -- the file with this number goes
  file_goes : ℕ → Part
  -- the index file has one slot more
  slot_appears : Part

-- the store with a part done: of a store's values only the files and the number of slots are meant
abbrev pub with_part : Store → Part → Store
with_part t (file_changes k change) = with_change t k change
with_part t (file_appears k f) = with_file t k (Some f)
with_part t (file_goes k) = with_file t k None
with_part t slot_appears = record t { slots = t.slots + 1 }

-- the store with the parts done
abbrev pub with_parts : Store → List Part → Store
with_parts s parts = fold with_part s parts

-- work on the files: its parts in order, the numbers of the files that it means, whose headers it may change,
-- and the blocks and headers that it may take
pub record Work : Type 0 where
  pub parts : List Part
  pub is_meant : ℕ → Bool
  pub blocks : ℕ
  pub headers : ℕ

-- nothing
abbrev pub no_work : Work
no_work = record { parts = []; is_meant = λ n. false; blocks = 0; headers = 0 }

-- one part on file k, which takes nothing
abbrev pub one_part : ℕ → Part → Work
one_part k part = record { parts = part ∷ []; is_meant = λ n. n == k; blocks = 0; headers = 0 }

-- one work, then another
abbrev pub and_then : Work → Work → Work
and_then w v = record {
  parts = w.parts ++ v.parts;
  is_meant = λ n. w.is_meant n || v.is_meant n;
  blocks = w.blocks + v.blocks;
  headers = w.headers + v.headers;
}

-- a new file appears in a slot, which is its header
abbrev pub create_work : ℕ → File → Work
create_work slot f = record { parts = file_appears slot f ∷ []; is_meant = λ n. n == slot; blocks = 0; headers = 1 }

-- the contiguous mark is cleared
abbrev pub with_no_mark : File → File
with_no_mark f = record f { characteristics = without_contiguous f.characteristics }

-- the contiguous mark is set
abbrev pub with_contiguous_mark : File → File
with_contiguous_mark f = record f { characteristics = with_contiguous f.characteristics }

-- one more block of zeros
abbrev pub with_zero_block : File → File
with_zero_block f = record f { blocks = f.blocks ++ zero_blocks 1 }

-- file k grows: the contiguous mark, then n blocks in pieces, however n is cut: block by block allows each cut
unfoldable pub extend_parts : ℕ → ℕ → List Part
extend_parts k n = file_changes k with_no_mark ∷ replicate n (file_changes k with_zero_block)

-- n blocks more for file k, whose last header has so much room
abbrev pub extend_work : ℕ → ℕ → ℕ → Work
extend_work k room n = record { parts = extend_parts k n; is_meant = λ m. m == k; blocks = n; headers = need room n }

-- n blocks of zeros more for file k in pieces, however n is cut, and so many headers at most
abbrev pub blocks_work : ℕ → ℕ → ℕ → Work
blocks_work k n headers =
    record { parts = replicate n (file_changes k with_zero_block); is_meant = λ m. m == k; blocks = n; headers = headers }

-- n blocks in one run for file k, whose last header has so much room: they come in pieces, and then the contiguous mark
abbrev pub contiguous_work : ℕ → ℕ → ℕ → Work
contiguous_work k room n = and_then (blocks_work k n (run_need room n)) (one_part k (file_changes k with_contiguous_mark))

-- the index file grows: the contiguous mark, then n slots in pieces
unfoldable pub grow_parts : ℕ → List Part
grow_parts n = file_changes 1 with_no_mark ∷ replicate n slot_appears

-- n slots more for the index file, whose last header has so much room
abbrev pub grow_work : ℕ → ℕ → Work
grow_work room n = record { parts = grow_parts n; is_meant = λ m. m == 1; blocks = n; headers = need room n }

-- first the index file has n slots more, where n isn't 0, and then the work is done
abbrev pub after_slots : ℕ → Store → Work → Work
after_slots zero s work = work
after_slots (suc n) s work = and_then (grow_work (index_file s).room (suc n)) work

-- work that takes so many headers: first the index file gets slots for those that aren't free
abbrev pub with_headers_first : Store → ℕ → Work → Work
with_headers_first s headers work = after_slots (slots_first s headers) s work

-- file k is marked for delete, or goes
abbrev pub mark_work : ℕ → Work
mark_work k = one_part k (file_changes k with_delete_mark)

abbrev pub go_work : ℕ → Work
go_work k = one_part k (file_goes k)

-- record i, past the end of directory k, then the end
abbrev pub end_work : ℕ → ℕ → List ℕ → Work
end_work k i r = record {
  parts = file_changes k (with_entry i r) ∷ file_changes k (with_end_after i) ∷ [];
  is_meant = λ n. n == k;
  blocks = 0;
  headers = 0;
}

-- n blocks more for a file, and the slots that come first
abbrev pub lengthen_work : Store → FileId → ℕ → Work
lengthen_work s f n = with_headers_first s (need (file_named s f).room n) (extend_work f.number (file_named s f).room n)

-- a record at a directory's end: first one more block, where it is needed
abbrev pub append_work : Bool → Store → FileId → ℕ → List ℕ → Work
append_work true s d i r = and_then (lengthen_work s d 1) (end_work d.number i r)
append_work false s d i r = end_work d.number i r

-- a record in an empty place at once, or at the end
abbrev pub enter_work : Option ℕ → Store → FileId → List ℕ → Work
enter_work (Some i) s d r = one_part d.number (file_changes d.number (with_entry i r))
enter_work None s d r = append_work (needs_block (file_named s d)) s d (entry_count (file_named s d)) r

-- a new file appears in the least free slot
abbrev pub new_file_work : Store → Uic → ℕ → List ℕ → List ℕ → Work
new_file_work s owner protection ident attr =
    create_work (least_free s) (file_created s (least_free s) owner protection ident attr)

-- and the slot that comes first
abbrev pub make_work : Store → Uic → ℕ → List ℕ → List ℕ → Work
make_work s owner protection ident attr =
    with_headers_first s 1 (new_file_work (with_slots_first s 1) owner protection ident attr)

-- what is held is given up: a marked file whose last access this was goes
abbrev pub give_up_work : Store → ℕ → ℕ → Option Access → Work
give_up_work s task lun None = no_work
give_up_work s task lun (Some a) = if is_due (with_access s task lun None) a.file then go_work a.file.number else no_work

-- Deaccess
abbrev pub deaccess_work : Store → ℕ → ℕ → Work
deaccess_work s task lun = give_up_work s task lun (s.access task lun)

-- Release: Deaccess of each lun, each after those before it
abbrev pub release_work : Store → ℕ → List ℕ → Work
release_work s task [] = no_work
release_work s task (lun ∷ luns) = and_then (deaccess_work s task lun) (release_work (after_deaccess s task lun) task luns)

-- the work of a request that is served
abbrev pub served_work : Store → ℕ → Uic → Request → List ℕ → Work
served_work s task caller (request.Create protection ident attr) block = make_work s caller protection ident attr
served_work s task caller (request.Extend lun n) block = lengthen_work s (id_held s task lun) n
served_work s task caller (request.Contiguous lun n) block =
    contiguous_work (id_held s task lun).number (file_held s task lun).room n
served_work s task caller (request.Truncate lun to) block =
    one_part (id_held s task lun).number (file_changes (id_held s task lun).number (with_first_blocks to))
served_work s task caller (request.Delete id) block = if is_accessed s id then mark_work id.number else go_work id.number
served_work s task caller (request.GrowIndex n) block = grow_work (index_file s).room n
served_work s task caller (request.Access id m lun) block = no_work
served_work s task caller (request.Deaccess lun) block = deaccess_work s task lun
served_work s task caller request.Release block = release_work s task (range_with_len 0 4)
served_work s task caller (request.ReadBlock lun vbn) block = no_work
served_work s task caller (request.WriteBlock lun vbn) block =
    one_part (id_held s task lun).number (file_changes (id_held s task lun).number (with_block vbn block))
served_work s task caller (request.Find d name) block = no_work
served_work s task caller (request.Enter d name id) block =
    enter_work (index_of_empty (file_named s d)) s d (record_bytes id name)
served_work s task caller (request.Remove d name) block =
    one_part d.number (file_changes d.number (with_entry (unwrap_or (index_of_name name (file_named s d)) 0) empty_record))
served_work s task caller (request.ReadAttr id) block = no_work
served_work s task caller (request.WriteAttr id c) block = one_part id.number (file_changes id.number (with_replacement c))
served_work s task caller request.Space block = no_work

-- a request that is refused does nothing
abbrev pub work_if : Option Refusal → Work → Work
work_if None work = work
work_if (Some refusal) work = no_work

-- the work of a request
abbrev pub work_of : Store → ℕ → Uic → Request → List ℕ → Work
work_of s task caller r block = work_if (first_refusal s task caller r) (served_work s task caller r block)

-- two files are alike but for their headers, pointers and room
pub record IsLike (f g : File) : Type 0 where
  pub sequence : f.sequence ≡ g.sequence
  pub owner : f.owner ≡ g.owner
  pub protection : f.protection ≡ g.protection
  pub characteristics : f.characteristics ≡ g.characteristics
  pub ident : f.ident ≡ g.ident
  pub attr : f.attr ≡ g.attr
  pub blocks : f.blocks ≡ g.blocks

-- both are files and alike, or neither is one
abbrev pub AreLike : Option File → Option File → Type 0
AreLike None None = Unit {0}
AreLike (Some f) (Some g) = IsLike f g
AreLike None (Some g) = ⊥
AreLike (Some f) None = ⊥

-- no file has its header in the slot
abbrev pub IsHeldByNone : Store → ℕ → Type 0
IsHeldByNone t n = (k : ℕ) → IfSome (t.file k) (λ f. is_in f.held n ≡ false)

-- the sequence number that a slot was last given, 0 for one that is still to be added
abbrev pub last_of : Store → ℕ → ℕ
last_of s n = if nat_le n s.slots then s.last n else 0

-- what never changes
pub record SameLimits (s t : Store) : Type 0 where
  pub bitmap_blocks : t.bitmap_blocks ≡ s.bitmap_blocks
  pub index_bitmap_blocks : t.index_bitmap_blocks ≡ s.index_bitmap_blocks
  pub limit : t.limit ≡ s.limit

-- t lags s by the work: it has the files of s with the first parts of the work done, and not much less free
pub record LagsBy (work : Work) (t s : Store) : Type 0 where
  -- how many of the parts are done
  pub done : ℕ
  pub files : (n : ℕ) → AreLike (t.file n) ((with_parts s (take done work.parts)).file n)
  pub slots : t.slots ≡ (with_parts s (take done work.parts)).slots
  pub others : (n : ℕ) → work.is_meant n ≡ false → t.file n ≡ s.file n
  pub free_blocks : s.free ≤ t.free + work.blocks
  pub headers : free_headers s ≤ free_headers t + work.headers
  -- a slot that no file holds may have got its next sequence number, but only where the work takes headers
  pub last : (n : ℕ) → n ≤ t.slots → IsHeldByNone t n → (t.last n ≡ last_of s n) ⊎ (t.last n ≡ next_sequence (last_of s n))
  pub no_header : work.headers ≡ 0 → (n : ℕ) → n ≤ t.slots → t.last n ≡ last_of s n
  pub limits : SameLimits s t

-- t lags s by the request
abbrev pub Lags : Store → Store → ℕ → Uic → Request → List ℕ → Type 0
Lags t s task caller r block = LagsBy (work_of s task caller r block) t s
