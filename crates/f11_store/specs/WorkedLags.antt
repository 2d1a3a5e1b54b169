-- Worked examples of what no request may leave behind, on a small volume.
use Rattle.std.specs.Prelude.{◌≡◌, ℕ, ◌==◌, ◌&&◌, ◌||◌, nat_lt, Bool, true, false, [], ◌∷◌, Option, Some, None, option_map, if◌then◌else◌}
use Rattle.f11_store.specs.declared.files.Mode.TheVariants as mode
use Rattle.f11_store.specs.declared.requests.Request.{Request}
use Rattle.f11_store.specs.declared.requests.Request.TheVariants as request
use Rattle.f11_store.specs.File.{File}
use Rattle.f11_store.specs.Store.{Store}
use Rattle.f11_store.specs.Changes.{Changes, new_file, with_delete_mark, with_end_after, with_entry}
use Rattle.f11_store.specs.Directory.{record_bytes}
use Rattle.f11_store.specs.Lags.{Lags, Work, file_changes, file_goes, with_zero_block, work_of}
use Rattle.f11_store.specs.Worked.{first_user, id, a_txt, corimg, indexf, ident_of, no_attr, empty_attr, full_attr}
use Rattle.f11_store.specs.Worked.{own_file, own_files, small_volume, crowded_volume, create}

-- a file A.TXT;1 with protection 0 and no blocks
abbrev pub a_file : File
a_file = new_file 6 1 first_user 0 (ident_of a_txt) no_attr

-- the files with this one under this number
abbrev pub files_with : ℕ → Option File → (ℕ → Option File) → ℕ → Option File
files_with k f files = λ n. if n == k then f else files n

-- file 5 with a pointer more
abbrev pub other_changed : Option File
other_changed = Some (own_file 5 corimg empty_attr 1 [])

-- the store with another file changed: file 5 has a pointer more
abbrev pub with_other_changed : Store → Store
with_other_changed s = record s { file = files_with 5 other_changed s.file }

-- the small volume with A.TXT;1, whose header is slot 6
abbrev pub volume_with_a : Store
volume_with_a = record small_volume {
  file = files_with 6 (Some a_file) own_files;
  in_use = λ n. nat_lt 0 n && nat_lt n 7;
  last = λ n. if n == 6 then 1 else small_volume.last n;
}

-- there is A.TXT;1, and slot 7 is taken besides
abbrev pub two_headers_taken : Store
two_headers_taken = record volume_with_a { in_use = λ n. nat_lt 0 n && nat_lt n 8 }

-- the same with A.TXT;1 accessed by task 0 to write
abbrev pub writing_a : Store
writing_a = record volume_with_a {
  access = λ task lun. if (task == 0) && (lun == 0) then Some (record { file = id 6 1; mode = mode.Write }) else None;
}

-- the small volume with a contiguous index file
abbrev pub contiguous_index : Store
contiguous_index = record small_volume {
  file = files_with 1 (Some (record (own_file 1 indexf (full_attr 19) 1 []) { characteristics = 128 })) own_files;
}

-- A.TXT;1 marked for delete, which task 0 accesses by two luns, and task 1 by one or not at all
abbrev pub marked_and_held : Bool → Store
marked_and_held other = record volume_with_a {
  file = files_with 6 (Some (with_delete_mark a_file)) own_files;
  access = λ task lun.
      if ((task == 0) && nat_lt lun 2) || (other && ((task == 1) && (lun == 0)))
      then Some (record { file = id 6 1; mode = mode.Read })
      else None;
}

-- the store without A.TXT;1
abbrev pub without_a : Store → Store
without_a s = record s { file = files_with 6 None s.file }

-- t is none of what the first user's request, as task 0, may leave of s
abbrev pub IsNoLag : Store → Store → Request → Type 0
IsNoLag t s r = Lags t s 0 first_user r [] → ⊥

-- Create takes one header and not two
abbrev pub CreateTakesOneHeader : Type 0
CreateTakesOneHeader = IsNoLag two_headers_taken small_volume create

-- Extend of 1 takes one block and not two, and changes no other file
pub record ExtendTakesWhatItAsks : Type 0 where
  pub blocks : IsNoLag (record writing_a { free = 376 }) writing_a (request.Extend 0 1)
  pub others : IsNoLag (with_other_changed writing_a) writing_a (request.Extend 0 1)

-- GrowIndex adds no slot before the index file isn't contiguous any more, and changes no other file
pub record GrowIndexClearsFirst : Type 0 where
  pub mark : IsNoLag (record contiguous_index { slots = 17 }) contiguous_index (request.GrowIndex 1)
  pub others : IsNoLag (with_other_changed contiguous_index) contiguous_index (request.GrowIndex 1)

-- Delete changes no other file
abbrev pub DeleteLeavesOthers : Type 0
DeleteLeavesOthers = IsNoLag (without_a (with_other_changed volume_with_a)) volume_with_a (request.Delete (id 6 1))

-- Release of a marked file that is held by two luns: it goes once; not where another task accesses it; no other file changes
pub record ReleaseFreesOnce : Type 0 where
  pub once : (work_of (marked_and_held false) 0 first_user request.Release []).parts ≡ file_goes 6 ∷ []
  pub accessed : IsNoLag (without_a (marked_and_held true)) (marked_and_held true) request.Release
  pub others : IsNoLag (without_a (with_other_changed (marked_and_held false))) (marked_and_held false) request.Release

-- A.TXT;1 in slot 17
abbrev pub behind_file : File
behind_file = new_file 17 1 first_user 0 (ident_of a_txt) no_attr

-- the crowded volume with A.TXT;1 in a slot that there isn't
abbrev pub file_without_slot : Store
file_without_slot = record crowded_volume { file = files_with 17 (Some behind_file) crowded_volume.file }

-- Create where no header is free takes the block of one slot and no other, changes no other file, and has the slot before the file
pub record CreateGetsSlotFirst : Type 0 where
  pub blocks : IsNoLag (record crowded_volume { free = 172 }) crowded_volume create
  pub others : IsNoLag (with_other_changed crowded_volume) crowded_volume create
  pub order : IsNoLag file_without_slot crowded_volume create

-- the crowded volume with a block more in the first of its files that are full, and no slot more
abbrev pub block_without_slot : Store
block_without_slot = record crowded_volume {
  file = files_with 6 (option_map with_zero_block (crowded_volume.file 6)) crowded_volume.file;
  free = 173;
}

-- Extend of 1 where a slot comes first takes two blocks and not three, changes no other file, and has the slot before the block
pub record ExtendGetsSlotFirst : Type 0 where
  pub blocks : IsNoLag (record crowded_volume { free = 171 }) crowded_volume (request.Extend 0 1)
  pub others : IsNoLag (with_other_changed crowded_volume) crowded_volume (request.Extend 0 1)
  pub order : IsNoLag block_without_slot crowded_volume (request.Extend 0 1)

-- the limits of a volume stay
pub record LimitsStay : Type 0 where
  pub bitmap : IsNoLag (record volume_with_a { bitmap_blocks = 2 }) volume_with_a request.Space
  pub index_bitmap : IsNoLag (record volume_with_a { index_bitmap_blocks = 2 }) volume_with_a request.Space
  pub slots : IsNoLag (record volume_with_a { limit = 4001 }) volume_with_a request.Space

-- the small volume without files, and with slot 7 as last given this sequence number
abbrev pub empty_volume : Store
empty_volume = record small_volume { file = λ n. None }

abbrev pub given_to_7 : ℕ → Store
given_to_7 sequence = record empty_volume { last = λ n. if n == 7 then sequence else small_volume.last n }

-- a slot without a file keeps its sequence number, or gets the next one where headers are taken
pub record SequencesStay : Type 0 where
  pub next_but_one : IsNoLag (given_to_7 2) empty_volume create
  pub untaken : IsNoLag (given_to_7 1) empty_volume request.Space

-- Truncate leaves no pointer more than there was
abbrev pub TruncateAddsNoPointer : Type 0
TruncateAddsNoPointer =
    (s : Store) → s.file 6 ≡ Some (record a_file { pointers = 1; room = 101 }) → Changes writing_a 0 first_user (request.Truncate 0 0) [] s
    → ⊥

-- the first user's work as task 0
abbrev pub works : Store → Request → Work
works s r = work_of s 0 first_user r []

-- Extend and GrowIndex take the headers that their blocks may need: one for each 102 past the places of the file's last header, and none
-- within them. A slot that comes first has a place in the index file's last header: it takes a block, and no header.
pub record WorkTakesHeaders : Type 0 where
  pub within : (works writing_a (request.Extend 0 102)).headers ≡ 0
  pub behind : (works writing_a (request.Extend 0 103)).headers ≡ 1
  pub slots_within : (works small_volume (request.GrowIndex 101)).headers ≡ 0
  pub slots_behind : (works small_volume (request.GrowIndex 102)).headers ≡ 1
  pub slot_first : (works crowded_volume (request.Extend 0 1)).headers ≡ 1
  pub blocks : (works crowded_volume (request.Extend 0 1)).blocks ≡ 2

-- a record at a directory's end is written before the end moves past it
abbrev pub EnteredAtTheEnd : Type 0
EnteredAtTheEnd =
    (works small_volume (request.Enter (id 4 4) a_txt (id 6 1))).parts
    ≡ file_changes 4 (with_entry 5 (record_bytes (id 6 1) a_txt)) ∷ file_changes 4 (with_end_after 5) ∷ []
