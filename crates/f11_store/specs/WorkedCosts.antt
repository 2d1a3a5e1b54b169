-- Worked examples of how many transfers requests may take, on a volume whose storage bitmap has two blocks, and whose index bitmap three,
-- or five.
use Rattle.std.specs.Prelude.{◌≡◌, ℕ, ◌==◌, nat_lt, [], ◌∷◌, Option, Some, None, if◌then◌else◌}
use Rattle.f11_store.specs.declared.files.Change.TheVariants as change
use Rattle.f11_store.specs.declared.files.Mode.TheVariants as mode
use Rattle.f11_store.specs.declared.requests.Request.TheVariants as request
use Rattle.f11_store.specs.Changes.{with_delete_mark}
use Rattle.f11_store.specs.Cost.{cost}
use Rattle.f11_store.specs.Directory.{with_end}
use Rattle.f11_store.specs.File.{File, zero_blocks}
use Rattle.f11_store.specs.Store.{Access, Store}
use Rattle.f11_store.specs.Worked.{a_txt, create, crowded_directory, crowded_everywhere, crowded_file, crowded_volume, id, small_volume}
use Rattle.f11_store.specs.Worked.{directory_attr, full_attr, indexf, mfd, own_file}

-- a volume with such bitmaps
abbrev pub wide : Store → Store
wide s = record s { bitmap_blocks = 2; index_bitmap_blocks = 3 }

-- requests that make a file or change its length: with headers that are free, with a slot that comes first, and with one header more
pub record WideLengths : Type 0 where
  pub made : cost (wide small_volume) 0 create ≡ 6
  pub made_behind_slot : cost (wide crowded_volume) 0 create ≡ 36
  pub extend : cost (wide crowded_volume) 0 (request.Extend 2 1) ≡ 30
  pub extend_behind_slot : cost (wide crowded_volume) 0 (request.Extend 2 103) ≡ 581
  pub grow : cost (wide crowded_volume) 0 (request.GrowIndex 1) ≡ 30
  pub grow_by_header : cost (wide crowded_volume) 0 (request.GrowIndex 103) ≡ 551
  pub contiguous : cost (wide crowded_volume) 0 (request.Contiguous 2 300) ≡ 318
  pub contiguous_by_header : cost (wide crowded_volume) 0 (request.Contiguous 0 1) ≡ 30
  pub truncate : cost (wide crowded_volume) 0 (request.Truncate 0 0) ≡ 414
  pub delete : cost (wide crowded_volume) 0 (request.Delete (id 6 1)) ≡ 414

-- a volume without a free header, whose crowded directory has room in its own
abbrev pub crowded_with_room : Store
crowded_with_room = record crowded_directory { slots = 6 }

-- requests on directories
pub record WideDirectories : Type 0 where
  pub find : cost (wide small_volume) 0 (request.Find (id 4 4) a_txt) ≡ 4
  pub enter : cost (wide small_volume) 0 (request.Enter (id 4 4) a_txt (id 6 1)) ≡ 39
  pub enter_with_room : cost (wide crowded_with_room) 0 (request.Enter (id 4 4) a_txt (id 6 1)) ≡ 39
  pub enter_behind_slot : cost (wide crowded_everywhere) 0 (request.Enter (id 4 4) a_txt (id 6 1)) ≡ 69
  pub remove : cost (wide small_volume) 0 (request.Remove (id 4 4) a_txt) ≡ 6

-- requests that read a header or a block, or write one
pub record SmallBounds : Type 0 where
  pub access : cost (wide crowded_volume) 0 (request.Access (id 6 1) mode.Write 3) ≡ 1
  pub read : cost (wide crowded_volume) 0 (request.ReadBlock 0 1) ≡ 2
  pub write : cost (wide crowded_volume) 0 (request.WriteBlock 0 1) ≡ 2
  pub read_attr : cost (wide crowded_volume) 0 (request.ReadAttr (id 6 1)) ≡ 1
  pub write_attr : cost (wide crowded_volume) 0 (request.WriteAttr (id 6 1) (change.Protect 0)) ≡ 3
  pub space : cost (wide crowded_volume) 0 request.Space ≡ 0

-- requests by a lun that holds no file, or that name none: what has no header counts as a file of one header
pub record NoFileBounds : Type 0 where
  pub read : cost (wide small_volume) 0 (request.ReadBlock 0 1) ≡ 2
  pub write : cost (wide small_volume) 0 (request.WriteBlock 0 1) ≡ 2
  pub extend : cost (wide small_volume) 0 (request.Extend 0 1) ≡ 30
  pub contiguous : cost (wide small_volume) 0 (request.Contiguous 0 1) ≡ 30
  pub truncate : cost (wide small_volume) 0 (request.Truncate 0 0) ≡ 6
  pub delete : cost (wide small_volume) 0 (request.Delete (id 6 1)) ≡ 6
  pub find : cost (wide small_volume) 0 (request.Find (id 6 1) a_txt) ≡ 2
  pub enter : cost (wide small_volume) 0 (request.Enter (id 6 1) a_txt (id 6 1)) ≡ 37
  pub remove : cost (wide small_volume) 0 (request.Remove (id 6 1) a_txt) ≡ 4

-- an index file of four headers; a directory of two, the last of them full, with its end in the third of its four blocks, which are zeros;
-- and a full file of three
abbrev pub long_index_file : File
long_index_file = record (own_file 1 indexf (full_attr 19) 1 []) { held = 1 ∷ 11 ∷ 12 ∷ 13 ∷ [] }

abbrev pub long_directory : File
long_directory = record (own_file 4 mfd (with_end (directory_attr 65) 4 1040) 102 (zero_blocks 4)) { held = 4 ∷ 14 ∷ [] }

abbrev pub long_file : File
long_file = record (crowded_file 6 102 0) { held = 6 ∷ 9 ∷ 10 ∷ [] }

-- the wide volume with these
abbrev pub volume_with_long : Store
volume_with_long = record (wide crowded_volume) {
  file = λ n.
      if n == 1 then Some long_index_file
      else if n == 4 then Some long_directory
      else if n == 6 then Some long_file
      else crowded_volume.file n;
}

-- requests on them, each header of which may be read
pub record LongFileBounds : Type 0 where
  pub read : cost volume_with_long 0 (request.ReadBlock 0 1) ≡ 4
  pub write : cost volume_with_long 0 (request.WriteBlock 0 1) ≡ 4
  pub extend : cost volume_with_long 0 (request.Extend 0 1) ≡ 65
  pub contiguous : cost volume_with_long 0 (request.Contiguous 0 1) ≡ 32
  pub truncate : cost volume_with_long 0 (request.Truncate 0 0) ≡ 424
  pub made_behind_slot : cost volume_with_long 0 create ≡ 39
  pub grow : cost volume_with_long 0 (request.GrowIndex 1) ≡ 33
  pub find : cost volume_with_long 0 (request.Find (id 4 4) a_txt) ≡ 12
  pub enter : cost volume_with_long 0 (request.Enter (id 4 4) a_txt (id 6 1)) ≡ 49
  pub remove : cost volume_with_long 0 (request.Remove (id 4 4) a_txt) ≡ 15

-- the wide volume with a slot more, which is free
abbrev pub volume_with_slot : Store
volume_with_slot = record (wide crowded_volume) { slots = 17 }

-- growth that may take several headers: a slot comes first for each that lacks, and none for one that is free; the index file's growth and
-- Contiguous get none first
pub record SeveralHeaderBounds : Type 0 where
  pub two_lack : cost (wide crowded_volume) 0 (request.Extend 2 205) ≡ 1107
  pub none_lacks : cost volume_with_slot 0 (request.Extend 2 103) ≡ 551
  pub one_lacks : cost volume_with_slot 0 (request.Extend 2 205) ≡ 1102
  pub two_lack_beside_one : cost volume_with_slot 0 (request.Extend 2 307) ≡ 1628
  pub grow_within : cost (wide crowded_volume) 0 (request.GrowIndex 102) ≡ 535
  pub grow : cost (wide crowded_volume) 0 (request.GrowIndex 205) ≡ 1072
  pub contiguous : cost (wide crowded_volume) 0 (request.Contiguous 0 26113) ≡ 26153

-- the volume whose index bitmap has five blocks
abbrev pub wide_index : Store → Store
wide_index s = record (wide s) { index_bitmap_blocks = 5 }

-- requests on it
pub record WideIndexBounds : Type 0 where
  pub made : cost (wide_index small_volume) 0 create ≡ 8
  pub made_behind_slot : cost (wide_index crowded_volume) 0 create ≡ 42
  pub extend : cost (wide_index crowded_volume) 0 (request.Extend 2 1) ≡ 34
  pub grow : cost (wide_index crowded_volume) 0 (request.GrowIndex 1) ≡ 34
  pub contiguous : cost (wide_index crowded_volume) 0 (request.Contiguous 2 300) ≡ 320
  pub contiguous_by_header : cost (wide_index crowded_volume) 0 (request.Contiguous 0 1) ≡ 34
  pub enter : cost (wide_index small_volume) 0 (request.Enter (id 4 4) a_txt (id 6 1)) ≡ 43

-- what task 0 holds: one file by two luns, and another by one
abbrev pub twice_and_once : ℕ → Option Access
twice_and_once lun =
    if nat_lt lun 2 then Some (record { file = id 6 1; mode = mode.Read })
    else if lun == 2 then Some (record { file = id 8 1; mode = mode.Write })
    else None

-- the wide volume with both marked for delete
abbrev pub marked_volume : Store
marked_volume = record (wide crowded_volume) {
  file = λ n.
      if n == 6 then Some (with_delete_mark (crowded_file 6 102 0))
      else if n == 8 then Some (with_delete_mark (crowded_file 8 0 102))
      else crowded_volume.file n;
  access = λ task lun. if task == 0 then twice_and_once lun else None;
}

-- giving up: nothing, but where a marked file goes, which it does with its last access
pub record GivingUpBounds : Type 0 where
  pub held_still : cost marked_volume 0 (request.Deaccess 0) ≡ 0
  pub goes : cost marked_volume 0 (request.Deaccess 2) ≡ 6
  pub none : cost marked_volume 0 (request.Deaccess 3) ≡ 0
  pub all : cost marked_volume 0 request.Release ≡ 420
  pub other_task : cost marked_volume 1 request.Release ≡ 0
