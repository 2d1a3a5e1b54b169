-- Worked examples: requests on a small volume, with what each is answered.
use Rattle.std.specs.Prelude.{◌≡◌, ℕ, ◌+◌, ◌-◌, ◌*◌, ◌==◌, ◌&&◌, nat_lt, List, [], ◌∷◌, ◌++◌, Option}
use Rattle.std.specs.Prelude.{Some, None, Ok, Err, if◌then◌else◌, replicate}
use Rattle.std.specs.List.{flat_map, range_with_len}
use Rattle.f11_store.specs.declared.callers.Uic.{Uic}
use Rattle.f11_store.specs.declared.files.Change.TheVariants as change
use Rattle.f11_store.specs.declared.files.FileId.{FileId}
use Rattle.f11_store.specs.declared.files.Mode.TheVariants as mode
use Rattle.f11_store.specs.declared.refusals.Refusal.{Refusal}
use Rattle.f11_store.specs.declared.refusals.Refusal.TheVariants as refusal
use Rattle.f11_store.specs.declared.requests.Request.{Request}
use Rattle.f11_store.specs.declared.requests.Request.TheVariants as request
use Rattle.f11_store.specs.declared.requests.Reply.{Reply}
use Rattle.f11_store.specs.declared.requests.Reply.TheVariants as reply
use Rattle.f11_store.specs.File.{File, zero_block}
use Rattle.f11_store.specs.Store.{Store}
use Rattle.f11_store.specs.Directory.{word_bytes, record_bytes, with_end}
use Rattle.f11_store.specs.Changes.{new_file}
use Rattle.f11_store.specs.Cost.{cost}
use Rattle.f11_store.specs.Run.{Call, Answer, Run}
use Rattle.f11_store.specs.Step.{Step}

-- the user [1,1], who is of the system class, and the user [200,1], who isn't
abbrev pub first_user : Uic
first_user = record { group = 1; member = 1 }

abbrev pub other_user : Uic
other_user = record { group = 128; member = 1 }

-- an identification on a volume that stands alone
abbrev pub id : ℕ → ℕ → FileId
id number sequence = record { number = number; sequence = sequence; volume = 0 }

-- the names INDEXF.SYS;1, BITMAP.SYS;1, BADBLK.SYS;1, 000000.DIR;1, CORIMG.SYS;1 and A.TXT;1
abbrev pub indexf : List ℕ
indexf = 14964 ∷ 8966 ∷ 0 ∷ 31419 ∷ 1 ∷ []

abbrev pub bitmap : List ℕ
bitmap = 3580 ∷ 20856 ∷ 0 ∷ 31419 ∷ 1 ∷ []

abbrev pub badblk : List ℕ
badblk = 3244 ∷ 3691 ∷ 0 ∷ 31419 ∷ 1 ∷ []

abbrev pub mfd : List ℕ
mfd = 49230 ∷ 49230 ∷ 0 ∷ 6778 ∷ 1 ∷ []

abbrev pub corimg : List ℕ
corimg = 5418 ∷ 14927 ∷ 0 ∷ 31419 ∷ 1 ∷ []

abbrev pub a_txt : List ℕ
a_txt = 1600 ∷ 0 ∷ 0 ∷ 32980 ∷ 1 ∷ []

-- an ident area with a name
abbrev pub ident_of : List ℕ → List ℕ
ident_of name = flat_map word_bytes name ++ replicate 36 0

-- attributes of zeros; those of a file of blocks without a block: type 1, size 512; with so many blocks, all of
-- them below the end; and those of a directory of one block with so many records: type 1, size 16
abbrev pub no_attr : List ℕ
no_attr = replicate 32 0

abbrev pub empty_attr : List ℕ
empty_attr = 1 ∷ 0 ∷ 0 ∷ 2 ∷ replicate 28 0

abbrev pub full_attr : ℕ → List ℕ
full_attr blocks = with_end empty_attr blocks (512 * blocks)

abbrev pub directory_attr : ℕ → List ℕ
directory_attr records = with_end (1 ∷ 0 ∷ 16 ∷ replicate 29 0) 1 (16 * records)

-- the records of the five files of the fresh volume
unfoldable pub own_records : List ℕ
own_records =
    record_bytes (id 1 1) indexf
    ++ (record_bytes (id 2 2) bitmap
    ++ (record_bytes (id 3 3) badblk ++ (record_bytes (id 4 4) mfd ++ record_bytes (id 5 5) corimg)))

-- the block of the master file directory
unfoldable pub mfd_block : List ℕ
mfd_block = own_records ++ replicate 432 0

-- a file of the fresh volume, in so many pointers
abbrev pub own_file : ℕ → List ℕ → List ℕ → ℕ → List (List ℕ) → File
own_file n name attr pointers blocks = record {
  sequence = n;
  owner = first_user;
  protection = 57344;
  characteristics = 0;
  ident = ident_of name;
  attr = attr;
  held = n ∷ [];
  pointers = pointers;
  room = 102 - pointers;
  blocks = blocks;
}

-- the five files of the fresh volume: the index file has 19 blocks, the storage bitmap 2
abbrev pub own_files : ℕ → Option File
own_files n =
    if n == 1 then Some (own_file 1 indexf (full_attr 19) 1 [])
    else if n == 2 then Some (own_file 2 bitmap (full_attr 2) 1 [])
    else if n == 3 then Some (own_file 3 badblk empty_attr 0 [])
    else if n == 4 then Some (own_file 4 mfd (directory_attr 5) 1 (mfd_block ∷ []))
    else if n == 5 then Some (own_file 5 corimg empty_attr 0 [])
    else None

-- a fresh volume of 400 blocks and 16 slots, of at most 4000
abbrev pub small_volume : Store
small_volume = record {
  file = own_files;
  free = 378;
  slots = 16;
  in_use = λ n. nat_lt 0 n && nat_lt n 6;
  last = λ n. if nat_lt n 6 then n else 0;
  access = λ task lun. None;
  bitmap_blocks = 1;
  index_bitmap_blocks = 1;
  limit = 4000;
}

-- a call of the first user
abbrev pub asks : ℕ → Request → Call
asks task r = record { task = task; caller = first_user; request = r; block = [] }

-- served, or refused, with the caller's block untouched
abbrev pub gets : Reply → Answer
gets a = record { result = Ok a; block = [] }

abbrev pub no : Refusal → Answer
no e = record { result = Err e; block = [] }

-- the calls may have the answers
abbrev pub MayAnswer : Store → List Call → List Answer → Type 0
MayAnswer s calls answers = (s' : Store) × Run s calls answers s'

-- a new file A.TXT;1 with protection 0
abbrev pub create : Request
create = request.Create 0 (ident_of a_txt) no_attr

-- a slot's next file has the next sequence number, and the old identification names no file
abbrev pub SequenceNumbers : Type 0
SequenceNumbers =
    MayAnswer small_volume
    (asks 0 create ∷ asks 0 (request.Delete (id 6 1)) ∷ asks 0 create ∷ asks 0 (request.Access (id 6 1) mode.Read 0)
    ∷ asks 0 (request.ReadAttr (id 6 2)) ∷ [])
    (gets (reply.Created (id 6 1)) ∷ gets reply.Done ∷ gets (reply.Created (id 6 2)) ∷ no refusal.NoSuchFile
    ∷ gets (reply.Attr (record { owner = first_user; protection = 0; characteristics = 0; ident = ident_of a_txt; attr = no_attr })) ∷ [])

-- all blocks in one file: one more is too many
abbrev pub FullVolume : Type 0
FullVolume =
    MayAnswer small_volume
    (asks 0 create ∷ asks 0 (request.Access (id 6 1) mode.Write 0) ∷ asks 0 (request.Extend 0 378)
    ∷ asks 0 (request.Extend 0 1) ∷ asks 0 request.Space ∷ [])
    (gets (reply.Created (id 6 1)) ∷ gets reply.Done ∷ gets (reply.Length 378)
    ∷ no refusal.DeviceFull ∷ gets (reply.Space 0 10 16) ∷ [])

-- 26112 blocks may need 255 headers more, 26113 one too many
abbrev pub TooLong : Type 0
TooLong =
    MayAnswer small_volume
    (asks 0 create ∷ asks 0 (request.Access (id 6 1) mode.Write 0) ∷ asks 0 (request.Extend 0 26112)
    ∷ asks 0 (request.Extend 0 26113) ∷ asks 0 (request.Extend 0 0) ∷ [])
    (gets (reply.Created (id 6 1)) ∷ gets reply.Done ∷ no refusal.DeviceFull
    ∷ no refusal.TooManySegments ∷ no refusal.BadArgument ∷ [])

-- a call of ReadBlock, whose block before it is empty here, and one that reads a block of zeros
abbrev pub reads : ℕ → ℕ → ℕ → Call
reads task lun vbn = asks task (request.ReadBlock lun vbn)

abbrev pub gets_zeros : Answer
gets_zeros = record { result = Ok reply.Done; block = zero_block }

-- a file that is deleted while it is accessed goes with its last access
abbrev pub DeferredDelete : Type 0
DeferredDelete =
    MayAnswer small_volume
    (asks 0 create ∷ asks 0 (request.Access (id 6 1) mode.Write 0) ∷ asks 0 (request.Extend 0 2) ∷ asks 0 (request.Deaccess 0)
    ∷ asks 1 (request.Access (id 6 1) mode.Read 0) ∷ asks 2 (request.Delete (id 6 1)) ∷ reads 1 0 1
    ∷ asks 2 (request.Access (id 6 1) mode.Read 0) ∷ asks 2 (request.Delete (id 6 1)) ∷ asks 2 request.Space
    ∷ asks 1 (request.Deaccess 0) ∷ asks 1 request.Space ∷ [])
    (gets (reply.Created (id 6 1)) ∷ gets reply.Done ∷ gets (reply.Length 2) ∷ gets reply.Done
    ∷ gets reply.Done ∷ gets reply.Done ∷ gets_zeros
    ∷ no refusal.Marked ∷ no refusal.Marked ∷ gets (reply.Space 376 10 16)
    ∷ gets reply.Done ∷ gets (reply.Space 378 11 16) ∷ [])

-- a reader doesn't see blocks that were cut off, whoever has them now
abbrev pub TruncatedUnderAReader : Type 0
TruncatedUnderAReader =
    MayAnswer small_volume
    (asks 2 create ∷ asks 2 (request.Access (id 6 1) mode.Write 0) ∷ asks 2 (request.Extend 0 8)
    ∷ asks 1 (request.Access (id 6 1) mode.Read 0) ∷ reads 1 0 5 ∷ asks 2 (request.Truncate 0 2)
    ∷ asks 2 create ∷ asks 2 (request.Access (id 7 1) mode.Write 1) ∷ asks 2 (request.Extend 1 6)
    ∷ asks 2 (request.WriteBlock 1 3) ∷ reads 1 0 5 ∷ [])
    (gets (reply.Created (id 6 1)) ∷ gets reply.Done ∷ gets (reply.Length 8)
    ∷ gets reply.Done ∷ gets_zeros ∷ gets (reply.Length 2)
    ∷ gets (reply.Created (id 7 1)) ∷ gets reply.Done ∷ gets (reply.Length 6)
    ∷ gets reply.Done ∷ no refusal.EndOfFile ∷ [])

-- which accesses stand against each other
abbrev pub Conflicts : Type 0
Conflicts =
    MayAnswer small_volume
    (asks 0 create ∷ asks 1 (request.Access (id 6 1) mode.Locked 0) ∷ asks 2 (request.Access (id 6 1) mode.Write 0)
    ∷ asks 1 request.Release ∷ asks 2 (request.Access (id 6 1) mode.Write 0)
    ∷ asks 1 (request.Access (id 6 1) mode.Locked 0) ∷ asks 2 (request.Access (id 6 1) mode.Read 0)
    ∷ reads 1 0 1 ∷ asks 1 (request.Access (id 1 1) mode.Read 0) ∷ [])
    (gets (reply.Created (id 6 1)) ∷ gets reply.Done ∷ no refusal.Conflict
    ∷ gets reply.Done ∷ gets reply.Done
    ∷ no refusal.Conflict ∷ no refusal.LunInUse
    ∷ no refusal.NoSuchAccess ∷ no refusal.SystemFile ∷ [])

-- a file of another relative volume than 0 is none that there may be, nor is a directory, nor a file that is entered
abbrev pub elsewhere : FileId
elsewhere = record { number = 4; sequence = 4; volume = 1 }

abbrev pub OtherVolumes : Type 0
OtherVolumes =
    MayAnswer small_volume
    (asks 0 (request.Access elsewhere mode.Read 0) ∷ asks 0 (request.Delete elsewhere) ∷ asks 0 (request.ReadAttr elsewhere)
    ∷ asks 0 (request.WriteAttr elsewhere (change.Protect 0)) ∷ asks 0 (request.Find elsewhere indexf)
    ∷ asks 0 (request.Enter elsewhere a_txt (id 5 5)) ∷ asks 0 (request.Enter (id 4 4) a_txt elsewhere)
    ∷ asks 0 (request.Remove elsewhere indexf) ∷ [])
    (no refusal.BadArgument ∷ no refusal.BadArgument ∷ no refusal.BadArgument
    ∷ no refusal.BadArgument ∷ no refusal.BadArgument
    ∷ no refusal.BadArgument ∷ no refusal.BadArgument
    ∷ no refusal.BadArgument ∷ [])

-- a name that is entered is found, and one that is removed isn't
abbrev pub EnteredAndRemoved : Type 0
EnteredAndRemoved =
    MayAnswer small_volume
    (asks 0 (request.Find (id 4 4) a_txt) ∷ asks 0 (request.Enter (id 4 4) a_txt (id 6 1)) ∷ asks 0 (request.Find (id 4 4) a_txt)
    ∷ asks 0 (request.Enter (id 4 4) a_txt (id 7 1)) ∷ asks 0 (request.Remove (id 4 4) indexf)
    ∷ asks 0 (request.Find (id 4 4) indexf) ∷ asks 0 (request.Remove (id 4 4) a_txt) ∷ asks 0 (request.Find (id 4 4) a_txt)
    ∷ asks 0 (request.Find (id 5 5) a_txt) ∷ [])
    (no refusal.NoSuchEntry ∷ gets reply.Done ∷ gets (reply.Found (id 6 1))
    ∷ no refusal.DuplicateName ∷ gets reply.Done
    ∷ no refusal.NoSuchEntry ∷ gets reply.Done ∷ no refusal.NoSuchEntry
    ∷ no refusal.NotDirectory ∷ [])

-- the attributes of a directory of 33 records: its end is in block 2, at byte 16
abbrev pub EndMoves : Type 0
EndMoves = with_end (replicate 32 0) 2 (16 * 33) ≡ replicate 6 0 ++ (2 ∷ 0 ∷ 0 ∷ 0 ∷ 2 ∷ 0 ∷ 16 ∷ replicate 19 0)

-- the name N.TXT with a version
abbrev pub n_txt : ℕ → List ℕ
n_txt version = 22400 ∷ 0 ∷ 0 ∷ 32980 ∷ version ∷ []

-- the small volume with a file N.TXT;1, which stands in the master file directory as N.TXT;1 to N.TXT;27 too:
-- its block has 32 records
unfoldable pub crowded_block : List ℕ
crowded_block = own_records ++ flat_map (λ version. record_bytes (id 6 1) (n_txt version)) (range_with_len 1 27)

abbrev pub crowded_directory : Store
crowded_directory = record small_volume {
  file = λ n.
      if n == 4 then Some (own_file 4 mfd (directory_attr 32) 1 (crowded_block ∷ []))
      else if n == 6 then Some (new_file 6 1 first_user 0 (ident_of (n_txt 1)) no_attr)
      else own_files n;
  in_use = λ n. nat_lt 0 n && nat_lt n 7;
  last = λ n. if nat_lt n 6 then n else if n == 6 then 1 else 0;
}

-- a record that finds no empty place and no room in the last block takes one more block, and moves the end
abbrev pub EnteredInNewBlock : Type 0
EnteredInNewBlock =
    MayAnswer crowded_directory
    (asks 0 (request.Find (id 4 4) (n_txt 34)) ∷ asks 0 (request.Enter (id 4 4) (n_txt 34) (id 6 1))
    ∷ asks 0 (request.Find (id 4 4) (n_txt 34)) ∷ asks 0 (request.ReadAttr (id 4 4)) ∷ asks 0 request.Space ∷ [])
    (no refusal.NoSuchEntry ∷ gets reply.Done ∷ gets (reply.Found (id 6 1))
    ∷ gets (reply.Attr (record {
      owner = first_user;
      protection = 57344;
      characteristics = 0;
      ident = ident_of mfd;
      attr = with_end (directory_attr 32) 2 528;
    })) ∷ gets (reply.Space 377 10 16) ∷ [])

-- a file without attributes, in so many pointers and places
abbrev pub crowded_file : ℕ → ℕ → ℕ → File
crowded_file n pointers room = record {
  sequence = 1;
  owner = first_user;
  protection = 0;
  characteristics = 0;
  ident = [];
  attr = [];
  held = n ∷ [];
  pointers = pointers;
  room = room;
  blocks = [];
}

-- the small volume with eleven files, two of them with 102 blocks in as many pointers, whose contents
-- are left out; the first four are accessed to write
abbrev pub crowded_volume : Store
crowded_volume = record small_volume {
  file = λ n. if nat_lt n 6 then own_files n else if nat_lt n 8 then Some (crowded_file n 102 0) else if nat_lt n 17 then Some
      (crowded_file n 0 102) else None;
  free = 174;
  in_use = λ n. nat_lt 0 n && nat_lt n 17;
  last = λ n. if nat_lt n 6 then n else if nat_lt n 17 then 1 else 0;
  access = λ task lun. if nat_lt lun 4 then Some (record { file = id (lun + 6) 1; mode = mode.Write }) else None;
}

-- a call of the other user
abbrev pub other_asks : Request → Call
other_asks r = record { task = 0; caller = other_user; request = r; block = [] }

-- no header is free: the index file gets a slot where a request needs one, and no slot where it doesn't
abbrev pub HeadersRunOut : Type 0
HeadersRunOut =
    MayAnswer crowded_volume
    (asks 0 create ∷ asks 0 (request.Extend 0 1) ∷ asks 0 (request.Extend 2 3) ∷ asks 0 request.Space
    ∷ asks 0 (request.Extend 3 103) ∷ asks 0 request.Space
    ∷ asks 0 (request.GrowIndex 1) ∷ asks 0 (request.GrowIndex 4000) ∷ asks 0 (request.GrowIndex 3980)
    ∷ other_asks (request.GrowIndex 3980) ∷ [])
    (gets (reply.Created (id 17 1)) ∷ gets (reply.Length 1) ∷ gets (reply.Length 3) ∷ gets (reply.Space 168 0 18)
    ∷ gets (reply.Length 103) ∷ gets (reply.Space 64 1 19)
    ∷ gets (reply.Slots 20) ∷ no refusal.IndexLimit ∷ no refusal.DeviceFull
    ∷ no refusal.NoPrivilege ∷ [])

-- with so many slots at most, and so many blocks free
abbrev pub crowded_with : ℕ → ℕ → Store
crowded_with limit free = record crowded_volume { limit = limit; free = free }

-- where there may be no more slots there is no header, and where no block is free the volume is full; there may be no memory for a slot
abbrev pub SlotsRunOut : Type 0
SlotsRunOut =
    MayAnswer (crowded_with 16 174) (asks 0 create ∷ asks 0 (request.Extend 0 1) ∷ []) (no refusal.NoHeader ∷ no refusal.NoHeader ∷ [])
    × MayAnswer (crowded_with 4000 0) (asks 0 create ∷ asks 0 (request.Extend 2 1) ∷ [])
    (no refusal.DeviceFull ∷ no refusal.DeviceFull ∷ [])
    × MayAnswer (crowded_with 4000 1) (asks 0 (request.Extend 0 1) ∷ []) (no refusal.DeviceFull ∷ [])
    × MayAnswer crowded_volume (asks 0 create ∷ asks 0 (request.Extend 0 1) ∷ []) (no refusal.NoMemory ∷ no refusal.NoMemory ∷ [])

-- the crowded volume with the crowded directory in place of its own, whose header has no room
abbrev pub crowded_everywhere : Store
crowded_everywhere = record crowded_volume {
  file = λ n. if n == 4 then Some (own_file 4 mfd (directory_attr 32) 102 (crowded_block ∷ [])) else crowded_volume.file n;
}

-- a record for which the directory takes a block, that block a header, and that header a slot
abbrev pub EnteredBehindSlot : Type 0
EnteredBehindSlot =
    MayAnswer crowded_everywhere
    (asks 0 (request.Enter (id 4 4) (n_txt 34) (id 7 1)) ∷ asks 0 (request.Find (id 4 4) (n_txt 34))
    ∷ asks 0 (request.ReadAttr (id 4 4)) ∷ asks 0 request.Space ∷ [])
    (gets reply.Done ∷ gets (reply.Found (id 7 1))
    ∷ gets (reply.Attr (record {
      owner = first_user;
      protection = 57344;
      characteristics = 0;
      ident = ident_of mfd;
      attr = with_end (directory_attr 32) 2 528;
    })) ∷ gets (reply.Space 172 0 17) ∷ [])

-- the first user's request, as task 0, is never refused so
abbrev pub IsNoRefusal : Store → Request → Refusal → Type 0
IsNoRefusal s r e = (s' : Store) (block' : List ℕ) → Step s 0 first_user r [] (Err e) s' block' → ⊥

-- want of memory is answered where a slot comes first and nothing else stands against the request, and no header where no slot can come
pub record RefusedForSlotsAlone : Type 0 where
  pub free_header : IsNoRefusal small_volume create refusal.NoMemory
  pub room_left : IsNoRefusal crowded_volume (request.Extend 2 3) refusal.NoMemory
  pub empty_record : IsNoRefusal crowded_volume (request.Enter (id 4 4) a_txt (id 6 1)) refusal.NoMemory
  pub no_slot : IsNoRefusal (crowded_with 16 174) create refusal.NoMemory
  pub slot_first : IsNoRefusal crowded_volume create refusal.NoHeader

-- bounds on the transfers of requests: one bitmap block, one index bitmap block, files of one header, a
-- directory of one block
pub record Bounds : Type 0 where
  pub create : cost small_volume 0 create ≡ 4
  pub find : cost small_volume 0 (request.Find (id 4 4) a_txt) ≡ 4
  pub enter : cost small_volume 0 (request.Enter (id 4 4) a_txt (id 6 1)) ≡ 34
  pub remove : cost small_volume 0 (request.Remove (id 4 4) a_txt) ≡ 6
  pub delete : cost small_volume 0 (request.Delete (id 4 4)) ≡ 10
  pub grow : cost small_volume 0 (request.GrowIndex 1) ≡ 25
  pub extend : cost crowded_volume 0 (request.Extend 2 103) ≡ 569
  pub read : cost crowded_volume 0 (request.ReadBlock 0 1) ≡ 2
  pub close : cost crowded_volume 0 (request.Deaccess 0) ≡ 0
  pub release : cost crowded_volume 0 request.Release ≡ 0

-- the same where no header is free: a slot's bound is added, whether or not it may come, and none where no header is taken
pub record BoundsBehindSlots : Type 0 where
  pub made : cost crowded_volume 0 create ≡ 29
  pub not_made : cost (crowded_with 16 174) 0 create ≡ 29
  pub extended : cost crowded_volume 0 (request.Extend 0 1) ≡ 50
  pub entered_in_place : cost crowded_volume 0 (request.Enter (id 4 4) a_txt (id 6 1)) ≡ 34
  pub entered : cost crowded_everywhere 0 (request.Enter (id 4 4) a_txt (id 6 1)) ≡ 59
