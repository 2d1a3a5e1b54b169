-- Laws of the plain store, which show that its definitions say what is meant (profile).
use Rattle.std.specs.Prelude.{◌≡◌, ◌≢◌, ◌⊎◌, ℕ, ◌+◌, ◌<◌, ◌≤◌, ◌==◌, List, [], length, All, true, false, Some, None, Result, Ok, Err}
use Rattle.std.specs.Prelude.{IsSomeAnd}
use Rattle.f11_store.specs.declared.callers.Uic.{Uic}
use Rattle.f11_store.specs.declared.files.FileId.{FileId}
use Rattle.f11_store.specs.declared.refusals.Refusal.{Refusal}
use Rattle.f11_store.specs.declared.refusals.Refusal.TheVariants.{NoSuchEntry, DuplicateName, NoMemory, NoRun}
use Rattle.f11_store.specs.declared.requests.Request.{Request}
use Rattle.f11_store.specs.declared.requests.Request.TheVariants as request
use Rattle.f11_store.specs.declared.requests.Reply.{Reply}
use Rattle.f11_store.specs.declared.requests.Reply.TheVariants as reply
use Rattle.f11_store.specs.File.{File, zero_block}
use Rattle.f11_store.specs.Store.{Store, file_named, id_held, file_held, is_accessed, free_headers}
use Rattle.f11_store.specs.Directory.{record_at, entry_count, record_id, record_bytes, index_of_name, index_of_empty, empty_record}
use Rattle.f11_store.specs.Causes.{is_bad, first_refusal}
use Rattle.f11_store.specs.Changes.{next_sequence}
use Rattle.f11_store.specs.Lags.{Work, AreLike, last_of, LagsBy, Lags}
use Rattle.f11_store.specs.Step.{Step, asks_for_run, block_at}

-- a request that is refused leaves store and block as they were
abbrev pub RefusalChangesNothing : Type 0
RefusalChangesNothing =
    (s : Store) (task : ℕ) (caller : Uic) (r : Request) (block : List ℕ) (e : Refusal) (s' : Store) (block' : List ℕ) →
    Step s task caller r block (Err e) s' block' → (s' ≡ s) × (block' ≡ block)

-- a request that may be refused for two causes is refused for one
abbrev pub RefusalIsOne : Type 0
RefusalIsOne =
    (s : Store) (task : ℕ) (caller : Uic) (r : Request) (block : List ℕ) (e f : Refusal) (s' t' : Store) (block' other : List ℕ) →
    Step s task caller r block (Err e) s' block' → Step s task caller r block (Err f) t' other → e ≡ f

-- a request that may be served is refused for want of memory alone, or, where it asks for one, of a run of free blocks
abbrev pub ServedOrWanting : Type 0
ServedOrWanting =
    (s : Store) (task : ℕ) (caller : Uic) (r : Request) (block : List ℕ) (a : Reply) (e : Refusal) (s' t' : Store) (block' other : List ℕ) →
    Step s task caller r block (Ok a) s' block' → Step s task caller r block (Err e) t' other →
    (e ≡ NoMemory) ⊎ ((asks_for_run r ≡ true) × (e ≡ NoRun))

-- a request that is served has one reply, and one block after it
abbrev pub ReplyIsOne : Type 0
ReplyIsOne =
    (s : Store) (task : ℕ) (caller : Uic) (r : Request) (block : List ℕ) (a b : Reply) (s' t' : Store) (block' other : List ℕ) →
    Step s task caller r block (Ok a) s' block' → Step s task caller r block (Ok b) t' other → (a ≡ b) × (block' ≡ other)

-- a block that was written is the one that is then read by the same access
abbrev pub WrittenIsRead : Type 0
WrittenIsRead =
    (s : Store) (task : ℕ) (caller : Uic) (lun vbn : ℕ) (block : List ℕ) (a : Reply) (s' : Store) (block' before : List ℕ) →
    Step s task caller (request.WriteBlock lun vbn) block (Ok a) s' block' →
    Step s' task caller (request.ReadBlock lun vbn) before (Ok reply.Done) s' block

-- a block that is written leaves every other block of the file
abbrev pub OtherBlocksStay : Type 0
OtherBlocksStay =
    (s : Store) (task : ℕ) (caller : Uic) (lun vbn : ℕ) (block : List ℕ) (a : Reply) (s' : Store) (block' : List ℕ) (other : ℕ) →
    Step s task caller (request.WriteBlock lun vbn) block (Ok a) s' block' →
    0 < other → other ≢ vbn → block_at (file_held s' task lun) other ≡ block_at (file_held s task lun) other

-- a block that is written leaves every other file
abbrev pub OtherFilesStay : Type 0
OtherFilesStay =
    (s : Store) (task : ℕ) (caller : Uic) (lun vbn : ℕ) (block : List ℕ) (a : Reply) (s' : Store) (block' : List ℕ) (n : ℕ) →
    Step s task caller (request.WriteBlock lun vbn) block (Ok a) s' block' →
    n ≢ (id_held s task lun).number → s'.file n ≡ s.file n

-- two stores agree in every number, slot and access
pub record AgreeEverywhere (s t : Store) : Type 0 where
  pub file : (n : ℕ) → s.file n ≡ t.file n
  pub free : s.free ≡ t.free
  pub slots : s.slots ≡ t.slots
  pub in_use : (n : ℕ) → s.in_use n ≡ t.in_use n
  pub last : (n : ℕ) → s.last n ≡ t.last n
  pub access : (task lun : ℕ) → s.access task lun ≡ t.access task lun
  pub bitmap_blocks : s.bitmap_blocks ≡ t.bitmap_blocks
  pub index_bitmap_blocks : s.index_bitmap_blocks ≡ t.index_bitmap_blocks
  pub limit : s.limit ≡ t.limit

-- stores that agree everywhere are one
abbrev pub AgreeingAreOne : Type 0
AgreeingAreOne = (s t : Store) → AgreeEverywhere s t → s ≡ t

-- a new file's slot was free: it isn't one of the first five, it is one of the index file's then, and it wasn't in use
abbrev pub NewSlotWasFree : Type 0
NewSlotWasFree =
    (s : Store) (task : ℕ) (caller : Uic) (word : ℕ) (ident attr block : List ℕ) (id : FileId) (s' : Store) (block' : List ℕ) →
    Step s task caller (request.Create word ident attr) block (Ok (reply.Created id)) s' block' →
    (6 ≤ id.number) × (id.number ≤ s'.slots) × (s.in_use id.number ≡ false)

-- a new file has the next sequence number of its slot
abbrev pub NewFileIsNext : Type 0
NewFileIsNext =
    (s : Store) (task : ℕ) (caller : Uic) (word : ℕ) (ident attr block : List ℕ) (id : FileId) (s' : Store) (block' : List ℕ) →
    Step s task caller (request.Create word ident attr) block (Ok (reply.Created id)) s' block' →
    (id.sequence ≡ next_sequence (last_of s id.number)) × (s'.last id.number ≡ id.sequence)

-- a file that is deleted while somebody accesses it keeps its blocks, and every access to it
abbrev pub AccessedKeepsBlocks : Type 0
AccessedKeepsBlocks =
    (s : Store) (task : ℕ) (caller : Uic) (id : FileId) (block : List ℕ) (a : Reply) (s' : Store) (block' : List ℕ) →
    Step s task caller (request.Delete id) block (Ok a) s' block' → is_accessed s id ≡ true →
    ((file_named s' id).blocks ≡ (file_named s id).blocks) × (s'.access ≡ s.access)

-- what was cut off by Truncate comes back as zeros by Extend
abbrev pub CutComesBackZero : Type 0
CutComesBackZero =
    (s : Store) (task : ℕ) (caller : Uic) (lun to n : ℕ) (block : List ℕ) (a b : Reply) (s' s'' : Store) (block' block'' : List ℕ)
    (vbn : ℕ) →
    Step s task caller (request.Truncate lun to) block (Ok a) s' block' →
    Step s' task caller (request.Extend lun n) block' (Ok b) s'' block'' →
    to < vbn → vbn ≤ to + n → IsSomeAnd (s''.file (id_held s task lun).number) (λ f. block_at f vbn ≡ zero_block)

-- a store lags itself, whatever the work: nothing is done yet
abbrev pub LagsItself : Type 0
LagsItself = (work : Work) (s : Store) → LagsBy work s s

-- no task holds an access to the index file
abbrev pub NoneHoldsIndex : Store → Type 0
NoneHoldsIndex s = (task lun : ℕ) → ((id_held s task lun).number == 1) ≡ false

-- the store after a step lags the one before it: all is done, or nothing
abbrev pub StepLags : Type 0
StepLags =
    (s : Store) (task : ℕ) (caller : Uic) (r : Request) (block : List ℕ) (result : Result Reply Refusal) (s' : Store) (block' : List ℕ) →
    NoneHoldsIndex s → Step s task caller r block result s' block' → Lags s' s task caller r block

-- a file that the work doesn't mean is as it was
abbrev pub OthersAreEqual : Type 0
OthersAreEqual = (work : Work) (t s : Store) (n : ℕ) → LagsBy work t s → work.is_meant n ≡ false → t.file n ≡ s.file n

-- where the work has no parts, all files are alike, and the slots as many
abbrev pub NoPartsNoChange : Type 0
NoPartsNoChange =
    (work : Work) (t s : Store) → LagsBy work t s → work.parts ≡ [] → ((n : ℕ) → AreLike (t.file n) (s.file n)) × (t.slots ≡ s.slots)

-- every file is as it was, as many slots with the same sequence numbers, and no fewer blocks and headers are free
pub record IsStill (s t : Store) : Type 0 where
  pub files : (n : ℕ) → t.file n ≡ s.file n
  pub slots : t.slots ≡ s.slots
  pub last : (n : ℕ) → n ≤ s.slots → t.last n ≡ s.last n
  pub free_blocks : s.free ≤ t.free
  pub headers : free_headers s ≤ free_headers t

-- a request that is refused leaves nothing behind
abbrev pub RefusedIsStill : Type 0
RefusedIsStill =
    (t s : Store) (task : ℕ) (caller : Uic) (r : Request) (block : List ℕ) (e : Refusal) →
    first_refusal s task caller r ≡ Some e → Lags t s task caller r block → IsStill s t

-- a file as any on a volume: blocks of 512 bytes, attributes of 32
pub record IsWhole (f : File) : Type 0 where
  pub blocks : All (λ b. length b ≡ 512) f.blocks
  pub attr : length f.attr ≡ 32

-- a name as a file's: five words
abbrev pub IsFiveWords : List ℕ → Type 0
IsFiveWords name = length name ≡ 5

-- where a lag of Enter shows a directory's end moved, the record stands there: the end is never the first to move
abbrev pub EndComesLast : Type 0
EndComesLast =
    (t s : Store) (task : ℕ) (caller : Uic) (d : FileId) (name : List ℕ) (id : FileId) (block : List ℕ) (f : File) →
    IsWhole (file_named s d) → IsFiveWords name → s.file d.number ≡ Some (file_named s d) →
    index_of_empty (file_named s d) ≡ None → t.file d.number ≡ Some f → f.attr ≢ (file_named s d).attr →
    Lags t s task caller (request.Enter d name id) block →
    record_at f.blocks (entry_count (file_named s d)) ≡ record_bytes id name

-- Find's answer is this identification, or a refusal, but not for want of the name
abbrev pub IsFound : FileId → Result Reply Refusal → Type 0
IsFound id (Ok a) = a ≡ reply.Found id
IsFound id (Err e) = e ≢ NoSuchEntry

-- a name that was entered is found, whoever looks for it
abbrev pub EnteredIsFound : Type 0
EnteredIsFound =
    (s : Store) (task : ℕ) (caller : Uic) (d : FileId) (name : List ℕ) (id : FileId) (block : List ℕ) (a : Reply) (s' : Store)
    (block' : List ℕ)
    (other : ℕ) (reader : Uic) (before : List ℕ) (result : Result Reply Refusal) (s'' : Store) (after : List ℕ) →
    IsWhole (file_named s d) → IsFiveWords name →
    Step s task caller (request.Enter d name id) block (Ok a) s' block' →
    Step s' other reader (request.Find d name) before result s'' after → IsFound id result

-- where a name could be removed, it can't be entered
abbrev pub StandingIsDuplicate : Type 0
StandingIsDuplicate =
    (s : Store) (task : ℕ) (caller : Uic) (d : FileId) (name : List ℕ) (id : FileId) →
    first_refusal s task caller (request.Remove d name) ≡ None → is_bad id ≡ false →
    first_refusal s task caller (request.Enter d name id) ≡ Some DuplicateName

-- a name that was removed leaves an empty record in its first place, and every other record as it was
abbrev pub RemovedIsEmpty : Type 0
RemovedIsEmpty =
    (s : Store) (task : ℕ) (caller : Uic) (d : FileId) (name block : List ℕ) (a : Reply) (s' : Store) (block' : List ℕ) (i : ℕ) →
    IsWhole (file_named s d) → Step s task caller (request.Remove d name) block (Ok a) s' block' →
    index_of_name name (file_named s d) ≡ Some i →
    (entry_count (file_named s' d) ≡ entry_count (file_named s d)) × (record_at (file_named s' d).blocks i ≡ empty_record)
    × ((j : ℕ) → j ≢ i → record_at (file_named s' d).blocks j ≡ record_at (file_named s d).blocks j)

-- Find's answer where the record at place i is gone: the first record with the name, which stands behind
-- that place; or a refusal, and no record has the name if that is what it says
abbrev pub IsFoundElsewhere : ℕ → List ℕ → File → Result Reply Refusal → Type 0
IsFoundElsewhere i name f (Ok a) = (j : ℕ) × (i < j) × (index_of_name name f ≡ Some j) ×
    (a ≡ reply.Found (record_id (record_at f.blocks j)))
IsFoundElsewhere i name f (Err e) = e ≡ NoSuchEntry → index_of_name name f ≡ None

-- a name that was removed is found in another record, whoever looks for it, or not at all
abbrev pub RemovedThenFound : Type 0
RemovedThenFound =
    (s : Store) (task : ℕ) (caller : Uic) (d : FileId) (name block : List ℕ) (a : Reply) (s' : Store) (block' : List ℕ) (i : ℕ)
    (other : ℕ) (reader : Uic) (before : List ℕ) (result : Result Reply Refusal) (s'' : Store) (after : List ℕ) →
    IsWhole (file_named s d) → Step s task caller (request.Remove d name) block (Ok a) s' block' →
    index_of_name name (file_named s d) ≡ Some i →
    Step s' other reader (request.Find d name) before result s'' after → IsFoundElsewhere i name (file_named s' d) result
