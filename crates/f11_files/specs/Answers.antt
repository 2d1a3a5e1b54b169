-- What the answer of a call on files tells, whatever the call (profile).
use Rattle.std.specs.Prelude.{◌≡◌, ◌≢◌, ℕ, ◌+◌, ◌≤◌, ◌==◌, ◌&&◌, ◌||◌, Bool, true, false, not, nat_lt, IsTrue}
use Rattle.std.specs.Prelude.{if◌then◌else◌, List, [], Some, None, Result, Ok, Err}
use Rattle.std.specs.List.{list_any}
use Rattle.f11_chain.specs.FileHeaders.{file_blocks}
use Rattle.f11_chain.specs.declared.fault.ChainFault.{ChainFault}
use Rattle.f11_chain.specs.declared.fault.ChainFault.TheVariants as fault
use Rattle.f11_dev.specs.Disk.{Disk}
use Rattle.f11_dev.specs.Image.{Image}
use Rattle.f11_dev.specs.Looked.{Looked}
use Rattle.f11_dev.specs.Went.{Went}
use Rattle.f11_home.specs.Home.{HomeFields}
use Rattle.f11_index.specs.IndexFile.{index_of}
use Rattle.f11_index.specs.Table.{table_of}
use Rattle.f11_store.specs.Causes.{Cause, first_of, is_missing}
use Rattle.f11_store.specs.Changes.{is_in}
use Rattle.f11_store.specs.Lags.{Work, LagsBy, work_if}
use Rattle.f11_store.specs.Refusal.{refusal_number}
use Rattle.f11_store.specs.Pieces.{file_numbered}
use Rattle.f11_store.specs.Store.{file_named, Store}
use Rattle.f11_store.specs.declared.files.FileId.{FileId}
use Rattle.f11_store.specs.declared.refusals.Refusal.{Refusal}
use Rattle.f11_store.specs.declared.refusals.Refusal.TheVariants.{VolumeFailed, EndOfFile, NoMemory, DeviceFault, Damaged}
use Rattle.f11_volume.specs.Sound.{HasSoundVolume}
use Rattle.f11_volume.specs.Space.{storage_bitmap}
use Rattle.f11_volume.specs.Volume.{Volume, volume_of}
use Rattle.f11_image_store.specs.Allocation.{free_list, AddsZeroSlots}
use Rattle.f11_image_store.specs.Confines.{no_header, only_header, new_header, either}
use Rattle.f11_image_store.specs.StoreOf.{store_of}
use Rattle.f11_files.specs.Confined.{ConfinesInOrder}

-- DeviceFault and Damaged fail the volume
abbrev pub is_fatal : Refusal → Bool
is_fatal refusal = (refusal_number refusal == 19) || (refusal_number refusal == 20)

-- any other refusal leaves all as it was
abbrev pub is_clean : Refusal → Bool
is_clean refusal = not (is_fatal refusal)

-- a transfer failed
abbrev pub is_fault : Refusal → Bool
is_fault refusal = refusal_number refusal == 19

-- any other than these and VolumeFailed is that of a cause
abbrev pub is_cause : Refusal → Bool
is_cause refusal = nat_lt 1 (refusal_number refusal) && not (is_fatal refusal)

-- a refusal is that of one of these causes
abbrev pub is_among : List Cause → Refusal → Bool
is_among causes refusal = list_any (λ c. refusal_number c.refusal == refusal_number refusal) causes

-- what a test says of an answer's refusal, if it has one
abbrev pub is_refused : {T : Type 0} → (Refusal → Bool) → Result T Refusal → Bool
is_refused test (Ok x) = false
is_refused test (Err refusal) = test refusal

-- how many transfers failed where this is answered
abbrev pub faults_of : Refusal → ℕ
faults_of refusal = if is_fault refusal then 1 else 0

-- Blocks were read: no more than so many where the disk is honest. So many transfers failed.
pub record ReadsAtMost (most : ℕ) (old new : Disk) (faults : ℕ) : Type 0 where
  pub reads : ℕ
  pub looked : Looked old new reads faults
  pub few : IsTrue old.honest → reads ≤ most

-- At most so many transfers were made, whatever the disk answers.
abbrev pub MakesAtMost : ℕ → Disk → Disk → Type 0
MakesAtMost most old new = new.transfers ≤ old.transfers + most

-- Blocks were read and written: no more than so many where the disk is honest. So many transfers failed.
pub record WritesAtMost (P : Image → Type 0) (most : ℕ) (old new : Disk) (faults : ℕ) : Type 0 where
  pub transfers : ℕ
  pub went : Went P old new transfers faults
  pub few : IsTrue old.honest → transfers ≤ most

-- A refusal is right, where these are the causes against a call, on an honest disk or not, and an earlier call had failed the volume or
-- hadn't: it is that of one of the causes, and on an honest disk of the first that holds; or the volume had failed, or a transfer
-- did; and no honest disk is damaged.
pub record IsRight (failed honest : Bool) (causes : List Cause) (refusal : Refusal) : Type 0 where
  pub volume : refusal ≡ VolumeFailed → failed ≡ true
  pub among : is_cause refusal ≡ true → is_among causes refusal ≡ true
  pub cause : IsTrue honest → is_cause refusal ≡ true → first_of causes ≡ Some refusal
  pub undamaged : IsTrue honest → refusal ≢ Damaged

-- A part of a call broke off: a transfer failed, or on a disk that isn't honest something wasn't as it should be.
pub record Breaks (P : Image → Type 0) (most : ℕ) (refusal : Refusal) (old new : Disk) : Type 0 where
  pub fatal : is_fatal refusal ≡ true
  pub undamaged : IsTrue old.honest → refusal ≢ Damaged
  pub writes : WritesAtMost P most old new (faults_of refusal)

-- A call that only reads was refused.
pub record FailsToRead (failed : Bool) (causes : List Cause) (most : ℕ) (refusal : Refusal) (old new : Disk) : Type 0 where
  pub right : IsRight failed old.honest causes refusal
  pub reads : ReadsAtMost most old new (faults_of refusal)

-- An image that stands while work is done: its volume is sound, and its store lags the one before by the work.
pub record IsUnderWay (work : Work) (home : HomeFields) (old image : Image) : Type 0 where
  pub sound : HasSoundVolume image home
  pub lags : LagsBy work (store_of image home) (store_of old home)

-- that of an honest disk
abbrev pub Meanwhile : Work → HomeFields → Disk → Image → Type 0
Meanwhile work home old image = IsTrue old.honest → IsUnderWay work home old.image image

-- Which blocks are named and free is as `Allots` says; a slot that isn't in use holds what it held, or zeros where it came.
pub record KeepsUnused (Allots : Volume → Volume → Type 0) (old new : Volume) : Type 0 where
  pub allots : Allots old new
  pub slots : AddsZeroSlots old.table new.table

-- A call that writes was served: there was no cause against it; the store after it is as `Makes` says, and which blocks are named
-- and free is as `Allots` says.
pub record Does
    (causes : List Cause) (work : Work) (most : ℕ) (Makes : Store → Type 0) (Allots : Volume → Volume → Type 0) (home : HomeFields)
    (old new : Disk) : Type 0
  where
    pub no_cause : IsTrue old.honest → first_of causes ≡ None
    pub makes : IsTrue old.honest → Makes (store_of new.image home)
    pub allots : IsTrue old.honest → Allots (volume_of old.image home) (volume_of new.image home)
    pub writes : WritesAtMost (Meanwhile work home old) most old new 0

-- A call that writes was refused: unless it failed the volume, no block was written; where there was a cause against it, no work
-- was under way.
pub record FailsToWrite (failed : Bool) (causes : List Cause) (most : ℕ) (work : Work) (home : HomeFields) (refusal : Refusal)
    (old new : Disk) : Type 0 where
  pub right : IsRight failed old.honest causes refusal
  pub writes : WritesAtMost (Meanwhile (work_if (first_of causes) work) home old) most old new (faults_of refusal)
  pub unchanged : is_fatal refusal ≡ false → ReadsAtMost most old new 0

-- A call that writes, and may take memory, was refused, likewise; or memory was wanting: then there was no cause, and it takes some.
pub record FailsOrWants (takes : Bool) (failed : Bool) (causes : List Cause) (most : ℕ) (work : Work) (home : HomeFields)
    (refusal : Refusal) (old new : Disk) : Type 0 where
  pub right : refusal ≢ NoMemory → IsRight failed old.honest causes refusal
  pub wanting : refusal ≡ NoMemory → (failed ≡ false) × (IsTrue old.honest → (first_of causes ≡ None) × (takes ≡ true))
  pub writes : WritesAtMost (Meanwhile (work_if (first_of causes) work) home old) most old new (faults_of refusal)
  pub unchanged : is_fatal refusal ≡ false → ReadsAtMost most old new 0

-- Where the disk is honest, no block was changed but these headers, the index bitmap, the storage bitmap, and these: each image that stood
-- meanwhile spares all others. Each write was in order.
abbrev pub WritesOnly : (ℕ → Bool) → List ℕ → HomeFields → Disk → Disk → Type 0
WritesOnly headers others home old new =
    IsTrue old.honest → ConfinesInOrder headers (index_of old.image home) (storage_bitmap old.image home) others old new

-- of headers, the first one of file f alone
abbrev pub WritesFirstOf : FileId → HomeFields → Disk → Disk → Type 0
WritesFirstOf f home old new = WritesOnly (only_header f.number) [] home old new

-- of headers, those that file f holds, and none where there is no such file
abbrev pub WritesHeadersOf : FileId → HomeFields → Disk → Disk → Type 0
WritesHeadersOf f home old new = WritesOnly (is_in (file_named (store_of old.image home) f).held) [] home old new

-- of headers, those whose slots weren't in use
abbrev pub WritesNewHeaders : HomeFields → Disk → Disk → Type 0
WritesNewHeaders home old new = WritesOnly (new_header (index_of old.image home)) [] home old new

-- the blocks of file f: none where there is no such file
abbrev pub blocks_of : HomeFields → FileId → Image → List ℕ
blocks_of home f image = if is_missing (store_of image home) f then [] else file_blocks (table_of image home) f.number

-- no header, but blocks of file f
abbrev pub WritesBlocksOf : FileId → HomeFields → Disk → Disk → Type 0
WritesBlocksOf f home old new = WritesOnly no_header (blocks_of home f old.image) home old new

-- of headers, those that file f holds and those whose slots weren't in use; and blocks that were free
abbrev pub WritesMoreOf : ℕ → HomeFields → Disk → Disk → Type 0
WritesMoreOf f home old new =
    WritesOnly (either (is_in (file_numbered (store_of old.image home) f).held) (new_header (index_of old.image home)))
    (free_list (volume_of old.image home)) home
    old new

-- what a fault of a walk along a file's headers is to those who ask
abbrev pub refusal_for : ChainFault → Refusal
refusal_for fault.EndOfFile = EndOfFile
refusal_for fault.DeviceFault = DeviceFault
refusal_for fault.Damaged = Damaged
