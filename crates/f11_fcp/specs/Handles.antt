-- What handling a request tells, of a volume that no earlier request has failed (profile).
use Rattle.std.specs.Prelude.{◌≡◌, ℕ, ◌==◌, ◌++◌, Bool, true, false, IsTrue, List, [], ◌∷◌, Result, Ok, Err}
use Rattle.f11_dev.specs.Disk.{Disk}
use Rattle.f11_dev.specs.Image.{Image}
use Rattle.f11_dev.specs.declared.device.Device.{Ghosts}
use Rattle.f11_home.specs.Home.{HomeFields}
use Rattle.f11_store.specs.Causes.{Cause, ◌⇐◌, causes_of, extend_causes}
use Rattle.f11_store.specs.Cost.{cost}
use Rattle.f11_store.specs.Lags.{Lags}
use Rattle.f11_store.specs.Refusal.{refusal_number}
use Rattle.f11_store.specs.Step.{Step}
use Rattle.f11_store.specs.Store.{Store, file_named}
use Rattle.f11_store.specs.declared.callers.Uic.{Uic}
use Rattle.f11_store.specs.declared.refusals.Refusal.{Refusal}
use Rattle.f11_store.specs.declared.refusals.Refusal.TheVariants as refusal
use Rattle.f11_store.specs.declared.refusals.Refusal.TheVariants.{NoMemory, NoRun}
use Rattle.f11_store.specs.declared.requests.Reply.{Reply}
use Rattle.f11_store.specs.declared.requests.Request.{Request}
use Rattle.f11_store.specs.declared.requests.Request.TheVariants as request
use Rattle.f11_files.specs.volume.Sound.{HasSoundVolume}
use Rattle.f11_files.specs.Answers.{WritesAtMost, is_among, is_cause, is_fatal, is_clean, is_refused, faults_of}
use Rattle.f11_files.specs.Open.{disk_in, home_in, counts_in, has_failed, is_honest, store_in}
use Rattle.f11_files.specs.image_store.StoreOf.{store_of}
use Rattle.f11_files.specs.declared.files.Files.{Files}
use Rattle.f11_fcp.specs.Accesses.{AccessTable, held_in, HasAccessed}
use Rattle.f11_fcp.specs.Windows.{HasWindows}

-- what contracts know of an open volume: its disk, its home block, what tasks hold, and the counts that are told
pub record State : Type 0 where
  pub disk : Disk
  pub home : HomeFields
  pub table : AccessTable
  pub counts : ℕ × ℕ × ℕ

-- its store
abbrev pub store_at : State → Store
store_at v = held_in v.table (store_of v.disk.image v.home)

-- the state of files that are open, and of what tasks hold
abbrev pub state_of : {D : Type 0} {met : Ghosts D} → AccessTable → Files D met → State
state_of t files = record { disk = disk_in files; home = home_in files; table = t; counts = counts_in files }

-- An image that stands while a request is handled: its volume is sound, and its store, without accesses, lags the one before.
pub record Stands (task : ℕ) (caller : Uic) (r : Request) (block : List ℕ) (old : State) (image : Image) : Type 0 where
  pub sound : HasSoundVolume image old.home
  pub lags : Lags (store_of image old.home) (store_at old) task caller r block

-- that of an honest disk
abbrev pub WhileServing : ℕ → Uic → Request → List ℕ → State → Image → Type 0
WhileServing task caller r block old image = IsTrue old.disk.honest → Stands task caller r block old image

-- how many transfers failed where this is the answer
abbrev pub faults_in : Result Reply Refusal → ℕ
faults_in (Ok reply) = 0
faults_in (Err e) = faults_of e

-- an earlier request had failed the volume
abbrev pub is_failed : Refusal → Bool
is_failed e = refusal_number e == 1

-- a structural fault was met
abbrev pub is_damage : Refusal → Bool
is_damage e = refusal_number e == 20

-- want of memory
abbrev pub memory_cause : List Cause
memory_cause = (NoMemory ⇐ true) ∷ []

-- no run of free blocks
abbrev pub run_cause : List Cause
run_cause = (NoRun ⇐ true) ∷ []

-- what may be answered for a cause: the request's own causes, for Enter those against one block more of the directory too, want of memory
-- where the index file grows or may grow first, and that of a run where one is asked for
abbrev pub own_causes : Store → ℕ → Uic → Request → List Cause
own_causes s task caller (request.Create word ident attr) = causes_of s task caller (request.Create word ident attr) ++ memory_cause
own_causes s task caller (request.Extend lun n) = causes_of s task caller (request.Extend lun n) ++ memory_cause
own_causes s task caller (request.Enter d name id) =
    causes_of s task caller (request.Enter d name id) ++ (extend_causes s (file_named s d) 1 ++ memory_cause)
own_causes s task caller (request.GrowIndex n) = causes_of s task caller (request.GrowIndex n) ++ memory_cause
own_causes s task caller (request.Contiguous lun n) = causes_of s task caller (request.Contiguous lun n) ++ run_cause
own_causes s task caller r = causes_of s task caller r

-- No block was written.
pub record IsUnwritten (old new : Disk) : Type 0 where
  pub image : new.image ≡ old.image
  pub history : new.history ≡ old.history

-- Nothing was changed: no block was written, and what tasks hold, the counts, and the block that was lent are as they were.
pub record IsLeft (old : State) (block : List ℕ) (new : State) (block' : List ℕ) : Type 0 where
  pub unwritten : IsUnwritten old.disk new.disk
  pub table : new.table ≡ old.table
  pub counts : new.counts ≡ old.counts
  pub lent : block' ≡ block

-- A request was handled. On an honest disk it was a step of the plain store, and no structural fault was met; each image that stood
-- meanwhile is sound, and lags. Its transfers are within its cost, and of them none failed but where that is the answer. A refusal for
-- a cause is for one of the request's own, and leaves all, at each moment.
pub record Handles (task : ℕ) (caller : Uic) (r : Request) (result : Result Reply Refusal) (old : State)
    (block : List ℕ) (new : State) (block' : List ℕ) : Type 0 where
  pub step : IsTrue old.disk.honest → is_refused is_fatal result ≡ false →
      Step (store_at old) task caller r block result (store_at new) block'
  pub undamaged : IsTrue old.disk.honest → is_refused is_damage result ≡ false
  pub writes : WritesAtMost (WhileServing task caller r block old) (cost (store_at old) task r) old.disk new.disk (faults_in result)
  pub left : is_refused is_clean result ≡ true → IsLeft old block new block'
  pub among : is_refused is_cause result ≡ true → is_refused (is_among (own_causes (store_at old) task caller r)) result ≡ true
  pub unfailed : is_refused is_failed result ≡ false
  pub home : new.home ≡ old.home

-- Files are open, and what is kept of accesses is right, their windows too.
pub record IsOpen {D : Type 0} {met : Ghosts D} (t : AccessTable) (files : Files D met) : Type 0 where
  pub alive : has_failed files ≡ false
  pub kept : is_honest files → HasAccessed t (store_in files)
  pub windows : HasWindows t files

-- and so they are after a request, unless that has failed the volume
abbrev pub StaysOpen : {D : Type 0} {met : Ghosts D} → Result Reply Refusal → AccessTable → Files D met → Type 0
StaysOpen result t files = is_refused is_fatal result ≡ false → IsOpen t files

-- what a refusal of a call on a file that is accessed is: none has lost it but a disk that isn't honest
abbrev pub of_accessed : Refusal → Refusal
of_accessed refusal.NoSuchFile = refusal.Damaged
of_accessed e = e

-- and of one that asks for no more than what is known to be there: none has lost it, or a block of it, but a disk that isn't honest
abbrev pub of_known : Refusal → Refusal
of_known refusal.NoSuchFile = refusal.Damaged
of_known refusal.EndOfFile = refusal.Damaged
of_known e = e
