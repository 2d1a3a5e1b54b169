-- What serving a request tells (profile).
use Rattle.std.specs.Prelude.{◌≡◌, ℕ, ◌||◌, Bool, true, false, IsTrue, List, Result, IsErrOf}
use Rattle.f11_dev.specs.declared.device.Device.{Ghosts}
use Rattle.f11_store.specs.declared.callers.Uic.{Uic}
use Rattle.f11_store.specs.declared.refusals.Refusal.{Refusal}
use Rattle.f11_store.specs.declared.refusals.Refusal.TheVariants.{VolumeFailed}
use Rattle.f11_store.specs.declared.requests.Reply.{Reply}
use Rattle.f11_store.specs.declared.requests.Request.{Request}
use Rattle.f11_store.specs.declared.requests.Request.TheVariants as request
use Rattle.f11_files.specs.Answers.{is_fatal, is_refused}
use Rattle.f11_files.specs.Open as files
use Rattle.f11_files.specs.volume.Verdict.{IsAccepted}
use Rattle.f11_files.specs.writes.Lost.{SparesLost}
use Rattle.f11_fcp.specs.Handles.{State, state_of, Handles, IsUnwritten}
use Rattle.f11_fcp.specs.InOneRun.{InOneRun}
use Rattle.f11_fcp.specs.Places.{access_table_of}
use Rattle.f11_fcp.specs.declared.volume.Volume.{Volume}

-- the request that fills the block that is lent
abbrev pub fills_block : Request → Bool
fills_block (request.ReadBlock _ _) = true
fills_block _ = false

-- one that changes no block: it reads a block, what a header says, the counts, or a directory
abbrev pub only_reads : Request → Bool
only_reads (request.ReadBlock _ _) = true
only_reads (request.ReadAttr _) = true
only_reads request.Space = true
only_reads (request.Find _ _) = true
only_reads _ = false

-- what contracts know of a volume
abbrev pub state_in : {D : Type 0} {met : Ghosts D} → Volume D met → State
state_in v = state_of (access_table_of v.accesses) v.files

-- the device
abbrev pub device_in : {D : Type 0} {met : Ghosts D} → Volume D met → D
device_in v = files.device_in v.files

-- Where the disk is honest its image has no fault.
abbrev pub StaysAccepted : State → Type 0
StaysAccepted v = IsTrue v.disk.honest → IsAccepted v.disk.image

-- whether a request was answered DeviceFault or Damaged
abbrev pub is_spent : {D : Type 0} {met : Ghosts D} → Volume D met → Bool
is_spent v = files.has_failed v.files

-- Requests spare the lost blocks of a volume: what was lost before them is as it was, and lost still unless one has failed the volume.
-- Blocks are written in order.
abbrev pub RequestsSpareLost : {D : Type 0} {met : Ghosts D} → Volume D met → Volume D met → Type 0
RequestsSpareLost old new = SparesLost (is_spent old) (is_spent new) (state_in old).disk (state_in new).disk

-- A request was served. Once one has failed the volume each is refused as VolumeFailed, and nothing is done; before that it is handled. It
-- fails the volume where it answers DeviceFault or Damaged, and no other way. Where it asks for blocks in one run, these lie in the image
-- as it asks. Blocks are written in order, and none is another that was lost before, whatever is answered; by a request that only reads
-- none is written. The block that is lent is changed by ReadBlock alone.
pub record Serving {D : Type 0} {met : Ghosts D} (task : ℕ) (caller : Uic) (r : Request)
    (result : Result Reply Refusal) (old new : Volume D met) (block block' : List ℕ) : Type 0 where
  pub refused : is_spent old ≡ true → IsErrOf result VolumeFailed
  pub untouched : is_spent old ≡ true → (state_in new ≡ state_in old) × (block' ≡ block)
  pub handled : is_spent old ≡ false → Handles task caller r result (state_in old) block (state_in new) block'
  pub in_run : is_spent old ≡ false → InOneRun task caller r result (state_in old) (state_in new)
  pub lost : RequestsSpareLost old new
  pub unwritten : only_reads r ≡ true → IsUnwritten (state_in old).disk (state_in new).disk
  pub spared : fills_block r ≡ false → block' ≡ block
  pub next : is_spent new ≡ (is_spent old || is_refused is_fatal result)
