-- What an access in mode Locked is worth: what it reads is the content as it was when the access was answered (profile).
use Rattle.std.specs.Prelude.{◌≡◌, ℕ, ◌<◌, ◌≤◌, ◌-◌, ◌==◌, ◌&&◌, Bool, true, false, List, [], ◌∷◌, ◌++◌}
use Rattle.std.specs.Prelude.{All, Some, Result, Ok, Err, length, slice_index_or}
use Rattle.f11_store.specs.declared.files.FileId.{FileId}
use Rattle.f11_store.specs.declared.files.Mode.TheVariants as mode
use Rattle.f11_store.specs.declared.refusals.Refusal.{Refusal}
use Rattle.f11_store.specs.declared.refusals.Refusal.TheVariants.{EndOfFile}
use Rattle.f11_store.specs.declared.requests.Reply.{Reply}
use Rattle.f11_store.specs.declared.requests.Reply.TheVariants as reply
use Rattle.f11_store.specs.declared.requests.Request.{Request}
use Rattle.f11_store.specs.declared.requests.Request.TheVariants as request
use Rattle.f11_store.specs.Causes.{is_missing}
use Rattle.f11_store.specs.Run.{Call, Answer, Run}
use Rattle.f11_store.specs.Store.{Store, file_named, is_held, bars}

-- The task holds by the lun an access in mode Locked to the file, whose blocks are these, and nobody holds one to write it.
pub record IsLocked (s : Store) (task lun : ℕ) (id : FileId) (blocks : List (List ℕ)) : Type 0 where
  pub holds : s.access task lun ≡ Some (record { file = id; mode = mode.Locked })
  pub own : 4 ≤ id.number
  pub alone : is_held (bars mode.Locked) s id ≡ false
  pub there : is_missing s id ≡ false
  pub blocks_are : (file_named s id).blocks ≡ blocks

-- the request gives up what its task holds by the lun
abbrev pub gives_up : ℕ → Request → Bool
gives_up lun (request.Deaccess l) = l == lun
gives_up lun request.Release = true
gives_up lun _ = false

-- the call ends what the task holds by the lun
abbrev pub ends : ℕ → ℕ → Call → Bool
ends task lun c = (c.task == task) && gives_up lun c.request

-- what reading a VBN of these blocks gives: the block, or EndOfFile exactly past their end
abbrev pub IsReadOf : List (List ℕ) → ℕ → Result Reply Refusal → List ℕ → Type 0
IsReadOf blocks vbn (Ok a) block = (vbn ≤ length blocks) × (a ≡ reply.Done) × (block ≡ slice_index_or blocks (vbn - 1) [])
IsReadOf blocks vbn (Err e) block = (length blocks < vbn) × (e ≡ EndOfFile)

-- Among the calls is an Access in mode Locked that was answered Done, and behind it a ReadBlock of the same task and lun of a
-- VBN above 0; between the two no Deaccess of that lun and no Release of that task ends the access.
pub record ReadsLocked (calls : List Call) (answers : List Answer) : Type 0 where
  pub before : List Call
  pub access : Call
  pub between : List Call
  pub read : Call
  pub after : List Call
  pub calls_are : calls ≡ before ++ access ∷ (between ++ read ∷ after)
  -- the answers to these
  pub told : List Answer
  pub granted : Answer
  pub meanwhile : List Answer
  pub given : Answer
  pub rest : List Answer
  pub answers_are : answers ≡ told ++ granted ∷ (meanwhile ++ given ∷ rest)
  pub as_many : length told ≡ length before
  pub as_many_between : length meanwhile ≡ length between
  -- what is asked
  pub id : FileId
  pub lun : ℕ
  pub vbn : ℕ
  pub locks : access.request ≡ request.Access id mode.Locked lun
  pub done : granted.result ≡ Ok reply.Done
  pub goes_on : All (λ c. ends access.task lun c ≡ false) between
  pub task : read.task ≡ access.task
  pub reads : read.request ≡ request.ReadBlock lun vbn
  pub some : 0 < vbn

-- Each such read gives the block of the content as it was before the access was answered, and EndOfFile exactly past its
-- length, whatever all tasks asked between: the store before it is one that the first calls lead to, and the others on from.
abbrev pub LocksHold : Store → List Call → List Answer → Store → Type 0
LocksHold s calls answers s' =
    (r : ReadsLocked calls answers) →
    (before : Store) × (Run s r.before r.told before)
    × (Run before (r.access ∷ (r.between ++ r.read ∷ r.after)) (r.granted ∷ (r.meanwhile ++ r.given ∷ r.rest)) s')
    × (IsReadOf (file_named before r.id).blocks r.vbn r.given.result r.given.block)
