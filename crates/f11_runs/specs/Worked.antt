-- Worked examples: a store that stands, and a list with reads by an access in mode Locked.
use Rattle.std.specs.Prelude.{◌≡◌, ℕ, List, [], ◌∷◌, Ok}
use Rattle.f11_store.specs.declared.files.Mode.TheVariants as mode
use Rattle.f11_store.specs.declared.refusals.Refusal.TheVariants as refusal
use Rattle.f11_store.specs.declared.requests.Request.TheVariants as request
use Rattle.f11_store.specs.declared.requests.Reply.TheVariants as reply
use Rattle.f11_store.specs.Run.{Call, Answer}
use Rattle.f11_store.specs.Worked.{small_volume, mfd_block, id, indexf, a_txt, asks, gets, no, reads, MayAnswer}
use Rattle.f11_runs.specs.Locked.{ReadsLocked}
use Rattle.f11_runs.specs.Standing.{IsStanding}

-- a fresh volume stands
abbrev pub SmallStands : Type 0
SmallStands = IsStanding small_volume

-- Task 1 locks the master file directory by lun 0. Nobody gets an access to write it, no name is entered or removed, and by
-- another lun of task 1 it is read and given up: its one block is read as it was, and past it there is none. When task 1
-- releases what it holds, the name goes.
abbrev pub locked_calls : List Call
locked_calls =
    asks 0 request.Release ∷ asks 1 (request.Access (id 4 4) mode.Locked 0) ∷ asks 2 (request.Access (id 4 4) mode.Write 0)
    ∷ asks 0 (request.Enter (id 4 4) a_txt (id 6 1)) ∷ asks 0 (request.Remove (id 4 4) indexf) ∷ asks 1
    (request.Access (id 4 4) mode.Locked 1)
    ∷ asks 1 (request.Deaccess 1) ∷ asks 2 request.Release ∷ reads 1 0 1 ∷ reads 1 0 2 ∷ asks 1 request.Release
    ∷ asks 0 (request.Remove (id 4 4) indexf) ∷ []

abbrev pub locked_answers : List Answer
locked_answers =
    gets reply.Done ∷ gets reply.Done ∷ no refusal.Conflict
    ∷ no refusal.Conflict ∷ no refusal.Conflict ∷ gets reply.Done
    ∷ gets reply.Done ∷ gets reply.Done ∷ record { result = Ok reply.Done; block = mfd_block } ∷ no refusal.EndOfFile ∷ gets reply.Done
    ∷ gets reply.Done ∷ []

abbrev pub LockedIsAnswered : Type 0
LockedIsAnswered = MayAnswer small_volume locked_calls locked_answers

-- a read of this VBN by a locked access is among them
abbrev pub IsReadLocked : ℕ → Type 0
IsReadLocked vbn = (r : ReadsLocked locked_calls locked_answers) × (r.vbn ≡ vbn)

-- both are
abbrev pub BothAreLocked : Type 0
BothAreLocked = IsReadLocked 1 × IsReadLocked 2
