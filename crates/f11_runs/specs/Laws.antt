-- Laws of whole lists of requests (profile).
use Rattle.std.specs.Prelude.{◌≡◌, ℕ, ◌<◌, Bool, true, false, List, [], ◌∷◌, ◌++◌, All, None, Result, Ok, length}
use Rattle.f11_store.specs.declared.callers.Uic.{Uic}
use Rattle.f11_store.specs.declared.files.FileId.{FileId}
use Rattle.f11_store.specs.declared.files.Mode.TheVariants as mode
use Rattle.f11_store.specs.declared.refusals.Refusal.{Refusal}
use Rattle.f11_store.specs.declared.requests.Reply.{Reply}
use Rattle.f11_store.specs.declared.requests.Reply.TheVariants as reply
use Rattle.f11_store.specs.declared.requests.Request.TheVariants as request
use Rattle.f11_store.specs.Accesses.{FreeIsEmpty}
use Rattle.f11_store.specs.Run.{Call, Answer, Run}
use Rattle.f11_store.specs.Step.{Step}
use Rattle.f11_store.specs.Store.{Store, file_named}
use Rattle.f11_runs.specs.Each.{Each, Steps, Within}
use Rattle.f11_runs.specs.Locked.{IsLocked, IsReadOf, LocksHold, ends}
use Rattle.f11_runs.specs.Standing.{AccessesStand, HoldApart, IsStanding, TidyRun, IsTasks}

-- an empty list changes nothing
abbrev pub EmptyChangesNothing : Type 0
EmptyChangesNothing = (s s' : Store) → Run s [] [] s' → s' ≡ s

-- each call is answered once
abbrev pub EachIsAnswered : Type 0
EachIsAnswered = (s s' : Store) (calls : List Call) (answers : List Answer) → Run s calls answers s' → length answers ≡ length calls

-- two lists that were run one after the other are one that was run
abbrev pub TwoAreOne : Type 0
TwoAreOne =
    (s t s' : Store) (calls more : List Call) (answers others : List Answer) →
    Run s calls answers t → Run t more others s' → Run s (calls ++ more) (answers ++ others) s'

-- and a list that was run is two that were run one after the other, wherever it is parted
abbrev pub OneIsTwo : Type 0
OneIsTwo =
    (s s' : Store) (calls more : List Call) (answers others : List Answer) → length answers ≡ length calls →
    Run s (calls ++ more) (answers ++ others) s' → (t : Store) × (Run s calls answers t) × (Run t more others s')

-- a step behind a run is a run of one call more
abbrev pub OneMoreRuns : Type 0
OneMoreRuns =
    (s t s' : Store) (calls : List Call) (c : Call) (answers : List Answer) (a : Answer) →
    Run s calls answers t → Steps t c a s' → Run s (calls ++ c ∷ []) (answers ++ a ∷ []) s'

-- and a run of one call more is a run and a step behind it
abbrev pub LastIsStep : Type 0
LastIsStep =
    (s s' : Store) (calls : List Call) (c : Call) (answers : List Answer) (a : Answer) →
    Run s (calls ++ c ∷ []) (answers ++ a ∷ []) s' → (t : Store) × (Run s calls answers t) × (Steps t c a s')

-- a run is steps, each from where the one before it came to
abbrev pub RunIsSteps : Type 0
RunIsSteps = (s s' : Store) (calls : List Call) (answers : List Answer) → Run s calls answers s' → Each Steps s calls answers s'

-- and such steps are a run
abbrev pub StepsAreRun : Type 0
StepsAreRun = (s s' : Store) (calls : List Call) (answers : List Answer) → Each Steps s calls answers s' → Run s calls answers s'

-- what holds of a store and is kept by each step holds of every store on the way, the last one too
abbrev pub KeptAlong : Type 0
KeptAlong =
    (holds : Store → Bool) (s s' : Store) (calls : List Call) (answers : List Answer) →
    ((t u : Store) (c : Call) (a : Answer) → holds t ≡ true → Steps t c a u → holds u ≡ true) →
    holds s ≡ true → Run s calls answers s' → Each (Within (λ t. holds t ≡ true) Steps) s calls answers s' × (holds s' ≡ true)

-- a store that stands does so after each step, whatever a task asks
abbrev pub StepStands : Type 0
StepStands = (s s' : Store) (c : Call) (a : Answer) → IsStanding s → Steps s c a s' → IsStanding s'

-- and at every store on the way of a list, the last one too
abbrev pub RunStands : Type 0
RunStands =
    (s s' : Store) (calls : List Call) (answers : List Answer) → IsStanding s → Run s calls answers s' →
    Each (Within IsStanding Steps) s calls answers s' × IsStanding s'

-- where nobody holds an access, a store stands if its files hold their slots apart
abbrev pub UnaccessedStands : Type 0
UnaccessedStands = (s : Store) → HoldApart s → ((task lun : ℕ) → s.access task lun ≡ None) → IsStanding s

-- no file is then in a slot that isn't in use
abbrev pub StandingIsEmpty : Type 0
StandingIsEmpty = (s : Store) → IsStanding s → FreeIsEmpty s

-- nor is one at any store on the way
abbrev pub StandingRunIsTidy : Type 0
StandingRunIsTidy = (s s' : Store) (calls : List Call) (answers : List Answer) → IsStanding s → Run s calls answers s' →
    TidyRun s calls answers s'

-- and where that is so, accesses are to files that are there all the way
abbrev pub AccessesStay : Type 0
AccessesStay =
    (s s' : Store) (calls : List Call) (answers : List Answer) → AccessesStand s → TidyRun s calls answers s' → AccessesStand s'

-- an access in mode Locked that is answered Done locks the file as it is
abbrev pub LockedBegins : Type 0
LockedBegins =
    (s s' : Store) (task lun : ℕ) (caller : Uic) (id : FileId) (block block' : List ℕ) (a : Reply) → task < 8 → lun < 4 →
    Step s task caller (request.Access id mode.Locked lun) block (Ok a) s' block' → IsLocked s' task lun id (file_named s id).blocks

-- a file that is locked stays so, with its blocks, through calls of which none ends the access
abbrev pub LockedStays : Type 0
LockedStays =
    (s s' : Store) (task lun : ℕ) (id : FileId) (blocks : List (List ℕ)) (calls : List Call) (answers : List Answer) → task < 8 → lun < 4 →
    AccessesStand s → All IsTasks calls → All (λ c. ends task lun c ≡ false) calls →
    IsLocked s task lun id blocks → TidyRun s calls answers s' → IsLocked s' task lun id blocks

-- what is read of a file that is locked is what its blocks are, and EndOfFile exactly past them
abbrev pub LockedIsRead : Type 0
LockedIsRead =
    (s s' : Store) (task lun : ℕ) (id : FileId) (blocks : List (List ℕ)) (caller : Uic) (vbn : ℕ) (block block' : List ℕ)
    (result : Result Reply Refusal) →
    IsLocked s task lun id blocks → 0 < vbn → Step s task caller (request.ReadBlock lun vbn) block result s' block' →
    IsReadOf blocks vbn result block'

-- what ends a locked access is never refused
abbrev pub EndIsServed : Type 0
EndIsServed =
    (s s' : Store) (task lun : ℕ) (id : FileId) (blocks : List (List ℕ)) (c : Call) (a : Answer) →
    IsLocked s task lun id blocks → ends task lun c ≡ true → Steps s c a s' → a.result ≡ Ok reply.Done

-- Where accesses stand an access in mode Locked was answered Done, then calls of which none ends it, then a ReadBlock of a
-- VBN above 0 by its task and lun: it gives the block of the content as it was before the access, and EndOfFile exactly past it.
abbrev pub LockedReadIs : Type 0
LockedReadIs =
    (s t u v : Store) (access read : Call) (granted given : Answer) (between : List Call) (meanwhile : List Answer) (id : FileId)
    (lun vbn : ℕ) →
    FreeIsEmpty s → AccessesStand s → IsTasks access → All IsTasks between → access.request ≡ request.Access id mode.Locked lun →
    granted.result ≡ Ok reply.Done →
    All (λ c. ends access.task lun c ≡ false) between → read.task ≡ access.task → read.request ≡ request.ReadBlock lun vbn → 0 < vbn →
    Steps s access granted t → TidyRun t between meanwhile u → Steps u read given v →
    IsReadOf (file_named s id).blocks vbn given.result given.block

-- Whatever list is run, if accesses stand before it, and no file is ever in a slot that isn't in use: a read by a locked access
-- gives the content as it was when the access was answered.
abbrev pub TidyLocksHold : Type 0
TidyLocksHold =
    (s s' : Store) (calls : List Call) (answers : List Answer) →
    All IsTasks calls → AccessesStand s → TidyRun s calls answers s' → LocksHold s calls answers s'

-- So it is whatever list is run from a store that stands.
abbrev pub RunLocksHold : Type 0
RunLocksHold =
    (s s' : Store) (calls : List Call) (answers : List Answer) → All IsTasks calls → IsStanding s → Run s calls answers s' →
    LocksHold s calls answers s'
