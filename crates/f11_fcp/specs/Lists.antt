-- What serving a list of requests tells (profile).
use Rattle.std.specs.Prelude.{
  ◌≡◌,
  ℕ,
  ◌+◌,
  ◌≤◌,
  ◌&&◌,
  not,
  Bool,
  true,
  IsTrue,
  if◌then◌else◌,
  List,
  [],
  ◌∷◌,
  map,
  Option,
  Some,
  None,
  IsSome,
  Result,
}
use Rattle.f11_dev.specs.declared.device.Device.{Ghosts}
use Rattle.f11_runs.specs.Each.{EachCosts, answer_with, call_with}
use Rattle.f11_runs.specs.Locked.{LocksHold}
use Rattle.f11_runs.specs.Standing.{IsTasks}
use Rattle.f11_store.specs.Cost.{cost}
use Rattle.f11_store.specs.Run.{Answer, Call, Run}
use Rattle.f11_store.specs.Store.{Store}
use Rattle.f11_store.specs.declared.refusals.Refusal.{Refusal}
use Rattle.f11_store.specs.declared.requests.Reply.{Reply}
use Rattle.f11_fcp.specs.ByWindow.{ServesWithWindows}
use Rattle.f11_fcp.specs.Handles.{store_at}
use Rattle.f11_fcp.specs.Serving.{Serving, StaysAccepted, is_spent, state_in}
use Rattle.f11_fcp.specs.declared.call.Call.{Call as Listed}
use Rattle.f11_fcp.specs.declared.volume.Volume.{Volume}

-- what a call of a list asks, with the caller's block
abbrev pub asked_of : Listed → Call
asked_of c = call_with c.task c.uic c.request c.block

-- what it was answered, with the block then, before the answers to others
abbrev pub answer_and : List ℕ → Option (Result Reply Refusal) → List Answer → List Answer
answer_and block None rest = rest
answer_and block (Some result) rest = answer_with result block ∷ rest

-- what a list asks, and what it was answered
abbrev pub asked_in : List Listed → List Call
asked_in calls = map asked_of calls

abbrev pub answers_in : List Listed → List Answer
answers_in [] = []
answers_in (c ∷ rest) = answer_and c.block c.answer (answers_in rest)

-- A call asks what it asked, and has an answer.
pub record HasAnswer (old new : Listed) : Type 0 where
  pub task : new.task ≡ old.task
  pub uic : new.uic ≡ old.uic
  pub request : new.request ≡ old.request
  pub answer : IsSome new.answer

-- So does each call of a list.
abbrev pub AreAnswered : List Listed → List Listed → Type 0
AreAnswered [] [] = Unit {0}
AreAnswered (c ∷ old) (d ∷ new) = HasAnswer c d × AreAnswered old new
AreAnswered [] (d ∷ new) = ⊥
AreAnswered (c ∷ old) [] = ⊥

-- A call was served, as each request is, and so are windows; where the disk is honest its image has no fault then.
pub record ServesCall {D : Type 0} {met : Ghosts D} (old : Volume D met) (c : Call) (a : Answer) (new : Volume D met) : Type 0 where
  pub serving : Serving c.task c.caller c.request a.result old new c.block a.block
  pub accepted : StaysAccepted (state_in new)
  pub windows : ServesWithWindows c.task c.request a.result old new

-- A call of a list was served, and has its answer.
pub record IsServed {D : Type 0} {met : Ghosts D} (old : Volume D met) (c d : Listed) (new : Volume D met) : Type 0 where
  pub has : HasAnswer c d
  pub result : Result Reply Refusal
  pub answer_is : d.answer ≡ Some result
  pub serves : ServesCall old (asked_of c) (answer_with result d.block) new
  pub tasks : IsTasks (asked_of c)

-- the disk is honest, and no request has failed the volume
abbrev pub is_sound : {D : Type 0} {met : Ghosts D} → Volume D met → Bool
is_sound v = (state_in v).disk.honest && not (is_spent v)

-- how many transfers have failed, and how many were made
abbrev pub failures_of : {D : Type 0} {met : Ghosts D} → Volume D met → ℕ
failures_of v = (state_in v).disk.failures

abbrev pub transfers_of : {D : Type 0} {met : Ghosts D} → Volume D met → ℕ
transfers_of v = (state_in v).disk.transfers

-- the volume's store, with what tasks hold
abbrev pub store_of_volume : {D : Type 0} {met : Ghosts D} → Volume D met → Store
store_of_volume v = store_at (state_in v)

-- where the volume is sound, and no transfer fails from the first call to the last
abbrev pub WhileSound : {D : Type 0} {met : Ghosts D} → Volume D met → Volume D met → Type 0 → Type 0
WhileSound old new Holds = is_sound old ≡ true → failures_of new ≡ failures_of old → Holds

-- there the list is a run of the plain store,
abbrev pub ServesRun : {D : Type 0} {met : Ghosts D} → Volume D met → List Call → List Answer → Volume D met → Type 0
ServesRun old calls answers new = WhileSound old new (Run (store_of_volume old) calls answers (store_of_volume new))

-- and each read by an access in mode Locked gives the content as it was when the access was answered
abbrev pub KeepsLocks : {D : Type 0} {met : Ghosts D} → Volume D met → List Call → List Answer → Volume D met → Type 0
KeepsLocks old calls answers new = WhileSound old new (LocksHold (store_of_volume old) calls answers (store_of_volume new))

-- what a call may cost in transfers: none once a request has failed the volume
abbrev pub cost_of : {D : Type 0} {met : Ghosts D} → Volume D met → Call → ℕ
cost_of v c = if is_spent v then 0 else cost (store_of_volume v) c.task c.request

-- On an honest disk the transfers of a list are no more than its calls may cost in all.
pub record KeepsCosts {D : Type 0} {met : Ghosts D} (old : Volume D met) (calls : List Call) (answers : List Answer)
    (new : Volume D met) : Type 0 where
  pub most : ℕ
  pub costs : EachCosts ServesCall cost_of old calls answers new most
  pub few : IsTrue (state_in old).disk.honest → transfers_of new ≤ transfers_of old + most
