-- What is asked by turns of a volume and of a source of blocks, each thing by what was answered before (profile).
use Rattle.std.specs.Prelude.{◌≡◌, Bool, true, false, if◌then◌else◌, List, ℕ, Option, Result, Ok, Err}
use Rattle.f11_store.specs.declared.refusals.Refusal.{Refusal}
use Rattle.f11_store.specs.declared.requests.Request.{Request}
use Rattle.f11_making.specs.files.Answers.{is_fatal}
use Rattle.f11_making.specs.Asking.{FilesService, Who}
use Rattle.f11_making.specs.FilesPlan.{AnswerOf, Asks, Question, done}
use Rattle.f11_making.specs.Plan.{Goes, Plan, and_then, asking, gives}
use Rattle.f11_copying.specs.declared.fault.CopyFault.{CopyFault}
use Rattle.f11_copying.specs.declared.fault.CopyFault.TheVariants.{Files, Unread}

-- what is asked: something of the volume, or the next block of the source
pub data Wanted : Type 0 where
  of_files : Question → Wanted
  next_block : Wanted

-- the source gives it, or has none that can be read
abbrev pub Answered : Wanted → Type 0
Answered (of_files q) = Result (AnswerOf q) Refusal
Answered next_block = Option (List ℕ)

-- a course of such questions
abbrev pub Course : Type 0 → Type 0
Course T = Plan Wanted Answered T

pub record Both (V H : Type 0) : Type 0 where
  pub volume : V
  pub source : H

abbrev pub both : {V H : Type 0} → V → H → Both V H
both volume source = record { volume = volume; source = source }

-- how a source may answer, and what there is of it then
abbrev pub Giving : Type 0 → Type 1
Giving H = H → Option (List ℕ) → H → Type 0

-- what is asked of the one leaves the other as it is
abbrev pub AsksEither : {V H : Type 0} → FilesService V → Giving H → Who → (q : Wanted) → Answered q → Both V H → Both V H → Type 0
AsksEither S K who (of_files q) answer old new = (Asks S who q answer old.volume new.volume) × (new.source ≡ old.source)
AsksEither S K who next_block answer old new = (K old.source answer new.source) × (new.volume ≡ old.volume)

-- it was run by who asks, and gave this
abbrev pub Runs : {V H T : Type 0} → FilesService V → Giving H → Who → Course T → T → Both V H → Both V H → Type 0
Runs S K who p result old new = Goes (AsksEither S K who) p result old new

-- an answer of the volume as the answer to a copy
abbrev pub as_copy : {T : Type 0} → Result T Refusal → Result T CopyFault
as_copy (Ok x) = Ok x
as_copy (Err e) = Err (Files e)

-- one thing alone of the volume
abbrev pub ask : (q : Question) → Course (Result (AnswerOf q) CopyFault)
ask q = asking (of_files q) (λ a. gives (as_copy a))

-- what follows where it is granted: the first fault breaks it off
abbrev pub on_ok : {T U : Type 0} → (T → Course (Result U CopyFault)) → Result T CopyFault → Course (Result U CopyFault)
on_ok on (Ok x) = on x
on_ok on (Err e) = gives (Err e)

abbrev pub if_granted : {T U : Type 0} → Course (Result T CopyFault) → (T → Course (Result U CopyFault)) → Course (Result U CopyFault)
if_granted p on = and_then p (on_ok on)

-- a device fault of the volume or Damaged, behind which nothing is asked
abbrev pub is_lethal : CopyFault → Bool
is_lethal (Files e) = is_fatal e
is_lethal Unread = false

-- What undoes something after a fault: nothing after a lethal one; else it is asked, and the fault stays what it was, unless that meets a
-- lethal one.
abbrev pub worse : {T : Type 0} → CopyFault → Result T Refusal → CopyFault
worse e (Ok x) = e
worse e (Err f) = if is_fatal f then Files f else e

abbrev pub undoing_if : {T : Type 0} → Bool → Request → CopyFault → Course (Result T CopyFault)
undoing_if true r e = gives (Err e)
undoing_if false r e = asking (of_files (done r)) (λ a. gives (Err (worse e a)))

abbrev pub undoing : {T : Type 0} → Request → CopyFault → Course (Result T CopyFault)
undoing r e = undoing_if (is_lethal e) r e

abbrev pub on_err : {T : Type 0} → Request → Result T CopyFault → Course (Result T CopyFault)
on_err r (Ok x) = gives (Ok x)
on_err r (Err e) = undoing r e

abbrev pub or_undone : {T : Type 0} → Request → Course (Result T CopyFault) → Course (Result T CopyFault)
or_undone r p = and_then p (on_err r)

-- something else is asked where the first isn't granted, unless that is lethal
abbrev pub or_if : {T : Type 0} → Bool → CopyFault → Course (Result T CopyFault) → Course (Result T CopyFault)
or_if true e other = gives (Err e)
or_if false e other = other

abbrev pub on_other : {T : Type 0} → Course (Result T CopyFault) → Result T CopyFault → Course (Result T CopyFault)
on_other other (Ok x) = gives (Ok x)
on_other other (Err e) = or_if (is_lethal e) e other

abbrev pub or_else : {T : Type 0} → Course (Result T CopyFault) → Course (Result T CopyFault) → Course (Result T CopyFault)
or_else p other = and_then p (on_other other)
