-- What is told of the single answers of a course, and adds up to what is told of all (profile).
use Rattle.std.specs.Prelude.{◌≡◌, Bool, true, not, Result, Ok, Err}
use Rattle.f11_store.specs.declared.refusals.Refusal.{Refusal}
use Rattle.f11_making.specs.files.Answers.{is_fatal}
use Rattle.f11_making.specs.FilesPlan.{AnswerOf, Question}
use Rattle.f11_making.specs.Plan.{asking, gives}
use Rattle.f11_making.specs.Telling.{is_whole as is_whole_answer}
use Rattle.f11_copying.specs.Courses.{Answered, Course, is_lethal, next_block, of_files}
use Rattle.f11_copying.specs.declared.fault.CopyFault.{CopyFault}
use Rattle.f11_copying.specs.declared.fault.CopyFault.TheVariants.{Files, Unread}

-- no device fault of the volume or Damaged
abbrev pub is_whole : {T : Type 0} → Result T CopyFault → Bool
is_whole (Ok x) = true
is_whole (Err e) = not (is_lethal e)

-- All that is asked of the volume is P, and a device fault or Damaged ends it, as its answer, which it gives for nothing else.
abbrev pub IsTidy : {T : Type 0} → (Question → Type 0) → Course (Result T CopyFault) → Type 0
IsTidy P (gives x) = is_whole x ≡ true
IsTidy P (asking (of_files q) on) =
    (P q) × ((e : Refusal) → is_fatal e ≡ true → on (Err e) ≡ gives (Err (Files e)))
    × ((a : Result (AnswerOf q) Refusal) → is_whole_answer a ≡ true → IsTidy P (on a))
IsTidy P (asking next_block on) = (a : Answered next_block) → IsTidy P (on a)

-- what the volume answered: that a source can't be read is no refusal of it
abbrev pub bare : {T : Type 0} → Result T CopyFault → Result (Unit {0}) Refusal
bare (Ok x) = Ok tt
bare (Err (Files e)) = Err e
bare (Err Unread) = Ok tt
