-- What is told of the single answers of a plan, and adds up to what is told of all (profile).
use Rattle.std.specs.Prelude.{◌≡◌, Bool, true, false, not, Result, Ok, Err}
use Rattle.f11_store.specs.declared.refusals.Refusal.{Refusal}
use Rattle.f11_fcp.specs.files.Answers.{is_fatal}
use Rattle.f11_making.specs.Asking.{FilesService, Who}
use Rattle.f11_making.specs.FilesPlan.{AnswerOf, Asks, FilesPlan, Question}
use Rattle.f11_making.specs.Plan.{asking, gives}

-- no device fault or Damaged
abbrev pub is_whole : {T : Type 0} → Result T Refusal → Bool
is_whole (Ok x) = true
is_whole (Err e) = not (is_fatal e)

-- All that a plan asks is P, and a device fault or Damaged ends it, as its answer, which it gives for nothing else.
abbrev pub IsTidy : {T : Type 0} → (Question → Type 0) → FilesPlan (Result T Refusal) → Type 0
IsTidy P (gives x) = is_whole x ≡ true
IsTidy P (asking q on) =
    (P q) × ((e : Refusal) → is_fatal e ≡ true → on (Err e) ≡ gives (Err e))
    × ((a : Result (AnswerOf q) Refusal) → is_whole a ≡ true → IsTidy P (on a))

-- an answer without its value
abbrev pub bare : {T : Type 0} → Result T Refusal → Result (Unit {0}) Refusal
bare (Ok x) = Ok tt
bare (Err e) = Err e

-- What is told of each answer adds up to what is told of a plan's.
pub record AddsUp {V : Type 0} (S : FilesService V) (who : Who) (P : Question → Type 0) (R : Result (Unit {0}) Refusal → V → V → Type 0) :
    Type 0
  where
    pub none : (v : V) → R (Ok tt) v v
    pub then-so : (r : Result (Unit {0}) Refusal) (u v w : V) → R (Ok tt) u v → R r v w → R r u w
    pub whole : (e : Refusal) (v w : V) → is_fatal e ≡ false → R (Err e) v w → R (Ok tt) v w
    pub refused : (e : Refusal) (v w : V) → is_fatal e ≡ false → R (Ok tt) v w → R (Err e) v w
    pub single : (q : Question) (a : Result (AnswerOf q) Refusal) (v w : V) → P q → Asks S who q a v w → R (bare a) v w
