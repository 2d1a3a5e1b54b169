-- What serving a script tells, whatever it answers (profile).
use Rattle.std.specs.Prelude.{◌≡◌, ◌≢◌, ℕ, ◌+◌, ◌<◌, ◌≤◌, ⊤, List, [], ◌∷◌, ◌++◌, length, All, Option}
use Rattle.std.specs.Prelude.{Some, None, IfSome, Bool, true, false, Result, Ok, Err}
use Rattle.std.specs.Io.KnownBytes.{Appends}
use Rattle.std.specs.Str.Lines.{lines}
use Rattle.f11_script.specs.Answers.{AppendsSome}
use Rattle.f11_script.specs.Input.{HasByte, at_hand, left_of, number_read}
use Rattle.f11_script.specs.declared.errors.ScriptError.{ScriptError}
use Rattle.f11_script.specs.declared.errors.ScriptError.TheVariants.{ReadFault, WriteFault, TooLong}
use Rattle.f11_script.specs.declared.input.ScriptReader.{ScriptReader}
use Rattle.f11_serving.specs.Served.{Service, ServesLines, zeros}

-- The first lines of these bytes were read, and behind them some bytes without a line feed: so many bytes in all, and the others are left.
pub record AreRead (bytes left : List ℕ) (read : List (List ℕ)) (count : ℕ) : Type 0 where
  pub whole : List ℕ
  pub part : List ℕ
  pub bytes_are : bytes ≡ whole ++ (part ++ left)
  pub first : lines bytes ≡ read ++ lines (part ++ left)
  pub no_end : All (λ c. c ≢ 10) part
  pub count_is : count ≡ length whole + length part

-- what is left of a script: its bytes, where its reader tells them, how many bytes of it were read, and how many are at hand
pub record Place : Type 0 where
  pub left : Option (List ℕ)
  pub count : ℕ
  pub hand : ℕ

abbrev pub place_of : {R : Type 0} → (R → Option (List ℕ)) → ScriptReader R → Place
place_of remaining script = record { left = left_of remaining script; count = number_read script; hand = at_hand script }

-- so far these first lines were read, where the bytes are known
abbrev pub HasRead : Option (List ℕ) → Option (List ℕ) → List (List ℕ) → ℕ → Type 0
HasRead None left read count = ⊤
HasRead (Some bytes) None read count = ⊥
HasRead (Some bytes) (Some left) read count = AreRead bytes left read count

-- The lines were served, and all their answers written.
pub record AnswersLines {V : Type 0} (S : Service V) (read : List (List ℕ)) (old new : V) (written written' : Option (List ℕ))
    (count : ℕ) : Type 0 where
  pub text : List ℕ
  pub block : List ℕ
  pub serves : ServesLines S read old zeros text count new block
  pub wrote : Appends written written' text

-- The script was served to its end: all its lines were, each byte was read, no more of them than a script may have, and nothing is left.
pub record Finishes {V : Type 0} (S : Service V) (bytes : Option (List ℕ)) (place : Place) (old new : V)
    (written written' : Option (List ℕ)) (count : ℕ) : Type 0 where
  pub read : List (List ℕ)
  pub all : IfSome bytes (λ xs. (lines xs ≡ read) × (place.left ≡ Some []) × (length xs ≡ place.count))
  pub few : place.count ≤ 16777216
  pub answers : AnswersLines S read old new written written' count

-- The script could not be read further: each line before that was served.
pub record StopsReading {V : Type 0} (S : Service V) (bytes : Option (List ℕ)) (place : Place) (old new : V)
    (written written' : Option (List ℕ)) : Type 0 where
  pub read : List (List ℕ)
  pub reads : HasRead bytes place.left read place.count
  pub few : place.count ≤ 16777216
  pub count : ℕ
  pub answers : AnswersLines S read old new written written' count

-- The answers could not be written further: each line before the last one was served and its answer written, the last one was
-- served too, and of its answer some first bytes were written.
pub record StopsWriting {V : Type 0} (S : Service V) (bytes : Option (List ℕ)) (place : Place) (old new : V)
    (written written' : Option (List ℕ)) : Type 0 where
  pub read : List (List ℕ)
  pub last : List ℕ
  pub reads : HasRead bytes place.left (read ++ last ∷ []) place.count
  pub few : place.count ≤ 16777216
  pub count : ℕ
  pub between : V
  pub block : List ℕ
  pub text : List ℕ
  pub serves : ServesLines S read old zeros text count between block
  pub last_count : ℕ
  pub last_block : List ℕ
  pub last_text : List ℕ
  pub serves_last : ServesLines S (last ∷ []) between block last_text last_count new last_block
  pub middle : Option (List ℕ)
  pub wrote : Appends written middle text
  pub wrote_last : AppendsSome middle written' last_text

-- what serving a script from its beginning tells: it was served to its end; or its reader failed, and each byte that it gave was
-- read; or as many bytes were read as a script may have, and one more is there; or the writer failed
abbrev pub ServesScript : {V : Type 0} → Service V → Option (List ℕ) → Place → V → V → Option (List ℕ) → Option (List ℕ) →
    Result ℕ ScriptError → Type 0
ServesScript S bytes place old new written written' (Ok count) = Finishes S bytes place old new written written' count
ServesScript S bytes place old new written written' (Err ReadFault) = StopsReading S bytes place old new written written' × (place.hand ≡ 0)
ServesScript S bytes place old new written written' (Err TooLong) =
    StopsReading S bytes place old new written written' × (place.count ≡ 16777216) × (0 < place.hand) × HasByte place.left
ServesScript S bytes place old new written written' (Err WriteFault) = StopsWriting S bytes place old new written written'

-- the same of a script that is gone then: it was left at some place
abbrev pub RunsScript : {V : Type 0} → Service V → Option (List ℕ) → V → V → Option (List ℕ) → Option (List ℕ) → Result ℕ ScriptError →
    Type 0
RunsScript S bytes old new written written' result = (place : Place) × ServesScript S bytes place old new written written' result

-- the number of requests of a line
abbrev pub number_of : Bool → ℕ
number_of true = 1
number_of false = 0

-- what answering one line tells, and whether it was a request
abbrev pub AnswersLine : {V : Type 0} → Service V → List ℕ → V → V → List ℕ → List ℕ → Option (List ℕ) → Option (List ℕ) →
    Result Bool ScriptError → Type 0
AnswersLine S line old new block block' written written' (Ok asked) =
    (text : List ℕ) × ServesLines S (line ∷ []) old block text (number_of asked) new block' × Appends written written' text
AnswersLine S line old new block block' written written' (Err e) =
    (text : List ℕ) × (count : ℕ) × ServesLines S (line ∷ []) old block text count new block' × AppendsSome written written' text ×
    (e ≡ WriteFault)
