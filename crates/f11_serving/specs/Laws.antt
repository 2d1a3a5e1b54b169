-- Laws of scripts that are served.
use Rattle.std.specs.Prelude.{◌≡◌, ℕ, ◌+◌, Bool, true, List, [], ◌∷◌, ◌++◌, length}
use Rattle.f11_store.specs.Run.{Call, Answer, Run}
use Rattle.f11_store.specs.Store.{Store}
use Rattle.f11_runs.specs.Each.{Each, IsSeenAs, Steps}
use Rattle.f11_script.specs.Answers.{answer_line, bad_line_text}
use Rattle.f11_script.specs.Asking.{Asked, Saying, nothing, badly, says, saying_of, called, requests_in}
use Rattle.f11_serving.specs.Served.{Service, ServesLines}

-- lines are served, and others behind them: then all of them are, with both texts, and the requests of both
abbrev pub PartsAreServed : {V : Type 0} → Service V → Type 0
PartsAreServed {V = V} S =
    (front rest : List (List ℕ)) (old between new : V) (block b block' text more : List ℕ) (count others : ℕ) →
    ServesLines S front old block text count between b → ServesLines S rest between b more others new block' →
    ServesLines S (front ++ rest) old block (text ++ more) (count + others) new block'

-- Lines are served in two parts: the front, and then the rest.
pub record ServesInParts {V : Type 0} (S : Service V) (front rest : List (List ℕ)) (old : V) (block text : List ℕ) (count : ℕ)
    (new : V) (block' : List ℕ) : Type 0 where
  pub between : V
  pub lent : List ℕ
  pub text_before : List ℕ
  pub text_behind : List ℕ
  pub asked_before : ℕ
  pub asked_behind : ℕ
  pub before : ServesLines S front old block text_before asked_before between lent
  pub behind : ServesLines S rest between lent text_behind asked_behind new block'
  pub text_is : text ≡ text_before ++ text_behind
  pub count_is : count ≡ asked_before + asked_behind

-- lines that are served are served in two parts, wherever they are parted
abbrev pub ServedIsInParts : {V : Type 0} → Service V → Type 0
ServedIsInParts {V = V} S =
    (front rest : List (List ℕ)) (old new : V) (block block' text : List ℕ) (count : ℕ) →
    ServesLines S (front ++ rest) old block text count new block' → ServesInParts S front rest old block text count new block'

-- as many requests were served as the lines have, whatever they were answered
abbrev pub CountIsOfRequests : {V : Type 0} → Service V → Type 0
CountIsOfRequests {V = V} S =
    (lines : List (List ℕ)) (old new : V) (block block' text : List ℕ) (count : ℕ) →
    ServesLines S lines old block text count new block' → count ≡ length (requests_in lines)

-- the calls of requests, the first with this block and each later one with the block of the answer before it
abbrev pub calls_of : List Asked → List ℕ → List Answer → List Call
calls_of [] block answers = []
calls_of (a ∷ rest) block [] = called a block ∷ []
calls_of (a ∷ rest) block (answer ∷ more) = called a block ∷ calls_of rest answer.block more

-- the text of a script: `bad line` for a bad line, and for a request the line of its answer
abbrev pub text_with : Saying → List Answer → (List Answer → List ℕ) → List ℕ
text_with nothing answers rest = rest answers
text_with badly answers rest = bad_line_text ++ rest answers
text_with (says a) [] rest = []
text_with (says a) (answer ∷ more) rest = answer_line a.ask.request answer.block answer.result ++ rest more

abbrev pub text_of : List (List ℕ) → List Answer → List ℕ
text_of [] answers = []
text_of (line ∷ rest) answers = text_with (saying_of line) answers (λ more. text_of rest more)

-- The requests of a script have these answers: its text tells each, and so many are counted.
pub record TellsAnswers (lines : List (List ℕ)) (block text : List ℕ) (count : ℕ) (Are : List Call → List Answer → Type 0) : Type 0 where
  pub answers : List Answer
  pub are : Are (calls_of (requests_in lines) block answers) answers
  pub text_is : text ≡ text_of lines answers
  pub count_is : count ≡ length answers

-- lines that are served tell the answers to their requests, one after another
abbrev pub RequestsAreAnswered : {V : Type 0} → Service V → Type 0
RequestsAreAnswered {V = V} S =
    (lines : List (List ℕ)) (old new : V) (block block' text : List ℕ) (count : ℕ) →
    ServesLines S lines old block text count new block'
    → TellsAnswers lines block text count (λ calls answers. Each S old calls answers new)

-- lines that are served by steps tell a run
abbrev pub LinesAreRun : Type 0
LinesAreRun =
    (lines : List (List ℕ)) (old new : Store) (block block' text : List ℕ) (count : ℕ) →
    ServesLines Steps lines old block text count new block'
    → TellsAnswers lines block text count (λ calls answers. Run old calls answers new)

-- a sound service that makes steps tells a run where nothing failed from the first line to the last
abbrev pub SoundIsRun : {V : Type 0} → Service V → Type 0
SoundIsRun {V = V} S =
    (view : V → Store) (failures : V → ℕ) (is_sound : V → Bool) → IsSeenAs S Steps view failures is_sound →
    (lines : List (List ℕ)) (old new : V) (block block' text : List ℕ) (count : ℕ) →
    ServesLines S lines old block text count new block' → is_sound old ≡ true → failures new ≡ failures old →
    TellsAnswers lines block text count (λ calls answers. Run (view old) calls answers (view new))
