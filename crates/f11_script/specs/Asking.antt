-- What a line asks, told by the line alone (profile).
use Rattle.std.specs.Prelude.{◌≡◌, ℕ, List, [], ◌∷◌, Option, Some, None, nat_lt, length, if◌then◌else◌}
use Rattle.f11_store.specs.Run.{Call}
use Rattle.f11_store.specs.declared.callers.Uic.{Uic}
use Rattle.f11_store.specs.declared.requests.Request.{Request}
use Rattle.f11_store.specs.declared.requests.Request.TheVariants as request
use Rattle.f11_script.specs.Reading.{◌>>=◌, words_between, argument}
use Rattle.f11_script.specs.Fields.{task_of, uic_of}
use Rattle.f11_script.specs.Verbs.{verb_of}
use Rattle.f11_script.specs.Requests.{Ask, verb_asks}
use Rattle.f11_script.specs.Lines.{Line, no_request, bad_line, request_line, is_comment, line_of}

-- who asks what
pub record Asked : Type 0 where
  pub task : ℕ
  pub caller : Uic
  pub ask : Ask

-- a line says nothing, is a bad line, or says who asks what
pub data Saying : Type 0 where
  nothing : Saying
  badly : Saying
  says : Asked → Saying

-- what words say: a task, a user's code, a verb and its arguments
unfoldable pub asked_of : List (List ℕ) → Option Asked
asked_of words = do
  task ← argument task_of words
  uic ← argument uic_of task.1
  verb ← argument verb_of uic.1
  ask ← verb_asks verb.0 verb.1
  Some (record { task = task.0; caller = uic.0; ask = ask })

-- something is said, or it is a bad line
abbrev pub saying_of_asked : Option Asked → Saying
saying_of_asked None = badly
saying_of_asked (Some asked) = says asked

-- a line without its end: one of over 1,200 bytes is bad, a comment too
unfoldable pub saying_of : List ℕ → Saying
saying_of line =
    if nat_lt 1200 (length line) then badly
    else if is_comment line then nothing
    else saying_of_asked (asked_of (words_between line))

-- the call, with the caller's block before it
abbrev pub called : Asked → List ℕ → Call
called a block = record { task = a.task; caller = a.caller; request = a.ask.request; block = a.ask.block block }

-- the line, with the caller's block before it
abbrev pub line_with : Saying → List ℕ → Line
line_with nothing block = no_request
line_with badly block = bad_line
line_with (says a) block = request_line (called a block)

-- the requests of a script's lines, in order
abbrev pub asked_by : Saying → List Asked → List Asked
asked_by nothing rest = rest
asked_by badly rest = rest
asked_by (says a) rest = a ∷ rest

abbrev pub requests_in : List (List ℕ) → List Asked
requests_in [] = []
requests_in (line ∷ rest) = asked_by (saying_of line) (requests_in rest)

-- what a line asks is told by the line alone, and the caller's block is given to what it says
abbrev pub LineAsksAlone : Type 0
LineAsksAlone = (line block : List ℕ) → line_of line block ≡ line_with (saying_of line) block

-- the block of a WriteBlock is the line's own, whatever the caller's is; that of any other request is the caller's as it is
abbrev pub IsBlockOf : Request → (List ℕ → List ℕ) → Type 0
IsBlockOf (request.WriteBlock _ _) block = (content : List ℕ) × ((before : List ℕ) → block before ≡ content)
IsBlockOf _ block = (before : List ℕ) → block before ≡ before

abbrev pub HasBlock : Saying → Type 0
HasBlock nothing = Unit {0}
HasBlock badly = Unit {0}
HasBlock (says a) = IsBlockOf a.ask.request a.ask.block

abbrev pub BlockIsPassedOn : Type 0
BlockIsPassedOn = (line : List ℕ) → HasBlock (saying_of line)
