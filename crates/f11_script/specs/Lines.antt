-- What a line of a script is (profile).
use Rattle.std.specs.Prelude.{◌≡◌, ℕ, ◌==◌, ◌||◌, nat_lt, Bool, List, length, Option, Some, None, slice_index, if◌then◌else◌}
use Rattle.f11_store.specs.Run.{Call}
use Rattle.f11_script.specs.declared.line.Parsed.{Parsed}
use Rattle.f11_script.specs.declared.line.Parsed.TheVariants.{Nothing, Bad, Asks}
use Rattle.f11_script.specs.Reading.{◌>>=◌, words_between, argument}
use Rattle.f11_script.specs.Fields.{task_of, uic_of}
use Rattle.f11_script.specs.Verbs.{verb_of}
use Rattle.f11_script.specs.Requests.{verb_asks}

-- a line asks nothing, is a bad line, or calls for a request
pub data Line : Type 0 where
  no_request : Line
  bad_line : Line
  request_line : Call → Line

-- the words of a request: a task, a user's code, a verb and its arguments; the caller's block before it is given
unfoldable pub call_of : List (List ℕ) → List ℕ → Option Call
call_of words block = do
  task ← argument task_of words
  uic ← argument uic_of task.1
  verb ← argument verb_of uic.1
  ask ← verb_asks verb.0 verb.1
  Some (record { task = task.0; caller = uic.0; request = ask.request; block = ask.block block })

-- a line with no request is an empty one or a comment, which begins with a semicolon (59)
abbrev pub is_comment : List ℕ → Bool
is_comment line = length line == 0 || slice_index line 0 == 59

-- a call, or a bad line
abbrev pub line_of_call : Option Call → Line
line_of_call None = bad_line
line_of_call (Some call) = request_line call

-- a line without its end: one of over 1,200 bytes is bad, a comment too
unfoldable pub line_of : List ℕ → List ℕ → Line
line_of line block =
    if nat_lt 1200 (length line) then bad_line
    else if is_comment line then no_request
    else line_of_call (call_of (words_between line) block)

-- what the code made of a line, with the caller's block after it
abbrev pub line_parsed : Parsed → List ℕ → Line
line_parsed Nothing block = no_request
line_parsed Bad block = bad_line
line_parsed (Asks task uic r) block = request_line (record { task = task; caller = uic; request = r; block = block })

-- a line that asks for nothing leaves the caller's block as it is
abbrev pub KeepsBlock : Parsed → List ℕ → List ℕ → Type 0
KeepsBlock Nothing old new = new ≡ old
KeepsBlock Bad old new = new ≡ old
KeepsBlock (Asks task uic r) old new = Unit {0}
