-- A script that is served, line by line, by any service of requests (profile).
use Rattle.std.specs.Prelude.{◌≡◌, ℕ, ◌+◌, List, [], ◌∷◌, ◌++◌, replicate}
use Rattle.f11_store.specs.Run.{Call, Answer}
use Rattle.f11_script.specs.Answers.{answer_line, bad_line_text}
use Rattle.f11_script.specs.Lines.{Line, no_request, bad_line, request_line, line_of}

-- how a service in one state may answer a call, and the state that it is in then
abbrev pub Service : Type 0 → Type 1
Service V = V → Call → Answer → V → Type 0

-- what may stand behind a line: a state of the service, the block, a text and a number of requests
abbrev pub Behind : Type 0 → Type 1
Behind V = V → List ℕ → List ℕ → ℕ → Type 0

-- A request is served: the text begins with the line of its answer, and what is behind it is served from the state and the block
-- after it, with one request less.
pub record ServesRequest {V : Type 0} (S : Service V) (call : Call) (old : V) (text : List ℕ) (count : ℕ) (Rest : Behind V) : Type 0 where
  pub answer : Answer
  pub next : V
  pub more : List ℕ
  pub others : ℕ
  pub serves : S old call answer next
  pub text_is : text ≡ answer_line call.request answer.block answer.result ++ more
  pub count_is : count ≡ others + 1
  pub rest : Rest next answer.block more others

-- a line without a request is as if it weren't there, and a bad line is answered and asks nothing
abbrev pub ServesLine : {V : Type 0} → Service V → Line → V → List ℕ → List ℕ → ℕ → Behind V → Type 0
ServesLine S no_request old block text count Rest = Rest old block text count
ServesLine S bad_line old block text count Rest = (more : List ℕ) × (text ≡ bad_line_text ++ more) × Rest old block more count
ServesLine S (request_line call) old block text count Rest = ServesRequest S call old text count Rest

-- behind the last line nothing is written or asked, and state and block are those of the end
abbrev pub IsScriptEnd : {V : Type 0} → V → List ℕ → Behind V
IsScriptEnd new block' old block text count = (new ≡ old) × (block' ≡ block) × (text ≡ []) × (count ≡ 0)

-- the lines of a script are served one after another: from a state and a block, with this text and so many requests, to the state
-- and the block then
abbrev pub ServesLines : {V : Type 0} → Service V → List (List ℕ) → V → List ℕ → List ℕ → ℕ → V → List ℕ → Type 0
ServesLines S [] old block text count new block' = IsScriptEnd new block' old block text count
ServesLines S (line ∷ rest) old block text count new block' =
    ServesLine S (line_of line block) old block text count (λ next b more others. ServesLines S rest next b more others new block')

-- the block with which a script begins
abbrev pub zeros : List ℕ
zeros = replicate 512 0
