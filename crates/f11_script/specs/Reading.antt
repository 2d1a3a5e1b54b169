-- Reading a line word by word (profile).
use Rattle.std.specs.Prelude.{◌≡◌, ℕ, ◌==◌, List, [], ◌∷◌, Option, Some, None}
use Rattle.std.specs.List.{slice_split}
use Rattle.std.specs.Option.{option_copied}
use Rattle.f11_script.specs.declared.words.Words.{Words}

-- what is read, and what is then made of it; nothing where nothing is read
infixl 10 ◌>>=◌
abbrev pub ◌>>=◌ : {A B : Type 0} → Option A → (A → Option B) → Option B
None >>= f = None
(Some x) >>= f = f x

-- what a function returned, seen by view, is what reading gives
abbrev pub Gives : {X Y : Type 0} → (X → Y) → Option X → Option Y → Type 0
Gives view None read = read ≡ None
Gives view (Some x) read = read ≡ Some (view x)

-- the words of a text, which single spaces separate: two spaces in a row have an empty word between them
abbrev pub words_between : List ℕ → List (List ℕ)
words_between text = slice_split (λ c. c == 32) text

-- a word, and the words behind it
abbrev pub next_word : List (List ℕ) → Option (List ℕ × List (List ℕ))
next_word [] = None
next_word (word ∷ rest) = Some (word, rest)

-- the word as read, and the words behind it
abbrev pub argument : {X : Type 0} → (List ℕ → Option X) → List (List ℕ) → Option (X × List (List ℕ))
argument read words = do
  next ← next_word words
  x ← read next.0
  Some (x, next.1)

-- the value, where no word is left
abbrev pub at_end : {X : Type 0} → List (List ℕ) → X → Option X
at_end [] x = Some x
at_end (_ ∷ _) x = None

-- the words of a text that may be none at all
abbrev pub words_of_rest : Option (List ℕ) → List (List ℕ)
words_of_rest None = []
words_of_rest (Some text) = words_between text

-- the words that the code has left
abbrev pub words_left : Words → List (List ℕ)
words_left words = words_of_rest (option_copied words.rest)
