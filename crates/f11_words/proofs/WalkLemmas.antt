-- What clap makes of the words of one command, word by word.
use Rattle.std.proofs.Common.{All, ap, ◌∙◌, ◌≡◌, ◌+◌, ◌&&◌, ◌++◌, ℕ, Bool, List, [], ◌∷◌, None, Some, codes, false, fold, refl, true}
use Rattle.std.proofs.lemmas.List.Elements.{All-head, All-tail}
use Rattle.std.specs.Str.{bytes_eq}
use Rattle.clap.specs.Lexer.{strip_byte}
use Rattle.clap.specs.Simple.{Shape}
use Rattle.clap.specs.Takes.{bundle_passes, long_passes, step_passes, walk_passes}
use Rattle.clap.specs.Walk.{
  Held,
  Rule,
  Text,
  Waiting,
  Walk,
  arg_by_id,
  arg_by_index,
  arg_by_long,
  bundle,
  idle,
  long_met,
  nothing_held,
  option_word,
  to_positional,
  value,
  walked,
}
use Rattle.clap.specs.Walk.{option as waits}
use Rattle.f11_words.specs.Lines.{is_option}
use Rattle.f11_words.specs.Usage.{Given, Word, flag, is_there, letter, option, place, says, texts_in, written}

-- a word that is no option begins with no hyphen, and isn't two of them
no_hyphens : (word : Text) → is_option word ≡ false → strip_byte 45 word ≡ None
no_hyphens [] plain = refl
no_hyphens (b ∷ bs) plain = rw plain refl

not_two : (word : Text) → is_option word ≡ false → bytes_eq word (45 ∷ 45 ∷ []) ≡ false
not_two [] plain = refl
not_two (b ∷ bs) plain = rw plain refl

-- a walk between two words of a command without subcommands
abbrev pub standing : Waiting → Held → ℕ → Walk
standing waiting held position = record { held = held; waiting = waiting; position = position; is_trailing = false; stopped = None }

-- the walk after one more word: the next positional's, or the value for which an option waits
abbrev pub with_positional : List Rule → Held → ℕ → Text → Walk
with_positional c h p word = to_positional c (arg_by_index c p) word (standing idle h p) h

abbrev pub with_option_value : List Rule → Text → Held → ℕ → Text → Walk
with_option_value c id h p word =
    standing (option_word (arg_by_id c id) id word h).1 (option_word (arg_by_id c id) id word h).0 p

walked-plain : (c : List Rule) (h : Held) (p : ℕ) (word : Text) → is_option word ≡ false
    → walked c [] (standing idle h p) word ≡ with_positional c h p word
unfolding walked
walked-plain c h p word plain = rw (not_two word plain, no_hyphens word plain, no_hyphens word plain) refl

walked-value : (c : List Rule) (id : Text) (h : Held) (p : ℕ) (word : Text) → is_option word ≡ false
    → walked c [] (standing (waits id) h p) word ≡ with_option_value c id h p word
unfolding walked
walked-value c id h p word plain = rw (not_two word plain, no_hyphens word plain, no_hyphens word plain) refl

passes-step : (s : Shape) (h : Held) (p : ℕ) (word : Text) (rest : List Text) → is_option word ≡ false
    → walk_passes s [] (standing idle h p) (word ∷ rest)
    ≡ (step_passes s p h value && walk_passes s [] (walked s.rules [] (standing idle h p) word) rest)
unfolding walk_passes
passes-step s h p word rest plain = rw (not_two word plain, no_hyphens word plain, no_hyphens word plain) refl

passes-met : (s : Shape) (id : Text) (h : Held) (p : ℕ) (word : Text) (rest : List Text) → is_option word ≡ false
    → walk_passes s [] (standing (waits id) h p) (word ∷ rest)
    ≡ walk_passes s [] (walked s.rules [] (standing (waits id) h p) word) rest
unfolding walk_passes
passes-met s id h p word rest plain = rw (not_two word plain, no_hyphens word plain, no_hyphens word plain) refl

-- words that are no options
abbrev pub IsPlain : Text → Type 0
IsPlain word = is_option word ≡ false

abbrev pub ArePlain : List Text → Type 0
ArePlain words = All IsPlain words

-- a flag or an option as it is written, and what is held behind it
abbrev pub long : Text → Text
long name = codes "--" ++ name

abbrev pub long_held : Shape → Text → Held → Held
long_held s name h = (long_met s.rules (arg_by_long s.rules name) None h).0

abbrev pub long_taken : Shape → Text → Held → Bool
long_taken s name h = long_passes s.rules s.args_override_self (arg_by_long s.rules name) None h && true

-- what is held behind an option's word, and behind one by its place
abbrev pub value_held : Shape → Text → Text → Held → Held
value_held s name word h = (option_word (arg_by_id s.rules name) name word (long_held s name h)).0

abbrev pub place_held : Shape → ℕ → Text → Held → Held
place_held s p word h = (with_positional s.rules h p word).held

-- How a command takes one of its words, where so many places are taken, whatever is held.
abbrev pub TakesWord : Shape → ℕ → Word → Type 0
TakesWord s p (flag name) = (h : Held) (rest : List Text) →
    (walked s.rules [] (standing idle h p) (long name) ≡ standing idle (long_held s name h) p)
    × (walk_passes s [] (standing idle h p) (long name ∷ rest)
    ≡ (long_taken s name h && walk_passes s [] (standing idle (long_held s name h) p) rest))
TakesWord s p (letter name c) = Unit {0}
TakesWord s p (option name is_needed) = (h : Held) (word : Text) (rest : List Text) →
    (walked s.rules [] (standing idle h p) (long name) ≡ standing (waits name) (long_held s name h) p)
    × (walk_passes s [] (standing idle h p) (long name ∷ rest)
    ≡ (long_taken s name h && walk_passes s [] (standing (waits name) (long_held s name h) p) rest))
    × (with_option_value s.rules name (long_held s name h) p word ≡ standing idle (value_held s name word h) p)
TakesWord s p (place name is_needed) = (h : Held) (word : Text) →
    with_positional s.rules h p word ≡ standing idle (place_held s p word h) (p + 1)

abbrev pub place_behind : ℕ → Word → ℕ
place_behind p (place name is_needed) = p + 1
place_behind p _ = p

abbrev pub TakesWords : Shape → ℕ → List Word → Type 0
TakesWords s p [] = Unit {0}
TakesWords s p (word ∷ words) = TakesWord s p word × TakesWords s (place_behind p word) words

-- each word is given what its kind takes, none a letter, and where one by its place isn't there, none is behind it
abbrev pub AreInOrder : List Word → List Given → Type 0
AreInOrder [] [] = Unit {0}
AreInOrder (flag name ∷ words) (is_there b ∷ given) = AreInOrder words given
AreInOrder (letter name c ∷ words) (is_there false ∷ given) = AreInOrder words given
AreInOrder (option name is_needed ∷ words) (says word ∷ given) = AreInOrder words given
AreInOrder (place name is_needed ∷ words) (says (Some word) ∷ given) = AreInOrder words given
AreInOrder (place name is_needed ∷ words) (says None ∷ given) = written words given ≡ []
AreInOrder _ _ = ⊥

-- what is held behind all of them, from a place on, and whether they are taken
abbrev pub held_behind : Shape → ℕ → List Word → List Given → Held → Held
held_behind s p (flag name ∷ words) (is_there true ∷ given) h = held_behind s p words given (long_held s name h)
held_behind s p (option name is_needed ∷ words) (says (Some word) ∷ given) h = held_behind s p words given (value_held s name word h)
held_behind s p (place name is_needed ∷ words) (says (Some word) ∷ given) h = held_behind s (p + 1) words given (place_held s p word h)
held_behind s p (place name is_needed ∷ words) (says None ∷ given) h = h
held_behind s p (_ ∷ words) (_ ∷ given) h = held_behind s p words given h
held_behind s p _ _ h = h

abbrev pub are_taken : Shape → ℕ → List Word → List Given → Held → Bool
are_taken s p (flag name ∷ words) (is_there true ∷ given) h = long_taken s name h && are_taken s p words given (long_held s name h)
are_taken s p (option name is_needed ∷ words) (says (Some word) ∷ given) h =
    long_taken s name h && are_taken s p words given (value_held s name word h)
are_taken s p (place name is_needed ∷ words) (says (Some word) ∷ given) h =
    step_passes s p h value && are_taken s (p + 1) words given (place_held s p word h)
are_taken s p (place name is_needed ∷ words) (says None ∷ given) h = true
are_taken s p (_ ∷ words) (_ ∷ given) h = are_taken s p words given h
are_taken s p _ _ h = true

-- the walk over a command's words
pub walk-words : (s : Shape) (p : ℕ) (words : List Word) (given : List Given) → TakesWords s p words → AreInOrder words given
    → ArePlain (texts_in given) → (h : Held)
    → (fold (walked s.rules []) (standing idle h p) (written words given)).held ≡ held_behind s p words given h
walk-words s p [] [] takes order plain h = refl
walk-words s p [] (g ∷ given) takes order plain h = absurd order
walk-words s p (flag name ∷ words) [] takes order plain h = absurd order
walk-words s p (letter name c ∷ words) [] takes order plain h = absurd order
walk-words s p (option name is_needed ∷ words) [] takes order plain h = absurd order
walk-words s p (place name is_needed ∷ words) [] takes order plain h = absurd order
walk-words s p (flag name ∷ words) (says word ∷ given) takes order plain h = absurd order
walk-words s p (flag name ∷ words) (is_there false ∷ given) takes order plain h = walk-words s p words given takes.1 order plain h
walk-words s p (flag name ∷ words) (is_there true ∷ given) takes order plain h =
    ap (λ (w : Walk). (fold (walked s.rules []) w (written words given)).held) (takes.0 h []).0
    ∙ walk-words s p words given takes.1 order plain (long_held s name h)
walk-words s p (letter name c ∷ words) (says word ∷ given) takes order plain h = absurd order
walk-words s p (letter name c ∷ words) (is_there true ∷ given) takes order plain h = absurd order
walk-words s p (letter name c ∷ words) (is_there false ∷ given) takes order plain h = walk-words s p words given takes.1 order plain h
walk-words s p (option name is_needed ∷ words) (is_there b ∷ given) takes order plain h = absurd order
walk-words s p (option name is_needed ∷ words) (says None ∷ given) takes order plain h = walk-words s p words given takes.1 order plain h
walk-words s p (option name is_needed ∷ words) (says (Some word) ∷ given) takes order plain h =
    ap (λ (w : Walk). (fold (walked s.rules []) w (word ∷ written words given)).held) (takes.0 h word []).0
    ∙ ap (λ (w : Walk). (fold (walked s.rules []) w (written words given)).held)
    (walked-value s.rules name (long_held s name h) p word (All-head IsPlain word (texts_in given) plain) ∙ (takes.0 h word []).2)
    ∙ walk-words s p words given takes.1 order (All-tail IsPlain word (texts_in given) plain) (value_held s name word h)
walk-words s p (place name is_needed ∷ words) (is_there b ∷ given) takes order plain h = absurd order
walk-words s p (place name is_needed ∷ words) (says None ∷ given) takes order plain h =
    ap (λ rest. (fold (walked s.rules []) (standing idle h p) rest).held) order
walk-words s p (place name is_needed ∷ words) (says (Some word) ∷ given) takes order plain h =
    ap (λ (w : Walk). (fold (walked s.rules []) w (written words given)).held)
    (walked-plain s.rules h p word (All-head IsPlain word (texts_in given) plain) ∙ takes.0 h word)
    ∙ walk-words s (p + 1) words given takes.1 order (All-tail IsPlain word (texts_in given) plain) (place_held s p word h)

passes-none : (s : Shape) (w : Walk) → walk_passes s [] w [] ≡ true
unfolding walk_passes
passes-none s w = refl

-- and whether it passes
pub passes-words : (s : Shape) (p : ℕ) (words : List Word) (given : List Given) → TakesWords s p words → AreInOrder words given
    → ArePlain (texts_in given) → (h : Held) → walk_passes s [] (standing idle h p) (written words given) ≡ are_taken s p words given h
passes-words s p [] [] takes order plain h = passes-none s (standing idle h p)
passes-words s p [] (g ∷ given) takes order plain h = absurd order
passes-words s p (flag name ∷ words) [] takes order plain h = absurd order
passes-words s p (letter name c ∷ words) [] takes order plain h = absurd order
passes-words s p (option name is_needed ∷ words) [] takes order plain h = absurd order
passes-words s p (place name is_needed ∷ words) [] takes order plain h = absurd order
passes-words s p (flag name ∷ words) (says word ∷ given) takes order plain h = absurd order
passes-words s p (flag name ∷ words) (is_there false ∷ given) takes order plain h = passes-words s p words given takes.1 order plain h
passes-words s p (flag name ∷ words) (is_there true ∷ given) takes order plain h =
    (takes.0 h (written words given)).1
    ∙ ap (λ b. long_taken s name h && b) (passes-words s p words given takes.1 order plain (long_held s name h))
passes-words s p (letter name c ∷ words) (says word ∷ given) takes order plain h = absurd order
passes-words s p (letter name c ∷ words) (is_there true ∷ given) takes order plain h = absurd order
passes-words s p (letter name c ∷ words) (is_there false ∷ given) takes order plain h = passes-words s p words given takes.1 order plain h
passes-words s p (option name is_needed ∷ words) (is_there b ∷ given) takes order plain h = absurd order
passes-words s p (option name is_needed ∷ words) (says None ∷ given) takes order plain h =
    passes-words s p words given takes.1 order plain h
passes-words s p (option name is_needed ∷ words) (says (Some word) ∷ given) takes order plain h =
    let is_plain = All-head IsPlain word (texts_in given) plain in
    (takes.0 h word (word ∷ written words given)).1
    ∙ ap (λ b. long_taken s name h && b) (passes-met s name (long_held s name h) p word (written words given) is_plain
    ∙ ap (λ w. walk_passes s [] w (written words given))
    (walked-value s.rules name (long_held s name h) p word is_plain ∙ (takes.0 h word []).2)
    ∙ passes-words s p words given takes.1 order (All-tail IsPlain word (texts_in given) plain) (value_held s name word h))
passes-words s p (place name is_needed ∷ words) (is_there b ∷ given) takes order plain h = absurd order
passes-words s p (place name is_needed ∷ words) (says None ∷ given) takes order plain h =
    ap (walk_passes s [] (standing idle h p)) order ∙ passes-none s (standing idle h p)
passes-words s p (place name is_needed ∷ words) (says (Some word) ∷ given) takes order plain h =
    let is_plain = All-head IsPlain word (texts_in given) plain in
    passes-step s h p word (written words given) is_plain
    ∙ ap (λ b. step_passes s p h value && b) (ap (λ w. walk_passes s [] w (written words given))
    (walked-plain s.rules h p word is_plain ∙ takes.0 h word)
    ∙ passes-words s (p + 1) words given takes.1 order (All-tail IsPlain word (texts_in given) plain) (place_held s p word h))

-- a letter as it is written, and what is held behind it where it comes first
abbrev pub hyphen : ℕ → Text
hyphen c = 45 ∷ c ∷ []

abbrev pub first_held : Shape → ℕ → Held
first_held s c = (bundle s.rules (c ∷ []) nothing_held).0

abbrev pub first_taken : Shape → ℕ → Bool
first_taken s c = bundle_passes s.rules s.args_override_self (c ∷ []) nothing_held && true

-- How a command takes a letter that comes first.
abbrev pub TakesFirst : Shape → List Word → Type 0
TakesFirst s (letter name c ∷ words) = (rest : List Text) →
    (walked s.rules [] (standing idle nothing_held 1) (hyphen c) ≡ standing idle (first_held s c) 1)
    × (walk_passes s [] (standing idle nothing_held 1) (hyphen c ∷ rest)
    ≡ (first_taken s c && walk_passes s [] (standing idle (first_held s c) 1) rest))
TakesFirst s _ = Unit {0}

-- all words in order, what is held behind them, and whether they are taken, where a letter may come first
abbrev pub AreInOrderFrom : List Word → List Given → Type 0
AreInOrderFrom (letter name c ∷ words) (is_there true ∷ given) = AreInOrder words given
AreInOrderFrom words given = AreInOrder words given

abbrev pub held_from : Shape → List Word → List Given → Held
held_from s (letter name c ∷ words) (is_there true ∷ given) = held_behind s 1 words given (first_held s c)
held_from s words given = held_behind s 1 words given nothing_held

abbrev pub taken_from : Shape → List Word → List Given → Bool
taken_from s (letter name c ∷ words) (is_there true ∷ given) = first_taken s c && are_taken s 1 words given (first_held s c)
taken_from s words given = are_taken s 1 words given nothing_held

-- the walk over all of a command's words
pub walk-all : (s : Shape) (words : List Word) (given : List Given) → TakesFirst s words → TakesWords s 1 words
    → AreInOrderFrom words given → ArePlain (texts_in given)
    → (fold (walked s.rules []) (standing idle nothing_held 1) (written words given)).held ≡ held_from s words given
walk-all s (letter name c ∷ words) (is_there true ∷ given) first takes order plain =
    ap (λ (w : Walk). (fold (walked s.rules []) w (written words given)).held) (first []).0
    ∙ walk-words s 1 words given takes.1 order plain (first_held s c)
walk-all s (letter name c ∷ words) (is_there false ∷ given) first takes order plain =
    walk-words s 1 (letter name c ∷ words) (is_there false ∷ given) takes order plain nothing_held
walk-all s (letter name c ∷ words) (says word ∷ given) first takes order plain = absurd order
walk-all s (letter name c ∷ words) [] first takes order plain = absurd order
walk-all s [] given first takes order plain = walk-words s 1 [] given takes order plain nothing_held
walk-all s (flag name ∷ words) given first takes order plain = walk-words s 1 (flag name ∷ words) given takes order plain nothing_held
walk-all s (option name is_needed ∷ words) given first takes order plain =
    walk-words s 1 (option name is_needed ∷ words) given takes order plain nothing_held
walk-all s (place name is_needed ∷ words) given first takes order plain =
    walk-words s 1 (place name is_needed ∷ words) given takes order plain nothing_held

-- and whether it passes
pub passes-all : (s : Shape) (words : List Word) (given : List Given) → TakesFirst s words → TakesWords s 1 words
    → AreInOrderFrom words given → ArePlain (texts_in given)
    → walk_passes s [] (standing idle nothing_held 1) (written words given) ≡ taken_from s words given
passes-all s (letter name c ∷ words) (is_there true ∷ given) first takes order plain =
    (first (written words given)).1
    ∙ ap (λ b. first_taken s c && b) (passes-words s 1 words given takes.1 order plain (first_held s c))
passes-all s (letter name c ∷ words) (is_there false ∷ given) first takes order plain =
    passes-words s 1 (letter name c ∷ words) (is_there false ∷ given) takes order plain nothing_held
passes-all s (letter name c ∷ words) (says word ∷ given) first takes order plain = absurd order
passes-all s (letter name c ∷ words) [] first takes order plain = absurd order
passes-all s [] given first takes order plain = passes-words s 1 [] given takes order plain nothing_held
passes-all s (flag name ∷ words) given first takes order plain = passes-words s 1 (flag name ∷ words) given takes order plain nothing_held
passes-all s (option name is_needed ∷ words) given first takes order plain =
    passes-words s 1 (option name is_needed ∷ words) given takes order plain nothing_held
passes-all s (place name is_needed ∷ words) given first takes order plain =
    passes-words s 1 (place name is_needed ∷ words) given takes order plain nothing_held
