-- The files of the host behind the first one of `put --each` and `rt-put --each` (profile).
use Rattle.std.specs.Prelude.{◌≡◌, ℕ, Bool, false, if◌then◌else◌, List, [], ◌∷◌, ◌++◌, drop, codes, All, Option, Some, None}
use Rattle.std.specs.List.{list_any}
use Rattle.std.specs.Str.{bytes_eq}
use Rattle.f11_words.specs.Lines.{CommandLine, given_in, is_option, put_each_line, rt_put_each_line, words_given}
use Rattle.f11_words.specs.Usage.{texts_in}
use Rattle.f11_words.specs.declared.words.Manner.{Manner}

-- the words behind the options, and the mode behind one
abbrev pub behind_options : List (List ℕ) → List (List ℕ)
behind_options [] = []
behind_options (word ∷ []) = if is_option word then [] else word ∷ []
behind_options (word ∷ next ∷ words) =
    if bytes_eq word (codes "--mode") then behind_options words
    else (if is_option word then behind_options (next ∷ words) else word ∷ next ∷ words)

-- `--each` is among them
abbrev pub has_each : List (List ℕ) → Bool
has_each words = list_any (λ word. bytes_eq word (codes "--each")) words

-- how many words of a command stand before the other files of the host, where it takes several: of `put` the image, the directory, and the
-- first one, of `rt-put` the volume and the first one
abbrev pub places_of : List ℕ → Option ℕ
places_of command = if bytes_eq command (codes "put") then Some 3 else (if bytes_eq command (codes "rt-put") then Some 2 else None)

-- and how many do in a command line, where `--each` is in it
abbrev pub places_in : List (List ℕ) → Option ℕ
places_in [] = None
places_in (program ∷ []) = None
places_in (program ∷ command ∷ words) = if has_each words then places_of command else None

-- the other files are the words behind these
abbrev pub hosts_behind : Option ℕ → List (List ℕ) → List (List ℕ)
hosts_behind (Some places) words = drop places (behind_options (drop 2 words))
hosts_behind None words = []

abbrev pub other_hosts : List (List ℕ) → List (List ℕ)
other_hosts words = hosts_behind (places_in words) words

-- Other files stand behind a command line whose own words are no options.
abbrev pub StandsBefore : CommandLine → Type 0
StandsBefore line =
    (program : List ℕ) (others : List (List ℕ)) → All (λ word. is_option word ≡ false) (texts_in (given_in line)) →
    other_hosts (program ∷ (words_given line ++ others)) ≡ others

-- So it is of each line of the two commands that take several.
pub record HostsStandBehind : Type 0 where
  pub put : (manner : Manner) (fitted : Bool) (mode : Option (List ℕ)) (image dir host : List ℕ) →
      StandsBefore (put_each_line manner fitted mode image dir host)
  pub rt_put : (manner : Manner) (fitted : Bool) (mode : Option (List ℕ)) (rt host : List ℕ) →
      StandsBefore (rt_put_each_line manner fitted mode rt host)
