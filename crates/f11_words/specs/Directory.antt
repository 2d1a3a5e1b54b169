-- How a command line names a directory (profile): by the code of its user or by its name, in brackets or without.
use Rattle.std.specs.Prelude.{◌≡◌, ◌≢◌, ◌==◌, ◌<◌, Bool, ℕ, List, [], ◌∷◌, ◌++◌, codes, length, map, Option, Some, None, if◌then◌else◌}
use Rattle.std.specs.Char.{to_ascii_uppercase}
use Rattle.std.specs.List.{after_first, before_first, list_any, position_or_len}
use Rattle.f11_rad50.specs.Name.{Spells}
use Rattle.f11_numbers.specs.Octal.{SpellsUic}
use Rattle.f11_store.specs.declared.callers.Uic.{Uic}
use Rattle.f11_words.specs.declared.directory.Directory.{Directory}
use Rattle.f11_words.specs.declared.directory.Directory.TheVariants.{Named, Of}

-- a text spells no user's code
abbrev pub IsNoUic : List ℕ → Type 0
IsNoUic text = (uic : Uic) → ¬ SpellsUic text uic

-- what stands in brackets, 91 and 93 in ASCII, or the text itself where it doesn't stand in brackets
pub data IsWithin (text inner : List ℕ) : Type 0 where
  bracketed : text ≡ 91 ∷ (inner ++ (93 ∷ [])) → IsWithin text inner
  bare : ((t : List ℕ) → text ≢ 91 ∷ (t ++ (93 ∷ []))) → text ≡ inner → IsWithin text inner

-- a dot, 46, stands in a text
abbrev pub has_dot : List ℕ → Bool
has_dot text = list_any (λ c. c == 46) text

-- the name that a text stands for, its small letters as capitals: without a dot that of a directory of version 1
abbrev pub full_name : List ℕ → List ℕ
full_name text = map to_ascii_uppercase text ++ (if has_dot text then [] else codes ".DIR;1")

-- a text without brackets spells a user's code, and so the directory of that user; else a directory's name
abbrev pub SpellsBare : List ℕ → Directory → Type 0
SpellsBare text (Of uic) = SpellsUic text uic
SpellsBare text (Named words) = IsNoUic text × Spells (full_name text) words

-- A text spells a directory.
pub record SpellsDirectory (text : List ℕ) (directory : Directory) : Type 0 where
  pub inner : List ℕ
  pub within : IsWithin text inner
  pub spells : SpellsBare inner directory

-- A text in brackets, 91 and 93 in ASCII, spells a directory: so a folder of the host is called.
pub record IsCalled (text : List ℕ) (directory : Directory) : Type 0 where
  pub inner : List ℕ
  pub within : text ≡ 91 ∷ (inner ++ (93 ∷ []))
  pub spells : SpellsBare inner directory

-- a text spells none
abbrev pub IsNoDirectory : List ℕ → Type 0
IsNoDirectory text = (directory : Directory) → ¬ SpellsDirectory text directory

-- a slash, 47
abbrev pub is_slash : ℕ → Bool
is_slash c = c == 47

-- in which other directory a file gets a new name, and which: without a slash the text is the name, and there is none; else the name stands
-- behind the first slash, and the directory before it
pub data SpellsTarget (text : List ℕ) (to : Option Directory) (name : List ℕ) : Type 0 where
  within : position_or_len is_slash text ≡ length text → to ≡ None → name ≡ text → SpellsTarget text to name
  elsewhere : (directory : Directory) → position_or_len is_slash text < length text
      → SpellsDirectory (before_first is_slash text) directory → to ≡ Some directory → name ≡ after_first is_slash text
      → SpellsTarget text to name

-- a text spells none: there is a slash, and before it no directory
abbrev pub IsNoTarget : List ℕ → Type 0
IsNoTarget text = (position_or_len is_slash text < length text) × IsNoDirectory (before_first is_slash text)
