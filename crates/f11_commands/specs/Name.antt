-- The lines of `name` (profile).
use Rattle.std.specs.Prelude.{◌≡◌, ◌++◌, ◌∷◌, [], ℕ, List, Option, codes, slice_index}
use Rattle.std.specs.Fmt.{decimal}
use Rattle.f11_rad50.specs.Name.{Spells}
use Rattle.f11_commands.specs.Output.{WriterTakes}
use Rattle.f11_commands.specs.declared.outcome.Answer.{Answer}
use Rattle.f11_commands.specs.declared.outcome.Answer.TheVariants.{Done}

-- The line of a name: its three words of characters, that of its type, and its version.
abbrev pub words_line : List ℕ → List ℕ
words_line words = codes "words " ++ (decimal (slice_index words 0) ++ (codes " " ++ (decimal (slice_index words 1)
    ++ (codes " " ++ (decimal (slice_index words 2) ++ (codes " " ++ (decimal (slice_index words 3)
    ++ (codes " " ++ (decimal (slice_index words 4) ++ 10 ∷ [])))))))))

-- the line of a text that is no name
abbrev pub bad_name_line : List ℕ
bad_name_line = codes "bad name" ++ 10 ∷ []

-- The line of these words was written, and all is well.
pub record PrintsWords {W : Type 0} (words : List ℕ) (contents : W → Option (List ℕ)) (old new : W) (answer : Answer) : Type 0 where
  pub done : answer ≡ Done
  pub takes : WriterTakes contents old new (words_line words)

-- The text spells a name, and the line of its words was written.
pub record PrintsName {W : Type 0} (text : List ℕ) (contents : W → Option (List ℕ)) (old new : W) : Type 0 where
  pub words : List ℕ
  pub spells : Spells text words
  pub takes : WriterTakes contents old new (words_line words)

-- The text spells no name, and that was written.
pub record PrintsBadName {W : Type 0} (text : List ℕ) (contents : W → Option (List ℕ)) (old new : W) : Type 0 where
  pub no_name : (words : List ℕ) → ¬ Spells text words
  pub takes : WriterTakes contents old new bad_name_line
