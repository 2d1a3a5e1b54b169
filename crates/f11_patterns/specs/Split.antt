-- The characters of a pattern at the front of a text, and what stands behind them.
use Rattle.std.specs.Prelude.{◌≡◌, ℕ, false, List, [], ◌∷◌, ◌++◌, ⊤}
use Rattle.std.specs.List.{AllPass}
use Rattle.f11_patterns.specs.Parts.{is_pattern_character}

-- A text begins with no character of a pattern.
abbrev pub IsStopped : List ℕ → Type 0
IsStopped [] = ⊤
IsStopped (c ∷ text) = is_pattern_character c ≡ false

-- A text is cut behind the characters of a pattern that it begins with.
pub record IsSplit (text front back : List ℕ) : Type 0 where
  pub whole : text ≡ front ++ back
  pub characters : AllPass is_pattern_character front
  pub stopped : IsStopped back
