-- A line that is put together piece by piece (profile).
use Rattle.std.specs.Prelude.{◌≡◌, ℕ, ◌+◌, ◌≤◌, List, ◌++◌, length}

-- a piece of at most so many bytes was put behind a text
pub record PutsUpTo (most : ℕ) (old new piece : List ℕ) : Type 0 where
  pub text : new ≡ old ++ piece
  pub within : length new ≤ length old + most
