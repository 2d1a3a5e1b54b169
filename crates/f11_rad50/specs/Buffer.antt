-- Bytes put into a buffer.
use Rattle.std.specs.Prelude.{◌≡◌, ℕ, ◌+◌, List, length}
use Rattle.f11_bytes.specs.Part.{with_bytes}

-- The new buffer is the old one with a piece from one place on, up to another.
pub record IsPut (old new piece : List ℕ) (at next : ℕ) : Type 0 where
  pub next_is : next ≡ at + length piece
  pub written : new ≡ with_bytes old at piece
