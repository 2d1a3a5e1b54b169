-- Bytes put in the place of others, and lent to be written.
use Rattle.std.specs.Prelude.{ℕ, ◌+◌, List, ◌++◌, length, take, drop}
use Rattle.std.specs.Borrow.{Lends, MutBor, Fml, Array, u8}

-- the bytes with these in the place of as many others, from byte `at` on
abbrev pub with_bytes : List ℕ → ℕ → List ℕ → List ℕ
with_bytes b at bytes = take at b ++ (bytes ++ drop (at + length bytes) b)

-- an array of n bytes ends with the part that was lent as it was left, and all other bytes as they were
abbrev pub LendsPart : ℕ → MutBor (List ℕ) → ℕ → MutBor (List ℕ) → Fml
LendsPart n array from part = Lends (Array u8 n) (Array u8 0) array part (with_bytes array.now from)
