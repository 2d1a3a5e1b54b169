-- The bytes of a file of the host, block by block (profile).
use Rattle.std.specs.Prelude.{◌≡◌, ℕ, ◌+◌, ◌-◌, ◌*◌, ◌/◌, List, ◌++◌, All, length, replicate, Option}
use Rattle.std.specs.Io.KnownBytes.{Consumes}
use Rattle.std.specs.List.{concat}

-- how many blocks so many bytes take, the last one filled up
abbrev pub blocks_for : ℕ → ℕ
blocks_for bytes = (bytes + 511) / 512

-- bytes, filled up with zeros to so many blocks
abbrev pub filled_up : List ℕ → ℕ → List ℕ
filled_up bytes blocks = bytes ++ replicate (512 * blocks - length bytes) 0

-- So many bytes were read into a block, whose other bytes are zeros.
pub record ReadsPiece (count : ℕ) (unread unread' : Option (List ℕ)) (block : List ℕ) : Type 0 where
  pub piece : List ℕ
  pub size : length piece ≡ count
  pub takes : Consumes unread unread' piece
  pub is : block ≡ piece ++ replicate (512 - count) 0

-- These blocks hold these bytes, the last one filled up with zeros.
pub record IsInBlocks (bytes : List ℕ) (blocks : List (List ℕ)) : Type 0 where
  pub content_is : concat blocks ≡ filled_up bytes (blocks_for (length bytes))
  pub whole : All (λ block. length block ≡ 512) blocks
