-- A block (Files-11 On-Disk Structure Level 1, "Medium").
use Rattle.std.specs.Prelude.{◌≡◌, ℕ, ◌<◌, List, length, replicate, slice_index}

-- a block is 512 bytes
pub record IsBlock (b : List ℕ) : Type 0 where
  pub size : length b ≡ 512
  pub bytes : (i : ℕ) → slice_index b i < 256

-- the block of zeros
unfoldable pub zero_block : List ℕ
zero_block = replicate 512 0
