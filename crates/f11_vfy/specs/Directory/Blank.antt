-- Blocks that hold no record of a directory (Files-11 On-Disk Structure Level 1, "Directories").
use Rattle.std.specs.Prelude.{◌≡◌, ◌<◌, ◌≤◌, ◌⊎◌, ◌↔◌, ℕ, true, List}
use Rattle.f11_dev.specs.Image.{Image}
use Rattle.f11_store.specs.Directory.{is_empty, record_in}
use Rattle.f11_vfy.specs.Surveying.Bits.{has, limit_of}
use Rattle.f11_volume.specs.Contents.{block_or_zeros}
use Rattle.f11_vfy.specs.declared.survey.bits.Bits.{Bits}

-- a block holds no record: each of its 32 is empty
abbrev pub HoldsNoRecord : List ℕ → Type 0
HoldsNoRecord block = (k : ℕ) → k < 32 → is_empty (record_in block k) ≡ true

-- no block of the set holds one
abbrev pub HoldNoRecord : Bits → Image → Type 0
HoldNoRecord known image = (lbn : ℕ) → has known lbn ≡ true → HoldsNoRecord (block_or_zeros image lbn)

-- the set has the blocks from one on, before another
abbrev pub HasAll : Bits → ℕ → ℕ → Type 0
HasAll known first end = (lbn : ℕ) → first ≤ lbn → lbn < end → has known lbn ≡ true

-- the set has room for block lbn, which has these bytes and holds no record
abbrev pub MayAdd : Bits → ℕ → List ℕ → Type 0
MayAdd known lbn block = (lbn < limit_of known) × HoldsNoRecord block

-- Block lbn, of these bytes, was put into the set where it may be.
pub record AddsBlank (lbn : ℕ) (block : List ℕ) (old new : Bits) : Type 0 where
  pub limit : limit_of new ≡ limit_of old
  pub adds : (j : ℕ) → has new j ≡ true ↔ ((has old j ≡ true) ⊎ ((j ≡ lbn) × MayAdd old lbn block))
