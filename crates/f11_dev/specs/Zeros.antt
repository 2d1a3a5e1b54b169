-- Zeros in blocks that follow one another, and what writing them does to a disk.
use Rattle.std.specs.Prelude.{◌≡◌, ◌⊎◌, ℕ, zero, suc, ◌+◌, ◌<◌, true, false, Result, OnOk, OnErr}
use Rattle.f11_bytes.specs.Block.{zero_block}
use Rattle.f11_dev.specs.Disk.{Disk, with_transfer, with_block_at}

-- so many blocks from block lbn on became zeros, one after another, each in a transfer
abbrev pub with_zeros_from : ℕ → ℕ → Disk → Disk
with_zeros_from lbn zero d = d
with_zeros_from lbn (suc count) d = with_transfer true (with_block_at (lbn + count) zero_block (with_zeros_from lbn count d))

-- Fewer than so many blocks from block lbn on became zeros, and the transfer of the next one failed, which left it old or new.
pub record StopsAmongZeros (lbn count : ℕ) (old new : Disk) : Type 0 where
  pub written : ℕ
  pub fewer : written < count
  pub fails : (new ≡ with_transfer false (with_zeros_from lbn written old))
      ⊎ (new ≡ with_transfer false (with_block_at (lbn + written) zero_block (with_zeros_from lbn written old)))

-- Zeros were written to so many blocks from block lbn on: all became zeros where it succeeds, and the first ones where it fails.
pub record WritesZeros {E : Type 0} (result : Result Unit E) (lbn count : ℕ) (old new : Disk) : Type 0 where
  pub ok : OnOk result (new ≡ with_zeros_from lbn count old)
  pub err : OnErr result (StopsAmongZeros lbn count old new)
