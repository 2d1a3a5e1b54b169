-- What is read off a list of writes.
use Rattle.std.specs.Prelude.{◌≡◌, ◌⊎◌, ℕ, Bool, false, IsTrue, if◌then◌else◌, List}
use Rattle.f11_dev.specs.Image.{Image, zero_image}
use Rattle.f11_dev.specs.Disk.{Disk, fresh, with_block_at}
use Rattle.f11_dev.specs.declared.written.Written.{Written, Nothing, Then'}

-- a disk after these writes, each of which landed or didn't
abbrev pub written_disk : Disk → Written → Disk
written_disk d Nothing = d
written_disk d (Then' shape earlier entry) =
    if entry.landed.value then with_block_at entry.lbn.value entry.block.value (written_disk d earlier) else written_disk d earlier

-- so many blocks of zeros after these writes
abbrev pub written_image : ℕ → Written → Image
written_image blocks writes = (written_disk (fresh false (zero_image blocks)) writes).image

-- A write was added. Where it passed it landed; where it failed it landed or didn't.
pub record Adds (passed : Bool) (lbn : ℕ) (block : List ℕ) (old new : Written) : Type 0 where
  pub lands : IsTrue passed → (d : Disk) → written_disk d new ≡ with_block_at lbn block (written_disk d old)
  pub lands_or_not : (d : Disk) →
      (written_disk d new ≡ written_disk d old) ⊎ (written_disk d new ≡ with_block_at lbn block (written_disk d old))
