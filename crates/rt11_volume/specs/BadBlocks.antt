-- The bad blocks of an RT-11 volume for which others stand (RT-11 Volume and File Formats Manual, "Home Block": the bad block replacement
-- table of RL01, RL02, RK06 and RK07 disks; which nothing here follows).
use Rattle.std.specs.Prelude.{◌≡◌, ℕ, ◌*◌, ◌==◌, IsTrue, if◌then◌else◌, nat_lt, List, [], length, map}
use Rattle.std.specs.List.{before_first, range_with_len}
use Rattle.f11_bytes.specs.Words.{word}
use Rattle.f11_dev.specs.Disk.{Disk}
use Rattle.f11_dev.specs.Image.{Image, image_block}
use Rattle.f11_dev.specs.Looked.{Looked}
use Rattle.rt11_volume.specs.declared.directory.LookFault.{LookFault}
use Rattle.rt11_volume.specs.declared.directory.LookFault.TheVariants.{DeviceFault, NoMemory}

-- the table's first words in the bytes of the home block: of at most 32 pairs of words, each a bad block and the one that stands for it,
-- up to a bad block 0
abbrev pub bad_blocks_in : List ℕ → List ℕ
bad_blocks_in bytes = before_first (λ n. n == 0) (map (λ i. word bytes (4 * i)) (range_with_len 0 32))

-- those of an image, in the order of the table
abbrev pub bad_blocks : Image → List ℕ
bad_blocks image = if nat_lt 1 (length image) then bad_blocks_in (image_block image 1) else []

-- The table was read.
pub record ReadsBadBlocks (bad : List ℕ) (old new : Disk) : Type 0 where
  pub bad_are : IsTrue old.honest → bad ≡ bad_blocks old.image
  pub looked : Looked old new 1 0

-- It wasn't, as a transfer failed, or for want of memory.
abbrev pub FailsToReadBadBlocks : LookFault → Disk → Disk → Type 0
FailsToReadBadBlocks DeviceFault old new = Looked old new 1 1
FailsToReadBadBlocks NoMemory old new = Looked old new 1 0
