-- What contracts know of a `FileImage`.
use Rattle.std.specs.Prelude.{◌≡◌, ◌≤◌, ℕ, length}
use Rattle.f11_dev.specs.Disk.{Disk, fresh}
use Rattle.f11_dev.specs.FileDisk.{disk_of_file}
use Rattle.f11_dev.specs.Image.{zero_image}
use Rattle.f11_dev.specs.Outcomes.{with_outcomes}
use Rattle.f11_dev.specs.declared.file_image.FileImage.{FileImage}
use Rattle.f11_dev.specs.declared.file_image.TheConstants.{MAX_BLOCKS}

-- the disk that a file's image is
abbrev pub file_disk : {F : Type 0} → FileImage F → Disk
file_disk f = with_outcomes (disk_of_file f.blocks f.earlier.value f.written) f.outcomes

-- A file was made, of so many blocks: all of them are zeros, and nothing was done to them. Whether it gives back what was
-- last written is left open.
abbrev pub IsMade : Disk → ℕ → Type 0
IsMade disk blocks = disk ≡ fresh disk.honest (zero_image blocks)

-- A file was opened, of at most so many blocks as are used, and nothing was done to it. What it holds is left open, and
-- whether it gives that back.
pub record IsOpened (disk : Disk) : Type 0 where
  pub untouched : disk ≡ fresh disk.honest disk.image
  pub few : length disk.image ≤ MAX_BLOCKS
