-- What is found of files that are marked contiguous.
use Rattle.std.specs.Prelude.{◌≡◌, ℕ, ◌<◌}
use Rattle.std.specs.Int.{bit_at}
use Rattle.f11_dev.specs.Image.{Image}
use Rattle.f11_header.specs.Fields.{characteristics}
use Rattle.f11_index.specs.Table.{Table, IsFile}
use Rattle.f11_volume.specs.Contents.{blocks_reached}
use Rattle.f11_volume.specs.Notes.{AreContiguous, IsVolumeNote}
use Rattle.f11_volume.specs.Volume.{Volume}
use Rattle.f11_vfy.specs.Scanning.Scans.{IsFileSlot}
use Rattle.f11_vfy.specs.declared.survey.slot.Slot.{Slot}

-- a file's first header, with the contiguous mark
abbrev pub IsMarkedContiguous : Slot → Type 0
IsMarkedContiguous s = IsFileSlot s × (bit_at s.characteristics 7 ≡ 1)

-- file n has the contiguous mark, and isn't contiguous
pub record IsApart (t : Table) (n : ℕ) : Type 0 where
  pub file : IsFile t n
  pub mark : bit_at (characteristics (t.header n)) 7 ≡ 1
  pub apart : ¬ AreContiguous (blocks_reached t n)

-- a note of the last code
pub record IsLastNote (image : Image) (v : Volume) (code a b : ℕ) : Type 0 where
  pub last : 9 < code
  pub note : IsVolumeNote image v code a b
