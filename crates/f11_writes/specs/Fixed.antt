-- The blocks of a volume that no call changes (Files-11 On-Disk Structure Level 1, "Home Block", "Index File", "Storage Bitmap File"
-- and "Bad Block File").
use Rattle.std.specs.Prelude.{◌≡◌, ℕ, ◌≤◌, Some}
use Rattle.std.specs.List.{slice_get}
use Rattle.f11_dev.specs.Image.{Image}
use Rattle.f11_volume.specs.chain.FileHeaders.{file_blocks}
use Rattle.f11_volume.specs.home.Home.{HomeFields}
use Rattle.f11_index.specs.Table.{table_of}
use Rattle.f11_volume.specs.Space.{bitmap_file}
use Rattle.f11_volume.specs.Volume.{volume_of}

-- A block is fixed: it is the boot block, the home block, the control block, which is the first of the storage bitmap file, one of the
-- bad block file, or behind the volume.
pub data IsFixed (image : Image) (home : HomeFields) (lbn : ℕ) : Type 0 where
  boot : lbn ≡ 0 → IsFixed image home lbn
  home_block : lbn ≡ home.lbn → IsFixed image home lbn
  control : slice_get (bitmap_file (table_of image home)) 0 ≡ Some lbn → IsFixed image home lbn
  bad : (i : ℕ) → slice_get (file_blocks (table_of image home) 3) i ≡ Some lbn → IsFixed image home lbn
  behind : (volume_of image home).size ≤ lbn → IsFixed image home lbn

-- Each fixed block of one image is in another as it was.
abbrev pub KeepsFixed : HomeFields → Image → Image → Type 0
KeepsFixed home old new = (lbn : ℕ) → IsFixed old home lbn → slice_get new lbn ≡ slice_get old lbn
