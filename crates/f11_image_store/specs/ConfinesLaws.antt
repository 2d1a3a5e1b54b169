-- Which blocks of a sound volume calls on files don't change on their own account (Files-11 On-Disk Structure Level 1, "Index
-- File" and "Storage Bitmap File").
use Rattle.std.specs.Prelude.{◌≡◌, ℕ, ◌≤◌, Bool, Some}
use Rattle.std.specs.List.{slice_get}
use Rattle.f11_volume.specs.chain.FileHeaders.{file_blocks}
use Rattle.f11_dev.specs.Image.{Image}
use Rattle.f11_volume.specs.home.Home.{HomeFields}
use Rattle.f11_index.specs.IndexFile.{index_of}
use Rattle.f11_index.specs.Table.{table_of, IsFile}
use Rattle.f11_volume.specs.Sound.{HasSoundVolume}
use Rattle.f11_volume.specs.Space.{bitmap_file, storage_bitmap}
use Rattle.f11_volume.specs.Volume.{volume_of, IsNamed}
use Rattle.f11_image_store.specs.Confines.{IsNoPart}

-- a block of a volume that is none of those, whichever headers a call may change
abbrev pub IsSpared : Image → HomeFields → ℕ → Type 0
IsSpared image home lbn = (headers : ℕ → Bool) → IsNoPart headers (index_of image home) (storage_bitmap image home) lbn

-- The boot block isn't one,
abbrev pub BootBlockIsSpared : Type 0
BootBlockIsSpared = (image : Image) (home : HomeFields) → HasSoundVolume image home → IsSpared image home 0

-- nor the home block,
abbrev pub HomeBlockIsSpared : Type 0
HomeBlockIsSpared = (image : Image) (home : HomeFields) → HasSoundVolume image home → IsSpared image home home.lbn

-- nor the control block, which is the first of the storage bitmap file,
abbrev pub ControlBlockIsSpared : Type 0
ControlBlockIsSpared =
    (image : Image) (home : HomeFields) (lbn : ℕ) → HasSoundVolume image home → slice_get (bitmap_file (table_of image home)) 0 ≡ Some lbn →
    IsSpared image home lbn

-- nor a block of a file from 3 on,
abbrev pub FileBlockIsSpared : Type 0
FileBlockIsSpared =
    (image : Image) (home : HomeFields) (f i lbn : ℕ) → HasSoundVolume image home → IsFile (table_of image home) f → 3 ≤ f →
    slice_get (file_blocks (table_of image home) f) i ≡ Some lbn → IsSpared image home lbn

-- nor one that no header names, free or lost,
abbrev pub UnnamedBlockIsSpared : Type 0
UnnamedBlockIsSpared = (image : Image) (home : HomeFields) (lbn : ℕ) → HasSoundVolume image home → ¬ IsNamed (table_of image home) lbn →
    IsSpared image home lbn

-- nor one behind the volume.
abbrev pub BlockBehindIsSpared : Type 0
BlockBehindIsSpared = (image : Image) (home : HomeFields) (lbn : ℕ) → HasSoundVolume image home → (volume_of image home).size ≤ lbn →
    IsSpared image home lbn
