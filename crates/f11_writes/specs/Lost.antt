-- The lost blocks of a volume, which are used and contained in no file, and what calls leave of them (Files-11 On-Disk Structure Level 1,
-- "Storage Bitmap File").
use Rattle.std.specs.Prelude.{◌≡◌, ℕ, ◌<◌, Bool, true, false, IsTrue, List, ◌++◌, All, Contains}
use Rattle.std.specs.List.{slice_get}
use Rattle.f11_dev.specs.Disk.{Disk}
use Rattle.f11_dev.specs.Image.{Image}
use Rattle.f11_dev.specs.Looked.{Looked}
use Rattle.f11_dev.specs.Went.{newest}
use Rattle.f11_index.specs.Headers.{IsInFile}
use Rattle.f11_index.specs.Table.{IsFile}
use Rattle.f11_volume.specs.chain.FileHeaders.{file_blocks}
use Rattle.f11_volume.specs.home.Home.{HomeFields}
use Rattle.f11_volume.specs.Notes.{IsLost}
use Rattle.f11_volume.specs.Sound.{HasSoundVolume, IsSoundVolume}
use Rattle.f11_volume.specs.Volume.{Volume, volume_of, IsCell}
use Rattle.f11_writes.specs.Order.{WritesInOrder}

-- block lbn of the volume is used, and contained in no file
pub record IsUsedInNoFile (v : Volume) (lbn : ℕ) : Type 0 where
  pub inside : lbn < v.size
  pub used : v.free lbn ≡ false
  pub of_none : (f : ℕ) → IsFile v.table f → ¬ Contains (file_blocks v.table f) lbn

-- those that no header names are such blocks,
abbrev pub NotedAreUsedInNoFile : Type 0
NotedAreUsedInNoFile = (v : Volume) (lbn : ℕ) → IsSoundVolume v → IsLost v lbn → IsUsedInNoFile v lbn

-- and so are those that a header of no file names
abbrev pub OrphansAreUsedInNoFile : Type 0
OrphansAreUsedInNoFile =
    (v : Volume) (n place lbn : ℕ) → IsSoundVolume v → IsCell v.table n place lbn → ¬ IsInFile v.table n → IsUsedInNoFile v lbn

-- Each block that is lost in one image holds in another what it held,
abbrev pub KeepsLost : HomeFields → Image → Image → Type 0
KeepsLost home old new = (lbn : ℕ) → IsUsedInNoFile (volume_of old home) lbn → slice_get new lbn ≡ slice_get old lbn

-- and is lost there, too; one that no header named, none names.
pub record StayLost (home : HomeFields) (old new : Image) : Type 0 where
  pub in_no_file : (lbn : ℕ) → IsUsedInNoFile (volume_of old home) lbn → IsUsedInNoFile (volume_of new home) lbn
  pub unnamed : (lbn : ℕ) → IsLost (volume_of old home) lbn → IsLost (volume_of new home) lbn

-- A disk was made of another one by writes, and each image that stood meanwhile keeps what was lost in the old one.
pub record KeepsLostThroughout (home : HomeFields) (old new : Disk) : Type 0 where
  pub since : List Image
  pub history : new.history ≡ since ++ old.history
  pub image : new.image ≡ newest since old.image
  pub each : All (KeepsLost home old.image) since

-- Calls wrote the blocks of a disk in order, where it is honest, and changed none that was lost before; these are lost still, unless a
-- call has failed the volume. Where one had failed it before, nothing was written, and it has failed still.
pub record SparesLost (failed_before failed_after : Bool) (old new : Disk) : Type 0 where
  pub ordered : WritesInOrder old new
  pub kept : IsTrue old.honest → (home : HomeFields) → HasSoundVolume old.image home → KeepsLostThroughout home old new
  pub stay : failed_after ≡ false → IsTrue old.honest → (home : HomeFields) → HasSoundVolume old.image home →
      StayLost home old.image new.image
  pub spent : failed_before ≡ true → (failed_after ≡ true) × (new.image ≡ old.image) × (new.history ≡ old.history)

-- so they do where they only read,
abbrev pub LooksSpareLost : Type 0
LooksSpareLost =
    (failed_before failed_after : Bool) (old new : Disk) (most faults : ℕ) → (failed_before ≡ true → failed_after ≡ true) →
    Looked old new most faults → SparesLost failed_before failed_after old new

-- and one after another
abbrev pub SparingLostIsKept : Type 0
SparingLostIsKept =
    (failed_before failed_between failed_after : Bool) (a b c : Disk) → SparesLost failed_before failed_between a b →
    SparesLost failed_between failed_after b c → SparesLost failed_before failed_after a c
