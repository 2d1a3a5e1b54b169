-- What stands while headers of no file go, and blocks that no header names become free: the files stay (profile).
use Rattle.std.specs.Prelude.{◌≡◌, ℕ, ◌≤◌, false, IsTrue}
use Rattle.f11_dev.specs.Disk.{Disk}
use Rattle.f11_dev.specs.Image.{Image}
use Rattle.f11_volume.specs.home.Home.{HomeFields}
use Rattle.f11_store.specs.Lags.{SameLimits}
use Rattle.f11_store.specs.Store.{Store}
use Rattle.f11_volume.specs.Sound.{HasSoundVolume}
use Rattle.f11_image_store.specs.StoreOf.{store_of}

-- A store has the files of another, and what is free there is free here.
pub record FreesMore (s t : Store) : Type 0 where
  pub files : (n : ℕ) → t.file n ≡ s.file n
  pub free : s.free ≤ t.free
  pub unused : (n : ℕ) → s.in_use n ≡ false → t.in_use n ≡ false
  pub last : (n : ℕ) → t.last n ≡ s.last n
  pub slots : t.slots ≡ s.slots
  pub limits : SameLimits s t

-- An image that stands meanwhile: its volume is sound, and its store has the files of this one, with no less free.
pub record IsFreeing (home : HomeFields) (s : Store) (image : Image) : Type 0 where
  pub sound : HasSoundVolume image home
  pub frees : FreesMore s (store_of image home)

-- that of an honest disk
abbrev pub Freeing : HomeFields → Store → Disk → Image → Type 0
Freeing home s old image = IsTrue old.honest → IsFreeing home s image
