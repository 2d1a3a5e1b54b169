-- What stands while a file grows, run by run: blocks are marked used, made zeros, and named by the file's last header, or by a
-- new one to which that links then (profile).
use Rattle.std.specs.Prelude.{◌≡◌, ◌⊎◌, ℕ, ◌+◌, ◌*◌, ◌≤◌, IsTrue}
use Rattle.f11_dev.specs.Disk.{Disk}
use Rattle.f11_dev.specs.Image.{Image}
use Rattle.f11_dev.specs.Went.{Went}
use Rattle.f11_home.specs.Home.{HomeFields}
use Rattle.f11_store.specs.File.{need}
use Rattle.f11_store.specs.Pieces.{TakesSome, GrowsAs, GrowsSome, file_numbered}
use Rattle.f11_store.specs.Store.{Store}
use Rattle.f11_volume.specs.Sound.{HasSoundVolume}
use Rattle.f11_volume.specs.Volume.{volume_of}
use Rattle.f11_image_store.specs.StoreOf.{store_of}

-- An image that stands meanwhile: its volume is sound, and of this store so many blocks and headers at most were taken.
pub record IsTaking (home : HomeFields) (blocks headers : ℕ) (s : Store) (image : Image) : Type 0 where
  pub sound : HasSoundVolume image home
  pub takes : TakesSome blocks headers s (store_of image home)

-- that of an honest disk
abbrev pub WhileTaking : HomeFields → ℕ → ℕ → Store → Disk → Image → Type 0
WhileTaking home blocks headers s old image = IsTrue old.honest → IsTaking home blocks headers s image

-- One that stands meanwhile, or at the end: the file may have what was taken.
pub record IsGrowing (home : HomeFields) (blocks headers : ℕ) (End : Store → Type 0) (s : Store) (image : Image) : Type 0 where
  pub sound : HasSoundVolume image home
  pub stage : TakesSome blocks headers s (store_of image home) ⊎ End (store_of image home)

-- that of an honest disk
abbrev pub Growing : HomeFields → ℕ → ℕ → (Store → Type 0) → Store → Disk → Image → Type 0
Growing home blocks headers End s old image = IsTrue old.honest → IsGrowing home blocks headers End s image

-- File k of this store has n blocks of zeros more in so many pointers at most, as slots where it is the index file, after so many transfers
-- at most and three for each header added.
pub record Grew (P : Image → Type 0) (home : HomeFields) (s : Store) (k n pointers most : ℕ) (old new : Disk) : Type 0 where
  pub grows : IsTrue old.honest → GrowsAs s k n pointers (store_of new.image home)
  pub transfers : ℕ
  pub went : Went P old new transfers 0
  pub few : (honest : IsTrue old.honest) → transfers ≤ most + 3 * (grows honest).grows.added

-- what stands while file k grows by n blocks or fewer of them, in so many pointers at most
abbrev pub GrowingBy : HomeFields → Store → ℕ → ℕ → ℕ → Disk → Image → Type 0
GrowingBy home s k n pointers old = Growing home n (need (file_numbered s k).room pointers) (GrowsSome s k n pointers) s old

-- and where the blocks were marked used before: of the store with them free
abbrev pub GrowingInto : HomeFields → Store → Store → ℕ → ℕ → ℕ → Disk → Image → Type 0
GrowingInto home s free k n pointers old = Growing home 0 (need (file_numbered s k).room pointers) (GrowsAs free k n pointers) s old

-- the blocks that are free in an image are those of another
abbrev pub SameFree : HomeFields → Image → Image → Type 0
SameFree home old new = (volume_of new home).free ≡ (volume_of old home).free
