-- In which order the blocks of a volume are written (profile): a stop behind any write leaves blocks lost, headers dead and headers of no
-- file at worst. Each write is told of the image right before it.
use Rattle.std.specs.Prelude.{◌≡◌, ℕ, suc, ◌<◌, true, false, IsTrue, List, ◌++◌, length, drop}
use Rattle.std.specs.List.{slice_get}
use Rattle.f11_bytes.specs.Block.{zero_block}
use Rattle.f11_dev.specs.Disk.{Disk}
use Rattle.f11_dev.specs.Image.{Image, image_block}
use Rattle.f11_dev.specs.Went.{newest}
use Rattle.f11_volume.specs.header.Header.{IsHeader, IsDead}
use Rattle.f11_volume.specs.home.Home.{HomeFields}
use Rattle.f11_index.specs.Headers.{IsInFile}
use Rattle.f11_index.specs.Table.{table_of, IsLive, IsNext}
use Rattle.f11_volume.specs.Sound.{HasSoundVolume}
use Rattle.f11_volume.specs.Volume.{volume_of, IsNamed}
use Rattle.f11_writes.specs.Fixed.{IsFixed}

-- A write to a sound volume leaves it sound, and is in order. No block that is free is changed, and none that is fixed; what is fixed stays
-- so. A slot comes into use when its header is there, and leaves use when that is dead. A header is lost to which no header of a file
-- links. A block that none named, and one names then, was used and held zeros. A block that comes to be free was named by none.
pub record IsOrderlyWrite (home : HomeFields) (old new : Image) : Type 0 where
  pub sound : HasSoundVolume new home
  pub spares : (lbn : ℕ) → (volume_of old home).free lbn ≡ true → slice_get new lbn ≡ slice_get old lbn
  pub fixed : (lbn : ℕ) → IsFixed old home lbn → (slice_get new lbn ≡ slice_get old lbn) × IsFixed new home lbn
  pub comes : (n : ℕ) → (table_of old home).in_use n ≡ false → (table_of new home).in_use n ≡ true
      → IsHeader ((table_of old home).header n) n
  pub leaves : (n : ℕ) → (table_of old home).in_use n ≡ true → (table_of new home).in_use n ≡ false → IsDead ((table_of old home).header n)
  pub lost : (n m : ℕ) → IsLive (table_of old home) n → ¬ IsLive (table_of new home) n → IsInFile (table_of old home) m →
      ¬ IsNext (table_of old home) m n
  pub named : (lbn : ℕ) → IsNamed (table_of new home) lbn → ¬ IsNamed (table_of old home) lbn →
      ((volume_of old home).free lbn ≡ false) × (image_block old lbn ≡ zero_block)
  pub freed : (lbn : ℕ) → (volume_of old home).free lbn ≡ false → (volume_of new home).free lbn ≡ true → ¬ IsNamed (table_of old home) lbn

-- A write is in order where the volume before it is sound.
pub record IsInOrder (home : HomeFields) (old new : Image) : Type 0 where
  pub orderly : HasSoundVolume old home → IsOrderlyWrite home old new

-- the image that stood before the last so many of the writes which made these images, the newest of them first, behind an old one
abbrev pub image_before : ℕ → List Image → Image → Image
image_before count since old = newest (drop count since) old

-- each of those writes is in order
abbrev pub AreInOrder : HomeFields → Image → List Image → Type 0
AreInOrder home old since = (k : ℕ) → k < length since → IsInOrder home (image_before (suc k) since old) (image_before k since old)

-- A disk was made of another one by writes, each of which is in order, whatever the home block.
pub record MadeInOrder (old new : Disk) : Type 0 where
  pub since : List Image
  pub history : new.history ≡ since ++ old.history
  pub image : new.image ≡ newest since old.image
  pub honest : new.honest ≡ old.honest
  pub each : (home : HomeFields) → AreInOrder home old.image since

-- Calls wrote the blocks of a disk in order, where it is honest.
pub record WritesInOrder (old new : Disk) : Type 0 where
  pub ordered : IsTrue old.honest → MadeInOrder old new
